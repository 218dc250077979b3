use Rattle.std.proofs.Common.{All, sym, subst}
use Rattle.vm_text.specs.Hex.{hex}
use Rattle.vm_text.specs.Spaced.{IsOther}
use Rattle.vm_text.proofs.Blanks.{above_other, hex_above}
use Rattle.entry_lines.proofs.words.Words.next_hex.Goals as goal

pub take_front-requires-clause-other : goal.take_front-requires-clause-other
take_front-requires-clause-other c =
    subst (λ text. All (IsOther 32) text) (sym c.in-Some-front_hex.ensures.front.same)
    (above_other (hex c.args.places c.in-Some-front_hex.value) (hex_above c.args.places c.in-Some-front_hex.value))
