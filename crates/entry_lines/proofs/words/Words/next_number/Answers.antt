use Rattle.std.proofs.Common.{All, sym, subst}
use Rattle.std.specs.Prelude.{decimal}
use Rattle.vm_text.specs.Spaced.{IsOther}
use Rattle.vm_text.proofs.Blanks.{above_other, decimal_above}
use Rattle.entry_lines.proofs.words.Words.next_number.Goals as goal

pub take_front-requires-clause-other : goal.take_front-requires-clause-other
take_front-requires-clause-other c =
    subst (λ text. All (IsOther 32) text) (sym c.in-Some-front_number.ensures.front.same)
    (above_other (decimal c.in-Some-front_number.number) (decimal_above c.in-Some-front_number.number c.in-Some-front_number.ensures.small))
