use Rattle.std.proofs.Common.{All, sym, subst, arith}
use Rattle.vm_text.specs.Names.{frame_text}
use Rattle.vm_text.specs.Spaced.{IsOther}
use Rattle.vm_text.proofs.Blanks.{above_other, decimal_above}
use Rattle.entry_lines.proofs.words.Words.next_frame.Goals as goal

pub take_front-requires-clause-other : goal.take_front-requires-clause-other
take_front-requires-clause-other c =
    subst (λ text. All (IsOther 32) text) (sym c.in-Some-front_frame.ensures.front.same)
    (above_other (frame_text c.in-Some-front_frame.number) (decimal_above c.in-Some-front_frame.number (omega (arith, c.in-Some-front_frame.ensures.small))))
