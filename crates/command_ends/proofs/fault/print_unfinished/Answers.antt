use Rattle.std.proofs.Common.{◌∙◌, ◌++◌, ap, refl}
use Rattle.std.specs.Prelude.{codes}
use Rattle.outside_io.proofs.WritesInTurn.{writes_as}
use Rattle.run_words.specs.Text.{ended}
use Rattle.command_ends.proofs.fault.print_unfinished.Goals as goal

pub returns : goal.returns
returns g c = writes_as refl (ap ended (c.push_word.ensures.items ∙ ap (λ items. items ++ codes "TRACE UNFINISHED") c.new-out.ensures)) c.write_line.ensures
