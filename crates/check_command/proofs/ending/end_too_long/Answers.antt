use Rattle.std.proofs.Common.{ap, subst, ◌∙◌, ◌++◌, List, ℕ}
use Rattle.std.specs.Prelude.{codes}
use Rattle.run_words.specs.Text.{ended, status_line}
use Rattle.command_ends.specs.Ends.{Ends}
use Rattle.check_command.proofs.ending.end_too_long.Goals as goal

pub returns : goal.returns
returns g c =
    let items = c.push_word.ensures.items ∙ ap (λ items. items ++ codes "LOG TOOMANY") c.new-line.ensures in
    subst (λ (line : List ℕ). Ends (g.K.Sink.seen c.args.sink.now)
    (g.K.Sink.seen c.end_line.new.sink) 2 (ended line ++ status_line 2) c.end_line.result.0) items c.end_line.ensures
