use Rattle.std.proofs.Common.{rules, List, ℕ, subst}
use Rattle.std.specs.declared.option.Option.{Option}
use Rattle.check_command.specs.Answers.{KeepsText}
use Rattle.outside_io.specs.BytesLeft.{bytes_left, pending}
use Rattle.check_command.proofs.Verdicts.{read_told}
use Rattle.check_command.proofs.judging.judge_source.Goals as goal

pub returns-clause-text : goal.returns-clause-text
returns-clause-text g c =
    let lines = c.judge_lines-answer.new.lines in
    read_told c.judge_lines-answer.result (g.S.Source.seen c.args.source.now).left (bytes_left g.S.Source.seen c.new-lines.result) (g.S.Source.seen lines.source.now).left _ (pending lines.buffer lines.next lines.filled)
    c.new-lines.ensures.left (search rules) c.let_go.ensures.few c.judge_lines-answer.ensures.text

pub returns-clause-kept : goal.returns-clause-kept
returns-clause-kept g c =
    subst (λ (input : Option (List ℕ)). KeepsText c.judge_lines-answer.result input c.judge_lines-answer.new.kept.items) c.new-lines.ensures.left c.judge_lines-answer.ensures.kept
