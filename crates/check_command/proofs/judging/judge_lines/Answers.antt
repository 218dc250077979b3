use Rattle.outside_io.specs.BytesLeft.{bytes_left}
use Rattle.check_command.proofs.Verdicts.{log_told, log_counts, log_text}
use Rattle.check_command.proofs.judging.judge_lines.Goals as goal

pub returns-in-Ok-clause-text : goal.returns-in-Ok-clause-text
returns-in-Ok-clause-text g c =
    log_told c.in-Ok.config c.check_log.result (bytes_left g.S.Source.seen c.args.lines.now) (bytes_left g.S.Source.seen c.read_head.new.lines) (bytes_left g.S.Source.seen c.check_log.new.lines)
    c.in-Ok.ensures.text c.check_log.ensures.text

pub returns-in-Ok-clause-faults : goal.returns-in-Ok-clause-faults
returns-in-Ok-clause-faults g c = log_counts c.check_log.result _ _ _ c.in-Ok.ensures.faults c.check_log.ensures.faults

pub returns-in-Ok-clause-kept : goal.returns-in-Ok-clause-kept
returns-in-Ok-clause-kept g c =
    log_text c.in-Ok.config c.check_log.result (bytes_left g.S.Source.seen c.args.lines.now) (bytes_left g.S.Source.seen c.read_head.new.lines) (bytes_left g.S.Source.seen c.check_log.new.lines) c.check_log.new.kept.items
    c.in-Ok.ensures.text c.check_log.ensures.text c.check_log.ensures.kept
