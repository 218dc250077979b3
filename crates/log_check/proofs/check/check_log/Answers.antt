use Rattle.std.proofs.Common.{subst}
use Rattle.std.specs.Prelude.{IfSome}
use Rattle.std.proofs.lemmas.Result.{err_from_is_err_and}
use Rattle.outside_io.specs.BytesLeft.{bytes_left}
use Rattle.shadow_history.specs.Standing.{Passed}
use Rattle.log_check.specs.Judged.{Judges}
use Rattle.log_check.proofs.Logs.{log_unbegun}
use Rattle.log_check.proofs.check.check_log.Goals as goal

pub returns-in_err-followed-clause-text : goal.returns-in_err-followed-clause-text
returns-in_err-followed-clause-text g c =
    let p = err_from_is_err_and c.from_residual.result c.from_residual.ensures.1 in
    log_unbegun c.args.config.now (bytes_left g.S.Source.seen c.args.lines.now) c.from_residual.result p.0 p.1 p.2

pub returns-clause-text : goal.returns-clause-text
returns-clause-text g c =
    subst (λ (s : Passed). IfSome (bytes_left g.S.Source.seen c.args.lines.now) (λ text. Judges s.config c.judge.result text (bytes_left g.S.Source.seen c.judge.new.lines)))
    c.in_ok-followed.ensures.past c.judge.ensures.text
