use Rattle.std.proofs.Common.{◌∙◌, List, ℕ, ap, refl, take, arith, lit≤}
use Rattle.std.proofs.lemmas.Result.{err_from_is_err_and}
use Rattle.outside_io.specs.BytesLeft.{bytes_left}
use Rattle.shadow_history.specs.Standing.{Passed}
use Rattle.log_check.proofs.Fronts.{last_kept, next_kept}
use Rattle.log_check.proofs.Logs.{begun_behind, begun_few, begun_read, log_ended, log_failed, log_judged, log_unbegun}
use Rattle.log_check.proofs.check.judge.Goals as goal

pub lines-init : goal.lines-init
lines-init g c = record {
  same_reference = refl;
  followed = c.requires.followed;
  config = refl;
  fewer = begun_few (c.args.followed.now).past.config (c.args.followed.now).past c.requires.unread;
  most = lit≤ tt;
  read = begun_read (c.args.followed.now).past.config (bytes_left g.S.Source.seen c.args.lines.now) (c.args.followed.now).past c.requires.unread;
  behind = begun_behind (bytes_left g.S.Source.seen c.args.lines.now);
  still_told = λ told. told;
  faults = refl;
}

pub returns-in-Err-clause-text : goal.returns-in-Err-clause-text
returns-in-Err-clause-text g c =
    log_failed (c.args.followed.now).past.config (bytes_left g.S.Source.seen c.args.lines.now) (bytes_left g.S.Source.seen c.lines.lines) (bytes_left g.S.Source.seen c.take_next.new.lines)
    c.lines.followed c.take_next.new.followed c.lines.place c.lines.count c.in-Err.fault
    c.lines.invariant.read c.in-Err.ensures.text c.lines.invariant.config

pub returns-in-Ok-Judged-clause-text : goal.returns-in-Ok-Judged-clause-text
returns-in-Ok-Judged-clause-text g c =
    log_judged (c.args.followed.now).past.config (bytes_left g.S.Source.seen c.args.lines.now) (bytes_left g.S.Source.seen c.lines.lines) (bytes_left g.S.Source.seen c.take_next.new.lines)
    c.lines.followed c.take_next.new.followed c.lines.place c.lines.count c.in-Ok-Judged.field-0 c.in-Ok-Judged.verdict
    c.lines.invariant.read c.in-Ok-Judged.ensures.text c.in-Ok-Judged.field-0-is c.lines.invariant.config

pub returns-clause-text : goal.returns-clause-text
returns-clause-text g c =
    let most = c.lines.invariant.most in
    let over = c.lines-test.false in
    log_ended (c.args.followed.now).past.config (bytes_left g.S.Source.seen c.args.lines.now) (bytes_left g.S.Source.seen c.lines.lines) (bytes_left g.S.Source.seen c.judge_last-answer.new.lines)
    c.lines.followed c.lines.place c.lines.count c.judge_last-answer.result
    c.lines.invariant.read c.judge_last-answer.ensures.text (omega (arith, most, over)) c.lines.invariant.config

pub returns-in-Ok-Judged-clause-kept : goal.returns-in-Ok-Judged-clause-kept
returns-in-Ok-Judged-clause-kept g c =
    next_kept (bytes_left g.S.Source.seen c.args.lines.now) (bytes_left g.S.Source.seen c.lines.lines) (bytes_left g.S.Source.seen c.take_next.new.lines) c.lines.count c.take_next.new.out.items c.keep_front.new.kept.items
    c.in-Ok-Judged.field-0 c.in-Ok-Judged.verdict c.lines.invariant.behind c.in-Ok-Judged.ensures.front c.in-Ok-Judged.field-0-is
    (c.keep_front.ensures ∙ ap (λ (xs : List ℕ). take 80 xs) c.as_slice.ensures.value)

pub returns-clause-kept : goal.returns-clause-kept
returns-clause-kept g c =
    let most = c.lines.invariant.most in
    let over = c.lines-test.false in
    last_kept (bytes_left g.S.Source.seen c.args.lines.now) (bytes_left g.S.Source.seen c.lines.lines) c.lines.count c.judge_last-answer.new.out.items c.keep_front-2.new.kept.items c.judge_last-answer.result
    c.lines.invariant.behind (omega (arith, most, over)) c.judge_last-answer.ensures.front
    (c.keep_front-2.ensures ∙ ap (λ (xs : List ℕ). take 80 xs) c.as_slice-2.ensures.value)
