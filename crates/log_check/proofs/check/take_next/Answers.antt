use Rattle.std.proofs.Common.{ap, arith}
use Rattle.std.proofs.lemmas.Result.{IfErr-at_err}
use Rattle.outside_io.specs.BytesLeft.{bytes_left}
use Rattle.log_check.specs.Refusing.{FailsAt}
use Rattle.log_check.specs.Results.{ok_of}
use Rattle.log_check.proofs.Answered.{told_end, told_fault, told_long, told_on, told_short, told_unended, told_unread}
use Rattle.log_check.proofs.Fronts.{behind_next, end_front, front_is}
use Rattle.log_check.proofs.check.take_next.Goals as goal

pub returns-in-Ok-Ok-clause-text : goal.returns-in-Ok-Ok-clause-text
returns-in-Ok-Ok-clause-text g c =
    λ text read. told_on text c.args.followed.now c.args.place c.args.count (bytes_left g.S.Source.seen c.args.lines.now) (bytes_left g.S.Source.seen c.next.new.self) c.next.new.out.items read
    c.in-Ok-Text-true.field-0 c.in-Ok-Text-true.field-0-0 c.take.new.followed c.in-Ok-Ok.next c.as_slice.result.now (ok_of c.in-Ok-Ok.field-0)
    c.in-Ok-Text-true.field-0-is c.in-Ok-Text-true.field-0-0-test c.in-Ok-Text-true.ensures.takes c.as_slice.ensures.value (ap ok_of c.in-Ok-Ok.field-0-is) c.in-Ok-Ok.ensures.leads

pub returns-in-Ok-Err-clause-text : goal.returns-in-Ok-Err-clause-text
returns-in-Ok-Err-clause-text g c =
    λ text read. told_fault text c.args.followed.now c.args.place c.args.count (bytes_left g.S.Source.seen c.args.lines.now) (bytes_left g.S.Source.seen c.next.new.self) c.next.new.out.items read
    c.in-Ok-Text-true.field-0 c.in-Ok-Text-true.field-0-0 c.take.new.followed c.as_slice.result.now (ok_of c.in-Ok-Err.field-0) c.in-Ok-Err.why
    c.requires.few c.in-Ok-Text-true.field-0-is c.in-Ok-Text-true.field-0-0-test c.in-Ok-Text-true.ensures.gives c.in-Ok-Text-true.ensures.takes c.as_slice.ensures.value (ap ok_of c.in-Ok-Err.field-0-is) c.in-Ok-Err.ensures.leads
    (IfErr-at_err (FailsAt c.args.followed.now.past c.args.place c.as_slice.result.now) c.in-Ok-Err.field-0-is c.in-Ok-Err.ensures.refused)

pub returns-in-Err-take-clause-text : goal.returns-in-Err-take-clause-text
returns-in-Err-take-clause-text g c =
    λ text read. told_short text c.args.followed.now c.args.place c.args.count (bytes_left g.S.Source.seen c.args.lines.now) (bytes_left g.S.Source.seen c.next.new.self) c.next.new.out.items read
    c.in-Ok-Text-true.field-0 c.in-Ok-Text-true.field-0-0
    c.requires.few c.in-Ok-Text-true.field-0-is c.in-Ok-Text-true.field-0-0-test c.in-Ok-Text-true.ensures.gives c.in-Ok-Text-true.ensures.takes

pub returns-in-Ok-Text-false-clause-text : goal.returns-in-Ok-Text-false-clause-text
returns-in-Ok-Text-false-clause-text g c =
    λ text read. told_unended text c.args.followed.now c.args.place c.args.count (bytes_left g.S.Source.seen c.args.lines.now) (bytes_left g.S.Source.seen c.next.new.self) c.next.new.out.items read
    c.in-Ok-Text-false.field-0 c.in-Ok-Text-false.field-0-0
    c.requires.few c.in-Ok-Text-false.field-0-is c.in-Ok-Text-false.field-0-0-test c.in-Ok-Text-false.ensures.gives c.in-Ok-Text-false.ensures.takes

pub returns-in-Ok-Long-clause-text : goal.returns-in-Ok-Long-clause-text
returns-in-Ok-Long-clause-text g c =
    λ text read. told_long text c.args.followed.now c.args.place c.args.count (bytes_left g.S.Source.seen c.args.lines.now) (bytes_left g.S.Source.seen c.next.new.self) c.next.new.out.items read
    c.in-Ok-Long.field-0
    c.legal_lines_are_short.ensures c.requires.followed.follows.tables.formed c.requires.few c.in-Ok-Long.field-0-is c.in-Ok-Long.ensures.gives c.in-Ok-Long.ensures.takes

pub returns-in-Ok-End-clause-text : goal.returns-in-Ok-End-clause-text
returns-in-Ok-End-clause-text g c =
    let few = c.requires.few in
    λ text read. told_end text c.args.followed.now c.args.place c.args.count (bytes_left g.S.Source.seen c.args.lines.now) (bytes_left g.S.Source.seen c.next.new.self) c.next.new.out.items read
    c.in-Ok-End.field-0 c.end_of.result
    (omega (arith, few)) c.in-Ok-End.field-0-is c.in-Ok-End.ensures.takes c.end_of.ensures

pub returns-in-Err-clause-text : goal.returns-in-Err-clause-text
returns-in-Err-clause-text g c =
    let few = c.requires.few in
    λ text read. told_unread text c.args.followed.now c.args.place c.args.count (bytes_left g.S.Source.seen c.args.lines.now) (bytes_left g.S.Source.seen c.next.new.self) c.next.new.out.items read
    c.in-Err.field-0
    (omega (arith, few)) c.in-Err.ensures.gives c.in-Err.ensures.takes

pub returns-in-Ok-Ok-clause-front : goal.returns-in-Ok-Ok-clause-front
returns-in-Ok-Ok-clause-front g c =
    λ text behind. behind_next text c.args.count (bytes_left g.S.Source.seen c.args.lines.now) (bytes_left g.S.Source.seen c.next.new.self) c.next.new.out.items behind c.in-Ok-Text-true.field-0 c.in-Ok-Text-true.field-0-0
    c.in-Ok-Text-true.field-0-is c.in-Ok-Text-true.field-0-0-test c.in-Ok-Text-true.ensures.gives c.in-Ok-Text-true.ensures.takes

pub returns-in-Ok-Err-clause-front : goal.returns-in-Ok-Err-clause-front
returns-in-Ok-Err-clause-front g c =
    λ text behind. front_is text c.args.count (bytes_left g.S.Source.seen c.args.lines.now) (bytes_left g.S.Source.seen c.next.new.self) c.next.new.out.items behind c.in-Ok-Text-true.field-0 c.in-Ok-Text-true.ensures.gives c.in-Ok-Text-true.ensures.takes

pub returns-in-Ok-Text-false-clause-front : goal.returns-in-Ok-Text-false-clause-front
returns-in-Ok-Text-false-clause-front g c =
    λ text behind. front_is text c.args.count (bytes_left g.S.Source.seen c.args.lines.now) (bytes_left g.S.Source.seen c.next.new.self) c.next.new.out.items behind c.in-Ok-Text-false.field-0 c.in-Ok-Text-false.ensures.gives c.in-Ok-Text-false.ensures.takes

pub returns-in-Ok-Long-clause-front : goal.returns-in-Ok-Long-clause-front
returns-in-Ok-Long-clause-front g c =
    λ text behind. front_is text c.args.count (bytes_left g.S.Source.seen c.args.lines.now) (bytes_left g.S.Source.seen c.next.new.self) c.next.new.out.items behind c.in-Ok-Long.field-0 c.in-Ok-Long.ensures.gives c.in-Ok-Long.ensures.takes

pub returns-in-Ok-End-clause-front : goal.returns-in-Ok-End-clause-front
returns-in-Ok-End-clause-front g c =
    λ text behind. end_front text c.next.new.out.items c.args.place c.args.count c.end_of.result c.end_of.ensures
    (front_is text c.args.count (bytes_left g.S.Source.seen c.args.lines.now) (bytes_left g.S.Source.seen c.next.new.self) c.next.new.out.items behind c.in-Ok-End.field-0 c.in-Ok-End.ensures.gives c.in-Ok-End.ensures.takes)
