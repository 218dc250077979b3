use Rattle.std.proofs.Common.{lit≤, refl}
use Rattle.outside_io.specs.BytesLeft.{bytes_left}
use Rattle.log_model.specs.Log.{most_lines}
use Rattle.log_check.proofs.Answered.{told_end, told_longer, told_more, told_unread}
use Rattle.log_check.proofs.Fronts.{end_front, front_is}
use Rattle.log_check.proofs.check.judge_last.Goals as goal

pub returns-in-Ok-End-clause-text : goal.returns-in-Ok-End-clause-text
returns-in-Ok-End-clause-text g c =
    λ text read. told_end text c.args.followed.now c.args.place.now most_lines (bytes_left g.S.Source.seen c.args.lines.now) (bytes_left g.S.Source.seen c.next.new.self) c.next.new.out.items read
    c.in-Ok-End.field-0 c.end_of.result (lit≤ tt) c.in-Ok-End.field-0-is c.in-Ok-End.ensures.takes c.end_of.ensures

pub returns-in-Ok-Text-clause-text : goal.returns-in-Ok-Text-clause-text
returns-in-Ok-Text-clause-text g c =
    λ text read. told_more text c.args.followed.now c.args.place.now most_lines (bytes_left g.S.Source.seen c.args.lines.now) (bytes_left g.S.Source.seen c.next.new.self) c.next.new.out.items read
    c.in-Ok-Text.field-0 c.in-Ok-Text.field-0-0 refl c.in-Ok-Text.field-0-is c.in-Ok-Text.ensures.gives c.in-Ok-Text.ensures.takes

pub returns-in-Ok-Long-clause-text : goal.returns-in-Ok-Long-clause-text
returns-in-Ok-Long-clause-text g c =
    λ text read. told_longer text c.args.followed.now c.args.place.now most_lines (bytes_left g.S.Source.seen c.args.lines.now) (bytes_left g.S.Source.seen c.next.new.self) c.next.new.out.items read
    c.in-Ok-Long.field-0 refl c.in-Ok-Long.field-0-is c.in-Ok-Long.ensures.gives c.in-Ok-Long.ensures.takes

pub returns-in-Err-clause-text : goal.returns-in-Err-clause-text
returns-in-Err-clause-text g c =
    λ text read. told_unread text c.args.followed.now c.args.place.now most_lines (bytes_left g.S.Source.seen c.args.lines.now) (bytes_left g.S.Source.seen c.next.new.self) c.next.new.out.items read
    c.in-Err.field-0 (lit≤ tt) c.in-Err.ensures.gives c.in-Err.ensures.takes

pub returns-in-Ok-End-clause-front : goal.returns-in-Ok-End-clause-front
returns-in-Ok-End-clause-front g c =
    λ text behind. end_front text c.next.new.out.items c.args.place.now most_lines c.end_of.result c.end_of.ensures
    (front_is text most_lines (bytes_left g.S.Source.seen c.args.lines.now) (bytes_left g.S.Source.seen c.next.new.self) c.next.new.out.items behind c.in-Ok-End.field-0 c.in-Ok-End.ensures.gives c.in-Ok-End.ensures.takes)
