use Rattle.std.proofs.Common.{◌≡◌, ℕ, ◌-◌, ◌<◌, ◌≤◌, length, take, subst, arith}
use Rattle.std.specs.Prelude.{IfSome}
use Rattle.std.proofs.lemmas.List.{length-take-le}
use Rattle.dump_bytes.specs.Begins.{IsBadAfter}
use Rattle.dump_bytes.specs.Dumped.{dumped}
use Rattle.dump_bytes.proofs.Answering.{whole_read, whole_bounds, left-le, bad_inside, bad_ended, cut_begins, whole_begins, cut_told}
use Rattle.dump_bytes.proofs.read.read_into.Goals as goal

pub overflow_sub-result : goal.overflow_sub-result
overflow_sub-result g c =
    let count = length-take-le c.fill-held.result.0 c.fill-held.new.buffer c.fill-held.ensures.bound in
    let le = left-le (take c.fill-held.result.0 c.fill-held.new.buffer) c.in-Err-Ok.left.0 c.in-Err-Ok.ensures in
    omega arith

pub overflow_sub-result-in-Err-Err : goal.overflow_sub-result-in-Err-Err
overflow_sub-result-in-Err-Err g c =
    let count = length-take-le c.fill-held.result.0 c.fill-held.new.buffer c.fill-held.ensures.bound in
    let le = left-le (take c.fill-held.result.0 c.fill-held.new.buffer) c.in-Err-Err.left.0 c.in-Err-Err.ensures in
    omega arith

pub returns-in-Ok-Ok-clause-bounds : goal.returns-in-Ok-Ok-clause-bounds
returns-in-Ok-Ok-clause-bounds g c = (whole_bounds (take c.fill-held.result.0 c.fill-held.new.buffer) (dumped c.whole_in.new.dump) (rw c.in-Ok-Ok.is-0 at c.whole_in.ensures)).bounds

pub returns-in-Ok-Ok-clause-text : goal.returns-in-Ok-Ok-clause-text
returns-in-Ok-Ok-clause-text g c =
    let held = c.fill-held.result.0 in
    let count = length-take-le held c.fill-held.new.buffer c.fill-held.ensures.bound in
    let long : 786792 < length c.fill-held.new.buffer = omega arith in
    let end = rw c.in-Ok-Ok.is-1 at c.fill-held.ensures.end in
    whole_read (g.S.Source.seen c.args.source.now).left (g.S.Source.seen c.fill-held.new.source).left (take held c.fill-held.new.buffer) (dumped c.whole_in.new.dump) (length c.fill-held.new.buffer)
    c.fill-held.ensures.bytes long (λ lt. end (omega (arith, lt, count))) (rw c.in-Ok-Ok.is-0 at c.whole_in.ensures)

pub returns-in-Err-Ok-clause-text : goal.returns-in-Err-Ok-clause-text
returns-in-Err-Ok-clause-text g c =
    let held = c.fill-held.result.0 in
    let count = length-take-le held c.fill-held.new.buffer c.fill-held.ensures.bound in
    let long : 786792 < length c.fill-held.new.buffer = omega arith in
    let within : length (take held c.fill-held.new.buffer) ≤ length c.fill-held.new.buffer = omega (arith, count, c.fill-held.ensures.bound) in
    let end = rw c.in-Err-Ok.is-1 at c.fill-held.ensures.end in
    let bad = bad_ended (g.S.Source.seen c.args.source.now).left (g.S.Source.seen c.fill-held.new.source).left (take held c.fill-held.new.buffer) c.in-Err-Ok.left.0 (length c.fill-held.new.buffer)
    c.fill-held.ensures.bytes long within (λ lt. end (omega (arith, lt, count))) c.in-Err-Ok.ensures in
    subst (λ (n : ℕ). IfSome (g.S.Source.seen c.args.source.now).left (λ text. IsBadAfter text (n - c.in-Err-Ok.left.0))) count bad

pub returns-in-Err-Err-clause-text : goal.returns-in-Err-Err-clause-text
returns-in-Err-Err-clause-text g c =
    let held = c.fill-held.result.0 in
    let count = length-take-le held c.fill-held.new.buffer c.fill-held.ensures.bound in
    let bad = bad_inside (g.S.Source.seen c.args.source.now).left (g.S.Source.seen c.fill-held.new.source).left (take held c.fill-held.new.buffer) c.in-Err-Err.left.0
    c.fill-held.ensures.bytes c.if-left-gt0.true c.in-Err-Err.ensures in
    subst (λ (n : ℕ). IfSome (g.S.Source.seen c.args.source.now).left (λ text. IsBadAfter text (n - c.in-Err-Err.left.0))) count bad

pub returns-in_default-Err-clause-text : goal.returns-in_default-Err-clause-text
returns-in_default-Err-clause-text g c =
    cut_told (g.S.Source.seen c.args.source.now).left (g.S.Source.seen c.fill-held.new.source).left (take c.fill-held.result.0 c.fill-held.new.buffer) c.fill-held.ensures.bytes
    (whole_begins (take c.fill-held.result.0 c.fill-held.new.buffer) (dumped c.whole_in.new.dump) (rw c.in_default-Err.is-0 at c.whole_in.ensures))

pub returns-in_default-Err-2-clause-text : goal.returns-in_default-Err-2-clause-text
returns-in_default-Err-2-clause-text g c =
    let none : c.in-Err-Err.left.0 ≡ 0 = omega arith in
    cut_told (g.S.Source.seen c.args.source.now).left (g.S.Source.seen c.fill-held.new.source).left (take c.fill-held.result.0 c.fill-held.new.buffer) c.fill-held.ensures.bytes
    (cut_begins (take c.fill-held.result.0 c.fill-held.new.buffer) (rw none at c.in-Err-Err.ensures))
