use Rattle.std.proofs.Common.{true, arith}
use Rattle.pager_model.specs.Ring.{relocked_slot, repinned_slot}
use Rattle.state_pages.proofs.LockLimits as limits
use Rattle.state_pages.proofs.service_answers.lock_answer.Goals as goal

pub returns-then-locked-spec-clause-locked : goal.returns-then-locked-spec-clause-locked
returns-then-locked-spec-clause-locked c =
    let more = c.if-locked-spec.true in
    let within = c.fixed_in.ensures in
    let all = c.locked.ensures.value in
    limits.too_many c.args.ring.now c.args.spec.now c.args.at.0 c.args.pages c.count_in-count.result (relocked_slot true c.args.at.0 c.args.pages) (limits.locks_fix c.args.at.0 c.args.pages) c.count_in-count.ensures (omega (arith, more, within, all))

pub returns-then-locked-spec-clause-pinned : goal.returns-then-locked-spec-clause-pinned
returns-then-locked-spec-clause-pinned c =
    let more = c.if-locked-spec.true in
    let within = c.fixed_in.ensures in
    let all = c.locked.ensures.value in
    limits.too_many c.args.ring.now c.args.spec.now c.args.at.0 c.args.pages c.count_in-count.result (repinned_slot true c.args.at.0 c.args.pages) (limits.pins_fix c.args.at.0 c.args.pages) c.count_in-count.ensures (omega (arith, more, within, all))

pub returns-else-locked-spec-clause-locked : goal.returns-else-locked-spec-clause-locked
returns-else-locked-spec-clause-locked c =
    let few = c.if-locked-spec.false in
    let within = c.fixed_in.ensures in
    let all = c.locked.ensures.value in
    limits.few_enough c.args.ring.now c.args.spec.now c.args.at.0 c.args.pages c.count_in-count.result (relocked_slot true c.args.at.0 c.args.pages) (limits.locks_fix c.args.at.0 c.args.pages) c.count_in-count.ensures (omega (arith, few, within, all))

pub returns-else-locked-spec-clause-pinned : goal.returns-else-locked-spec-clause-pinned
returns-else-locked-spec-clause-pinned c =
    let few = c.if-locked-spec.false in
    let within = c.fixed_in.ensures in
    let all = c.locked.ensures.value in
    limits.few_enough c.args.ring.now c.args.spec.now c.args.at.0 c.args.pages c.count_in-count.result (repinned_slot true c.args.at.0 c.args.pages) (limits.pins_fix c.args.at.0 c.args.pages) c.count_in-count.ensures (omega (arith, few, within, all))
