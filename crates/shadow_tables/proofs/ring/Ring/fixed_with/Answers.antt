use Rattle.std.proofs.Common.{◌≡◌, ◌+◌, ◌-◌, true, ap, arith, ◌∙◌}
use Rattle.std.proofs.lemmas.List.Sums.{count_by-le-length}
use Rattle.vm_types.specs.Ring.{Ring, fixed, is_fixed_slot}
use Rattle.pager_model.specs.Ring.{range_locked, range_pinned}
use Rattle.pager_model.specs.Served.{is_slot_in}
use Rattle.shadow_tables.proofs.Marks.{locked_more, pinned_more}
use Rattle.shadow_tables.proofs.ring.Ring.fixed_with.Goals as goal

-- neither count is more than the slots
pub overflow_add-result : goal.overflow_add-result
overflow_add-result c =
    let slots = c.self.inside.ring.slots in
    omega (arith, count_by-le-length is_fixed_slot slots, count_by-le-length (is_slot_in c.args.at.0 c.args.pages) slots, c.self.invariant.1)

pub overflow_sub-result : goal.overflow_sub-result
overflow_sub-result c = omega (arith, locked_more c.args.at.0 c.args.pages c.self.inside.ring)

pub returns-clause-locked : goal.returns-clause-locked
returns-clause-locked c =
    let after = λ (r : Ring). fixed (range_locked true c.args.at.0 c.args.pages r).slots in
    let counted : c.locked.result + c.count_in.result - c.fixed_in.result ≡ after c.self.inside.ring =
    omega (arith, locked_more c.args.at.0 c.args.pages c.self.inside.ring) in
    counted ∙ ap after c.self.view_is

pub returns-clause-pinned : goal.returns-clause-pinned
returns-clause-pinned c =
    let after = λ (r : Ring). fixed (range_pinned true c.args.at.0 c.args.pages r).slots in
    let counted : c.locked.result + c.count_in.result - c.fixed_in.result ≡ after c.self.inside.ring =
    omega (arith, pinned_more c.args.at.0 c.args.pages c.self.inside.ring) in
    counted ∙ ap after c.self.view_is
