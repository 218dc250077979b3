use Rattle.std.proofs.Common.{Bool, ap, count_by, nat_eq, slice_get, ◌∙◌}
use Rattle.vm_types.specs.Ring.{is_pinned_slot}
use Rattle.pager_model.specs.Lookups.{slot_of, slot_with}
use Rattle.pager_model.specs.Pager.{Valid}
use Rattle.shadow_pager.specs.Shown.{shown}
use Rattle.shadow_pager.proofs.Whole.{count_passing}
use Rattle.shadow_pager.proofs.shadow_pager.ShadowPager.pins.Goals as goal

pub returns : goal.returns
unfolding shown
returns c =
    let s = c.args.self.now in
    let f = c.args.f.0 in
    let ring = (shown s).pager.ring in
    let pinned : Valid → Bool = λ e. is_pinned_slot (slot_of (slice_get (ring e.proc).slots (slot_with (ring e.proc) e.vpn))) in
    c.pinned.ensures ∙ (ap (count_by pinned) c.of_frame.ensures ∙ count_passing (λ (e : Valid). nat_eq e.frame f) pinned s.valid)
