use Rattle.std.proofs.Common.{None, ap, false, length, map, ◌∙◌}
use Rattle.std.proofs.Math.Path.{fun_ext}
use Rattle.vm_types.specs.declared.config.ProcSpec.{ProcSpec}
use Rattle.shadow_tables.specs.Rings.{empty_ring}
use Rattle.shadow_pager.specs.Shown.{at_or, no_ring, shown}
use Rattle.shadow_pager.proofs.First.{all_same, all_shown, first_limits, first_rings, first_states}
use Rattle.shadow_pager.proofs.Same.{same_pager}
use Rattle.shadow_pager.proofs.shadow_pager.ShadowPager.new.Goals as goal

pub returns : goal.returns
unfolding shown
returns c =
    let config = c.args.config.now in
    let by_frame = c.in_ok-by_frame.ensures in
    let by_process = c.in_ok-by_process.ensures in
    let by_page = c.in_ok-by_page.ensures in
    all_shown _ _ _ _ by_frame.count (by_process.count ∙ ap length c.items.ensures)
    (same_pager _ _ (ap (at_or _) by_frame.states ∙ first_states config)
    (ap (at_or None) by_frame.held ∙ all_same None _)
    (ap (at_or false) by_frame.marks ∙ all_same false _)
    by_frame.free c.new.ensures.items
    (ap (at_or _) by_process.statuses ∙ all_same _ _)
    (ap (at_or no_ring) by_process.rings ∙ (ap (λ ps. at_or no_ring (map empty_ring ps)) c.items.ensures ∙ first_rings config.procs))
    (ap (at_or 0) by_process.limits ∙ (ap (λ ps. at_or 0 (map (λ (spec : ProcSpec). spec.limit) ps)) c.items.ensures ∙ first_limits config.procs))
    (ap (at_or 0) by_process.references ∙ all_same 0 _)
    (ap (at_or 0) by_process.faults ∙ all_same 0 _)
    (ap (at_or None) by_process.collided ∙ all_same None _)
    (fun_ext (λ p. fun_ext (λ v. by_page.pages p v)))
    by_page.valid by_page.charged by_page.touched (fun_ext (λ g. by_page.lies g)) by_page.assigned)
