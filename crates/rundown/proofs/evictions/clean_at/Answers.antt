use Rattle.std.proofs.Common.{ap, refl, sym, ◌∙◌}
use Rattle.pfn_database.specs.declared.row.Row.{Row}
use Rattle.pager_model.specs.Evict.{evicted_to}
use Rattle.call_begins.proofs.Rows.{row_goes}
use Rattle.vm_swapper.specs.SeenSlots.{seen_as}
use Rattle.rundown.specs.Places.{place_as}
use Rattle.rundown.proofs.PlacesCleaned.{evicted_moved, goes_later, may_evict, none_seen, written_moved}
use Rattle.rundown.proofs.evictions.clean_at.Goals as goal

pub see-requires-after_bounds : goal.see-requires-after_bounds
see-requires-after_bounds g c κs within = c.requires.there.within

pub is_stopped-requires-after_bounds : goal.is_stopped-requires-after_bounds
is_stopped-requires-after_bounds g c κs within =
    c.goes_to-to.ensures ∙ (ap (λ (z : Row). evicted_to z.shares z.flights z.modify) c.frame-row.ensures ∙ row_goes c.args.state.now ((c.in-Some.x).frame).0)

pub evict-requires-after_bounds : goal.evict-requires-after_bounds
evict-requires-after_bounds g c κs within =
    may_evict c.args.state.now c.args.at c.in-Some.x c.in-Some.ensures.seen c.writer-seat.result c.writer-seat.ensures c.goes_to-to.result
    (c.goes_to-to.ensures ∙ (ap (λ (z : Row). evicted_to z.shares z.flights z.modify) c.frame-row.ensures ∙ row_goes c.args.state.now ((c.in-Some.x).frame).0))
    (sym c.is_stopped.ensures ∙ c.if-not-is_stopped.true) c.args.carrier.now c.requires.can c.requires.there c.in-Some.ensures.placed

pub returns-then-not-is_stopped-clause-cleans : goal.returns-then-not-is_stopped-clause-cleans
returns-then-not-is_stopped-clause-cleans g c =
    λ later. evicted_moved c.args.state.now c.args.at c.in-Some.x c.in-Some.ensures.seen c.writer-seat.result c.writer-seat.ensures c.goes_to-to.result
    (c.goes_to-to.ensures ∙ (ap (λ (z : Row). evicted_to z.shares z.flights z.modify) c.frame-row.ensures ∙ row_goes c.args.state.now ((c.in-Some.x).frame).0))
    (sym c.is_stopped.ensures ∙ c.if-not-is_stopped.true) c.evict.new.self g.B.Block.tells.content c.args.failed later c.evict.ensures

pub returns-then-failed-clause-cleans : goal.returns-then-failed-clause-cleans
returns-then-failed-clause-cleans g c = (
  refl,
  λ later. goes_later c.args.state.now (place_as c.args.at) c.args.failed later (seen_as c.in-Some.x) c.in-Some.ensures.seen (sym c.is_stopped.ensures ∙ c.if-not-is_stopped.false) c.if-failed.true,
)

pub returns-else-failed-clause-cleans : goal.returns-else-failed-clause-cleans
returns-else-failed-clause-cleans g c =
    λ later. written_moved c.args.state.now c.args.at c.in-Some.x c.in-Some.ensures.seen (sym c.is_stopped.ensures ∙ c.if-not-is_stopped.false) c.write_one_cluster-cluster.new.state g.B.Block.tells.content c.args.failed
    (c.write_one_cluster-cluster.result).all_failed later c.if-failed.false c.write_one_cluster-cluster.ensures.written

pub returns-in-None-clause-cleans : goal.returns-in-None-clause-cleans
returns-in-None-clause-cleans g c = (refl, λ later. none_seen c.args.state.now (place_as c.args.at) c.args.failed later c.in-None.ensures.seen)
