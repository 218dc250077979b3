use Rattle.std.proofs.Common.{◌≡◌, ◌<◌, Some, length, set, get_or, refl, sym, ◌∙◌, ap, arith, length-set}
use Rattle.vm_types.specs.declared.names.FrameState.TheVariants.{Reading}
use Rattle.page_lists.specs.Lists.{count_of}
use Rattle.page_lists.proofs.Counts.{found, without-absent}
use Rattle.page_lists.proofs.TwoLists.{without-head}
use Rattle.pfn_database.specs.declared.row.Row.{Row}
use Rattle.pfn_database.specs.Rows.{bad_row}
use Rattle.pfn_database.specs.Frames.{Frames, row_of}
use Rattle.pfn_database.specs.Kept.{rows_of}
use Rattle.pfn_database.proofs.KeptRows.{length-rows_of, edited}
use Rattle.pfn_database.proofs.Changes.{IsConsistent-off, IsRow-reading, is_free-yes}
use Rattle.pfn_database.proofs.pfns.Pfns.set_reading.Goals as goal

pub kept_at-kept-requires : goal.kept_at-kept-requires
kept_at-kept-requires c =
    let below = rw (← c.self.view_is) at c.requires.below in
    let near : c.args.f.0 < length c.self.inside.kept.items = omega (arith, below, length-rows_of c.self.inside.kept.items c.self.inside.lists.cells c.self.invariant.cells) in
    near

pub index_mut-requires : goal.index_mut-requires
index_mut-requires c =
    let below = rw (← c.self.view_is) at c.requires.below in
    let near : c.args.f.0 < length c.self.inside.kept.items = omega (arith, below, length-rows_of c.self.inside.kept.items c.self.inside.lists.cells c.self.invariant.cells) in
    omega (arith, near, c.self.inside.kept.ok.0)

pub invariant_of-self : goal.invariant_of-self
invariant_of-self c =
    let below = rw (← c.self.view_is) at c.requires.below in
    let good = c.self.invariant.consistent.rows c.args.f.0 bad_row below in
    let head = rw (← c.self.view_is) at c.requires.head in
    let some = found c.self.inside.lists.free c.args.f.0 0 head in
    let listed = c.self.invariant.consistent.free c.args.f.0 in
    let free = is_free-yes (get_or (rows_of c.self.inside.kept.items c.self.inside.lists.cells) c.args.f.0 bad_row).state (omega (arith, some, listed)) in
    let once : count_of c.self.inside.lists.free c.args.f.0 ≡ 1 = listed ∙ rw free refl in
    let absent : count_of c.self.inside.lists.modified c.args.f.0 ≡ 0 = c.self.invariant.consistent.modified c.args.f.0 ∙ rw free refl in
    record {
      consistent = rw (c.pop_head-head.ensures.cells, c.pop_head-head.ensures.list, c.pop_head-head.ensures.other, edited c.self.inside.kept.items c.self.inside.lists.cells c.self.invariant.cells c.args.f.0 c.kept_at-kept.result c.kept_at-kept.ensures (record { state = Reading; page = Some c.args.page; modify = c.kept_at-kept.result.modify; refs = c.kept_at-kept.result.refs; flights = c.kept_at-kept.result.flights }) (λ (r : Row). record r { state = Reading; page = Some c.args.page }) refl, ← without-head c.self.inside.lists.free c.args.f.0 once head, ← without-absent c.self.inside.lists.modified c.args.f.0 absent) (IsConsistent-off _ c.self.invariant.consistent c.args.f.0 below _ (IsRow-reading _ good c.args.page free) refl refl);
      frames = c.pop_head-head.ensures.frames ∙ c.self.invariant.frames ∙ sym (length-set c.self.inside.kept.items c.args.f.0 _);
      cells = ap length c.pop_head-head.ensures.cells ∙ c.self.invariant.cells ∙ sym (length-set c.self.inside.kept.items c.args.f.0 _);
      short = rw length-set c.self.invariant.short;
    }

pub returns-clause-rows : goal.returns-clause-rows
returns-clause-rows c =
    rw c.pop_head-head.ensures.cells (edited c.self.inside.kept.items c.self.inside.lists.cells c.self.invariant.cells c.args.f.0 c.kept_at-kept.result c.kept_at-kept.ensures (record { state = Reading; page = Some c.args.page; modify = c.kept_at-kept.result.modify; refs = c.kept_at-kept.result.refs; flights = c.kept_at-kept.result.flights }) (λ (r : Row). record r { state = Reading; page = Some c.args.page }) refl ∙ ap (λ (frames : Frames). set frames.rows c.args.f.0 ((λ (r : Row). record r { state = Reading; page = Some c.args.page }) (row_of frames c.args.f.0))) c.self.view_is)

pub returns-clause-consistent : goal.returns-clause-consistent
returns-clause-consistent c =
    (invariant_of-self c).consistent
