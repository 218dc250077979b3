use Rattle.std.proofs.Common.{ℕ, List, ◌≡◌, ◌<◌, cond, Some, length, set, get_or, refl, sym, ◌∙◌, ap, arith, length-set}
use Rattle.std.proofs.lemmas.Bool.{eq-eqb}
use Rattle.vm_types.specs.declared.names.FrameState.TheVariants.{Active}
use Rattle.page_lists.specs.Lists.{count_of, without}
use Rattle.page_lists.proofs.Counts.{count_of-without}
use Rattle.pfn_database.specs.declared.row.Row.{Row}
use Rattle.pfn_database.specs.Rows.{bad_row}
use Rattle.pfn_database.specs.Frames.{Frames, row_of, is_free, is_modified}
use Rattle.pfn_database.specs.Kept.{joined}
use Rattle.pfn_database.proofs.KeptRows.{length-rows_of, row-is, rewritten}
use Rattle.pfn_database.proofs.Changes.{IsConsistent-off, IsRow-active}
use Rattle.pfn_database.proofs.pfns.Pfns.set_active.Goals as goal

pub kept_at-kept-requires : goal.kept_at-kept-requires
kept_at-kept-requires c =
    let below = rw (← c.self.view_is) at c.requires.below in
    let near : c.args.f.0 < length c.self.inside.kept.items = omega (arith, below, length-rows_of c.self.inside.kept.items c.self.inside.lists.cells c.self.invariant.cells) in
    near

pub index_mut-requires : goal.index_mut-requires
index_mut-requires c =
    let below = rw (← c.self.view_is) at c.requires.below in
    let near : c.args.f.0 < length c.self.inside.kept.items = omega (arith, below, length-rows_of c.self.inside.kept.items c.self.inside.lists.cells c.self.invariant.cells) in
    omega (arith, near, c.self.inside.kept.ok.0)

pub take_off-requires-clause-free : goal.take_off-requires-clause-free
take_off-requires-clause-free c =
    let row = row-is c.self.inside.kept.items c.self.inside.lists.cells c.self.invariant.cells c.args.f.0 c.kept_at-kept.result c.kept_at-kept.ensures in
    c.self.invariant.consistent.free c.args.f.0 ∙ ap (λ (r : Row). cond (is_free r.state) 1 0) (sym row)

pub take_off-requires-clause-modified : goal.take_off-requires-clause-modified
take_off-requires-clause-modified c =
    let row = row-is c.self.inside.kept.items c.self.inside.lists.cells c.self.invariant.cells c.args.f.0 c.kept_at-kept.result c.kept_at-kept.ensures in
    c.self.invariant.consistent.modified c.args.f.0 ∙ ap (λ (r : Row). cond (is_modified r.state) 1 0) (sym row)

pub cells-shares-requires-clause-below : goal.cells-shares-requires-clause-below
cells-shares-requires-clause-below c =
    let below = rw (← c.self.view_is) at c.requires.below in
    let near : c.args.f.0 < length c.self.inside.kept.items = omega (arith, below, length-rows_of c.self.inside.kept.items c.self.inside.lists.cells c.self.invariant.cells) in
    rw (c.take_off.ensures.frames, c.self.invariant.frames) near

pub cells-shares-requires-clause-on_none : goal.cells-shares-requires-clause-on_none
cells-shares-requires-clause-on_none c =
    let off : (list : List ℕ) → count_of (without list c.args.f.0) c.args.f.0 ≡ 0 = λ list. count_of-without list c.args.f.0 c.args.f.0 ∙ rw (eq-eqb c.args.f.0 c.args.f.0 refl) refl in
    rw (c.take_off.ensures.free, c.take_off.ensures.modified) (off c.self.inside.lists.free, off c.self.inside.lists.modified)

pub set_cells-requires-clause-below : goal.set_cells-requires-clause-below
set_cells-requires-clause-below c =
    let below = rw (← c.self.view_is) at c.requires.below in
    let near : c.args.f.0 < length c.self.inside.kept.items = omega (arith, below, length-rows_of c.self.inside.kept.items c.self.inside.lists.cells c.self.invariant.cells) in
    rw (c.take_off.ensures.frames, c.self.invariant.frames) near

pub set_cells-requires-clause-on_none : goal.set_cells-requires-clause-on_none
set_cells-requires-clause-on_none c =
    let off : (list : List ℕ) → count_of (without list c.args.f.0) c.args.f.0 ≡ 0 = λ list. count_of-without list c.args.f.0 c.args.f.0 ∙ rw (eq-eqb c.args.f.0 c.args.f.0 refl) refl in
    rw (c.take_off.ensures.free, c.take_off.ensures.modified) (off c.self.inside.lists.free, off c.self.inside.lists.modified)

pub invariant_of-self : goal.invariant_of-self
invariant_of-self c =
    let below = rw (← c.self.view_is) at c.requires.below in
    let good = c.self.invariant.consistent.rows c.args.f.0 bad_row below in
    let cells = c.set_cells.ensures.cells ∙ ap (λ (cs : List (ℕ × ℕ)). set cs c.args.f.0 (c.cells-shares.result.0, c.args.slot)) c.take_off.ensures.cells in
    let fits = c.requires.slot in
    record {
      consistent = rw (cells, c.set_cells.ensures.free, c.set_cells.ensures.modified, c.take_off.ensures.free, c.take_off.ensures.modified, rewritten c.self.inside.kept.items c.self.inside.lists.cells c.self.invariant.cells c.args.f.0 c.kept_at-kept.result c.kept_at-kept.ensures (record { state = Active; page = Some c.args.page; modify = c.kept_at-kept.result.modify; refs = c.kept_at-kept.result.refs; flights = c.kept_at-kept.result.flights }) (c.cells-shares.result.0, c.args.slot) (λ (r : Row). record r { state = Active; page = Some c.args.page; slot = c.args.slot }) (ap (λ (d : ℕ × ℕ). joined (record { state = Active; page = Some c.args.page; modify = c.kept_at-kept.result.modify; refs = c.kept_at-kept.result.refs; flights = c.kept_at-kept.result.flights }) (d.0, c.args.slot)) (c.cells-shares.ensures.cells ∙ ap (λ (cs : List (ℕ × ℕ)). get_or cs c.args.f.0 (0, 0)) c.take_off.ensures.cells))) (IsConsistent-off _ c.self.invariant.consistent c.args.f.0 below _ (IsRow-active _ good c.args.page c.args.slot fits) refl refl);
      frames = c.set_cells.ensures.frames ∙ c.take_off.ensures.frames ∙ c.self.invariant.frames ∙ sym (length-set c.self.inside.kept.items c.args.f.0 _);
      cells = ap length cells ∙ length-set c.self.inside.lists.cells c.args.f.0 _ ∙ c.self.invariant.cells ∙ sym (length-set c.self.inside.kept.items c.args.f.0 _);
      short = rw length-set c.self.invariant.short;
    }

pub returns-clause-rows : goal.returns-clause-rows
returns-clause-rows c =
    let cells = c.set_cells.ensures.cells ∙ ap (λ (cs : List (ℕ × ℕ)). set cs c.args.f.0 (c.cells-shares.result.0, c.args.slot)) c.take_off.ensures.cells in
    rw cells (rewritten c.self.inside.kept.items c.self.inside.lists.cells c.self.invariant.cells c.args.f.0 c.kept_at-kept.result c.kept_at-kept.ensures (record { state = Active; page = Some c.args.page; modify = c.kept_at-kept.result.modify; refs = c.kept_at-kept.result.refs; flights = c.kept_at-kept.result.flights }) (c.cells-shares.result.0, c.args.slot) (λ (r : Row). record r { state = Active; page = Some c.args.page; slot = c.args.slot }) (ap (λ (d : ℕ × ℕ). joined (record { state = Active; page = Some c.args.page; modify = c.kept_at-kept.result.modify; refs = c.kept_at-kept.result.refs; flights = c.kept_at-kept.result.flights }) (d.0, c.args.slot)) (c.cells-shares.ensures.cells ∙ ap (λ (cs : List (ℕ × ℕ)). get_or cs c.args.f.0 (0, 0)) c.take_off.ensures.cells)) ∙ ap (λ (frames : Frames). set frames.rows c.args.f.0 ((λ (r : Row). record r { state = Active; page = Some c.args.page; slot = c.args.slot }) (row_of frames c.args.f.0))) c.self.view_is)

pub returns-clause-free : goal.returns-clause-free
returns-clause-free c =
    c.set_cells.ensures.free ∙ c.take_off.ensures.free ∙ ap (λ (frames : Frames). without frames.free c.args.f.0) c.self.view_is

pub returns-clause-modified : goal.returns-clause-modified
returns-clause-modified c =
    c.set_cells.ensures.modified ∙ c.take_off.ensures.modified ∙ ap (λ (frames : Frames). without frames.modified c.args.f.0) c.self.view_is

pub returns-clause-consistent : goal.returns-clause-consistent
returns-clause-consistent c =
    (invariant_of-self c).consistent
