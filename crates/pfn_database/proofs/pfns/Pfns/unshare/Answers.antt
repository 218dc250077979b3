use Rattle.std.proofs.Common.{ℕ, ◌≡◌, ◌<◌, length, set, get_or, refl, sym, ◌∙◌, ap, arith, length-set}
use Rattle.pfn_database.specs.declared.row.Row.{Row}
use Rattle.pfn_database.specs.Rows.{bad_row, unshared}
use Rattle.pfn_database.specs.Frames.{Frames, row_of}
use Rattle.pfn_database.specs.Kept.{joined, kept_of, rows_of}
use Rattle.pfn_database.proofs.KeptRows.{length-rows_of, row-is, rewritten}
use Rattle.pfn_database.proofs.Changes.{IsConsistent-same, IsRow-unshared, unshared_off, refs-least, count_of-off}
use Rattle.pfn_database.proofs.pfns.Pfns.unshare.Goals as goal

pub kept_at-requires : goal.kept_at-requires
kept_at-requires c =
    let below = rw (← c.self.view_is) at c.requires.below in
    let near : c.args.f.0 < length c.self.inside.kept.items = omega (arith, below, length-rows_of c.self.inside.kept.items c.self.inside.lists.cells c.self.invariant.cells) in
    near

pub index_mut-requires : goal.index_mut-requires
index_mut-requires c =
    let below = rw (← c.self.view_is) at c.requires.below in
    let near : c.args.f.0 < length c.self.inside.kept.items = omega (arith, below, length-rows_of c.self.inside.kept.items c.self.inside.lists.cells c.self.invariant.cells) in
    omega (arith, near, c.self.inside.kept.ok.0)

pub cells-requires-clause-below : goal.cells-requires-clause-below
cells-requires-clause-below c =
    let below = rw (← c.self.view_is) at c.requires.below in
    let near : c.args.f.0 < length c.self.inside.kept.items = omega (arith, below, length-rows_of c.self.inside.kept.items c.self.inside.lists.cells c.self.invariant.cells) in
    rw c.self.invariant.frames near

pub cells-requires-clause-on_none : goal.cells-requires-clause-on_none
cells-requires-clause-on_none c =
    let below = rw (← c.self.view_is) at c.requires.below in
    let active = rw (← c.self.view_is) at c.requires.active in
    count_of-off _ c.self.invariant.consistent c.args.f.0 below (rw active refl) (rw active refl)

pub set_cells-requires-clause-below : goal.set_cells-requires-clause-below
set_cells-requires-clause-below c =
    let below = rw (← c.self.view_is) at c.requires.below in
    let near : c.args.f.0 < length c.self.inside.kept.items = omega (arith, below, length-rows_of c.self.inside.kept.items c.self.inside.lists.cells c.self.invariant.cells) in
    rw c.self.invariant.frames near

pub set_cells-requires-clause-on_none : goal.set_cells-requires-clause-on_none
set_cells-requires-clause-on_none c =
    let below = rw (← c.self.view_is) at c.requires.below in
    let active = rw (← c.self.view_is) at c.requires.active in
    count_of-off _ c.self.invariant.consistent c.args.f.0 below (rw active refl) (rw active refl)

pub without_share-row-requires-clause-shares : goal.without_share-row-requires-clause-shares
without_share-row-requires-clause-shares c =
    let some = rw (← c.self.view_is) at c.requires.shares in
    let row = row-is c.self.inside.kept.items c.self.inside.lists.cells c.self.invariant.cells c.args.f.0 c.kept_at.result c.kept_at.ensures in
    let joined_row : c.joined.result ≡ get_or (rows_of c.self.inside.kept.items c.self.inside.lists.cells) c.args.f.0 bad_row = c.joined.ensures ∙ ap (λ (d : ℕ × ℕ). joined c.kept_at.result d) c.cells.ensures.cells ∙ row in
    omega (arith, some, ap (λ (r : Row). r.shares) joined_row)

pub without_share-row-requires-clause-refs : goal.without_share-row-requires-clause-refs
without_share-row-requires-clause-refs c =
    let below = rw (← c.self.view_is) at c.requires.below in
    let good = c.self.invariant.consistent.rows c.args.f.0 bad_row below in
    let some = rw (← c.self.view_is) at c.requires.shares in
    let row = row-is c.self.inside.kept.items c.self.inside.lists.cells c.self.invariant.cells c.args.f.0 c.kept_at.result c.kept_at.ensures in
    let joined_row : c.joined.result ≡ get_or (rows_of c.self.inside.kept.items c.self.inside.lists.cells) c.args.f.0 bad_row = c.joined.ensures ∙ ap (λ (d : ℕ × ℕ). joined c.kept_at.result d) c.cells.ensures.cells ∙ row in
    let least = refs-least _ good some in
    omega (arith, least, ap (λ (r : Row). r.refs) joined_row)

pub invariant_of-self : goal.invariant_of-self
invariant_of-self c =
    let below = rw (← c.self.view_is) at c.requires.below in
    let good = c.self.invariant.consistent.rows c.args.f.0 bad_row below in
    let active = rw (← c.self.view_is) at c.requires.active in
    let some = rw (← c.self.view_is) at c.requires.shares in
    let off = unshared_off (get_or (rows_of c.self.inside.kept.items c.self.inside.lists.cells) c.args.f.0 bad_row) active in
    record {
      consistent = rw (c.set_cells.ensures.cells, c.set_cells.ensures.free, c.set_cells.ensures.modified, c.kept_of.ensures, rewritten c.self.inside.kept.items c.self.inside.lists.cells c.self.invariant.cells c.args.f.0 c.kept_at.result c.kept_at.ensures (kept_of c.without_share-row.result) (c.without_share-row.result.shares, c.without_share-row.result.slot) (λ (r : Row). unshared r) (c.without_share-row.ensures ∙ ap unshared (c.joined.ensures ∙ ap (λ (d : ℕ × ℕ). joined c.kept_at.result d) c.cells.ensures.cells))) (IsConsistent-same _ c.self.invariant.consistent c.args.f.0 below _ (IsRow-unshared _ good active some) off.0 off.1);
      frames = c.set_cells.ensures.frames ∙ c.self.invariant.frames ∙ sym (length-set c.self.inside.kept.items c.args.f.0 _);
      cells = ap length c.set_cells.ensures.cells ∙ length-set c.self.inside.lists.cells c.args.f.0 _ ∙ c.self.invariant.cells ∙ sym (length-set c.self.inside.kept.items c.args.f.0 _);
      short = rw length-set c.self.invariant.short;
    }

pub returns : goal.returns
returns c = record {
  rows = rw (c.set_cells.ensures.cells, c.kept_of.ensures) (rewritten c.self.inside.kept.items c.self.inside.lists.cells c.self.invariant.cells c.args.f.0 c.kept_at.result c.kept_at.ensures (kept_of c.without_share-row.result) (c.without_share-row.result.shares, c.without_share-row.result.slot) (λ (r : Row). unshared r) (c.without_share-row.ensures ∙ ap unshared (c.joined.ensures ∙ ap (λ (d : ℕ × ℕ). joined c.kept_at.result d) c.cells.ensures.cells)) ∙ ap (λ (frames : Frames). set frames.rows c.args.f.0 ((λ (r : Row). unshared r) (row_of frames c.args.f.0))) c.self.view_is);
  free = c.set_cells.ensures.free ∙ ap (λ (frames : Frames). frames.free) c.self.view_is;
  modified = c.set_cells.ensures.modified ∙ ap (λ (frames : Frames). frames.modified) c.self.view_is;
  consistent = (invariant_of-self c).consistent;
}
