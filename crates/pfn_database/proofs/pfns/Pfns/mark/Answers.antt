use Rattle.std.proofs.Common.{◌<◌, length, set, refl, sym, ◌∙◌, ap, arith, length-set}
use Rattle.pfn_database.specs.declared.row.Row.{Row}
use Rattle.pfn_database.specs.Rows.{bad_row}
use Rattle.pfn_database.specs.Frames.{Frames, row_of}
use Rattle.pfn_database.proofs.KeptRows.{length-rows_of, edited}
use Rattle.pfn_database.proofs.Changes.{IsConsistent-same, IsRow-mark}
use Rattle.pfn_database.proofs.pfns.Pfns.mark.Goals as goal

pub kept_at-kept-requires : goal.kept_at-kept-requires
kept_at-kept-requires c =
    let below = rw (← c.self.view_is) at c.requires.below in
    let near : c.args.f.0 < length c.self.inside.kept.items = omega (arith, below, length-rows_of c.self.inside.kept.items c.self.inside.lists.cells c.self.invariant.cells) in
    near

pub index_mut-requires : goal.index_mut-requires
index_mut-requires c =
    let below = rw (← c.self.view_is) at c.requires.below in
    let near : c.args.f.0 < length c.self.inside.kept.items = omega (arith, below, length-rows_of c.self.inside.kept.items c.self.inside.lists.cells c.self.invariant.cells) in
    omega (arith, near, c.self.inside.kept.ok.0)

pub invariant_of-self : goal.invariant_of-self
invariant_of-self c =
    let below = rw (← c.self.view_is) at c.requires.below in
    let good = c.self.invariant.consistent.rows c.args.f.0 bad_row below in
    let fits = rw (← c.self.view_is) at c.requires.state in
    record {
      consistent = rw (edited c.self.inside.kept.items c.self.inside.lists.cells c.self.invariant.cells c.args.f.0 c.kept_at-kept.result c.kept_at-kept.ensures (record { state = c.kept_at-kept.result.state; page = c.kept_at-kept.result.page; modify = c.args.modify; refs = c.kept_at-kept.result.refs; flights = c.kept_at-kept.result.flights }) (λ (r : Row). record r { modify = c.args.modify }) refl) (IsConsistent-same _ c.self.invariant.consistent c.args.f.0 below _ (IsRow-mark _ good c.args.modify fits) refl refl);
      frames = c.self.invariant.frames ∙ sym (length-set c.self.inside.kept.items c.args.f.0 _);
      cells = c.self.invariant.cells ∙ sym (length-set c.self.inside.kept.items c.args.f.0 _);
      short = rw length-set c.self.invariant.short;
    }

pub returns : goal.returns
returns c = record {
  rows = edited c.self.inside.kept.items c.self.inside.lists.cells c.self.invariant.cells c.args.f.0 c.kept_at-kept.result c.kept_at-kept.ensures (record { state = c.kept_at-kept.result.state; page = c.kept_at-kept.result.page; modify = c.args.modify; refs = c.kept_at-kept.result.refs; flights = c.kept_at-kept.result.flights }) (λ (r : Row). record r { modify = c.args.modify }) refl ∙ ap (λ (frames : Frames). set frames.rows c.args.f.0 ((λ (r : Row). record r { modify = c.args.modify }) (row_of frames c.args.f.0))) c.self.view_is;
  free = ap (λ (frames : Frames). frames.free) c.self.view_is;
  modified = ap (λ (frames : Frames). frames.modified) c.self.view_is;
  consistent = (invariant_of-self c).consistent;
}
