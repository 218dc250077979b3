use Rattle.std.proofs.Common.{ℕ, ◌≡◌, ◌<◌, cond, [], ◌∷◌, ◌++◌, length, set, get_or, refl, sym, ◌∙◌, ap, arith, length-set}
use Rattle.vm_types.specs.declared.names.FrameState.TheVariants.{Free, Modified}
use Rattle.pfn_database.specs.declared.row.Row.{Row}
use Rattle.pfn_database.specs.Rows.{bad_row}
use Rattle.pfn_database.specs.Frames.{Frames, row_of}
use Rattle.pfn_database.specs.Kept.{joined}
use Rattle.pfn_database.proofs.KeptRows.{length-rows_of, row-is, rewritten}
use Rattle.pfn_database.proofs.Changes.{IsConsistent-settled, IsRow-settle, settling_off, count_of-off}
use Rattle.pfn_database.proofs.pfns.Pfns.settle.Goals as goal

pub kept_at-kept-requires : goal.kept_at-kept-requires
kept_at-kept-requires c =
    let below = rw (← c.self.view_is) at c.requires.below in
    let near : c.args.f.0 < length c.self.inside.kept.items = omega (arith, below, length-rows_of c.self.inside.kept.items c.self.inside.lists.cells c.self.invariant.cells) in
    near

pub index_mut-requires : goal.index_mut-requires
index_mut-requires c =
    let below = rw (← c.self.view_is) at c.requires.below in
    let near : c.args.f.0 < length c.self.inside.kept.items = omega (arith, below, length-rows_of c.self.inside.kept.items c.self.inside.lists.cells c.self.invariant.cells) in
    omega (arith, near, c.self.inside.kept.ok.0)

pub push_settled-state-requires-clause-below : goal.push_settled-state-requires-clause-below
push_settled-state-requires-clause-below c =
    let below = rw (← c.self.view_is) at c.requires.below in
    let near : c.args.f.0 < length c.self.inside.kept.items = omega (arith, below, length-rows_of c.self.inside.kept.items c.self.inside.lists.cells c.self.invariant.cells) in
    rw c.self.invariant.frames near

pub push_settled-state-requires-clause-on_none : goal.push_settled-state-requires-clause-on_none
push_settled-state-requires-clause-on_none c =
    let below = rw (← c.self.view_is) at c.requires.below in
    let among = rw (← c.self.view_is) at c.requires.state in
    let shares = rw (← c.self.view_is) at c.requires.shares in
    let flights = rw (← c.self.view_is) at c.requires.flights in
    let off = settling_off _ among in
    count_of-off _ c.self.invariant.consistent c.args.f.0 below off.0 off.1

pub invariant_of-self : goal.invariant_of-self
invariant_of-self c =
    let below = rw (← c.self.view_is) at c.requires.below in
    let good = c.self.invariant.consistent.rows c.args.f.0 bad_row below in
    let row = row-is c.self.inside.kept.items c.self.inside.lists.cells c.self.invariant.cells c.args.f.0 c.kept_at-kept.result c.kept_at-kept.ensures in
    let among = rw (← c.self.view_is) at c.requires.state in
    let shares = rw (← c.self.view_is) at c.requires.shares in
    let flights = rw (← c.self.view_is) at c.requires.flights in
    let zero : 0 ≡ (get_or c.self.inside.lists.cells c.args.f.0 (0, 0)).0 = sym (ap (λ (r : Row). r.shares) row ∙ shares) in
    let modify = ap (λ (r : Row). r.modify) row in
    let off = settling_off _ among in
    record {
      consistent = rw (c.push_settled-state.ensures.cells, c.push_settled-state.ensures.state, c.push_settled-state.ensures.free, c.push_settled-state.ensures.modified, rewritten c.self.inside.kept.items c.self.inside.lists.cells c.self.invariant.cells c.args.f.0 c.kept_at-kept.result c.kept_at-kept.ensures (record { state = cond c.kept_at-kept.result.modify Modified Free; page = c.kept_at-kept.result.page; modify = c.kept_at-kept.result.modify; refs = c.kept_at-kept.result.refs; flights = c.kept_at-kept.result.flights }) (0, 0) (λ (r : Row). record r { state = cond r.modify Modified Free; slot = 0 }) (ap (λ (n : ℕ). joined (record { state = cond c.kept_at-kept.result.modify Modified Free; page = c.kept_at-kept.result.page; modify = c.kept_at-kept.result.modify; refs = c.kept_at-kept.result.refs; flights = c.kept_at-kept.result.flights }) (n, 0)) zero), modify) (IsConsistent-settled _ c.self.invariant.consistent c.args.f.0 below _ _ (IsRow-settle _ good among shares flights) refl off.0 off.1);
      frames = c.push_settled-state.ensures.frames ∙ c.self.invariant.frames ∙ sym (length-set c.self.inside.kept.items c.args.f.0 _);
      cells = ap length c.push_settled-state.ensures.cells ∙ length-set c.self.inside.lists.cells c.args.f.0 _ ∙ c.self.invariant.cells ∙ sym (length-set c.self.inside.kept.items c.args.f.0 _);
      short = rw length-set c.self.invariant.short;
    }

pub returns-clause-rows : goal.returns-clause-rows
returns-clause-rows c =
    let row = row-is c.self.inside.kept.items c.self.inside.lists.cells c.self.invariant.cells c.args.f.0 c.kept_at-kept.result c.kept_at-kept.ensures in
    let shares = rw (← c.self.view_is) at c.requires.shares in
    let zero : 0 ≡ (get_or c.self.inside.lists.cells c.args.f.0 (0, 0)).0 = sym (ap (λ (r : Row). r.shares) row ∙ shares) in
    rw (c.push_settled-state.ensures.cells, c.push_settled-state.ensures.state) (rewritten c.self.inside.kept.items c.self.inside.lists.cells c.self.invariant.cells c.args.f.0 c.kept_at-kept.result c.kept_at-kept.ensures (record { state = cond c.kept_at-kept.result.modify Modified Free; page = c.kept_at-kept.result.page; modify = c.kept_at-kept.result.modify; refs = c.kept_at-kept.result.refs; flights = c.kept_at-kept.result.flights }) (0, 0) (λ (r : Row). record r { state = cond r.modify Modified Free; slot = 0 }) (ap (λ (n : ℕ). joined (record { state = cond c.kept_at-kept.result.modify Modified Free; page = c.kept_at-kept.result.page; modify = c.kept_at-kept.result.modify; refs = c.kept_at-kept.result.refs; flights = c.kept_at-kept.result.flights }) (n, 0)) zero) ∙ ap (λ (frames : Frames). set frames.rows c.args.f.0 ((λ (r : Row). record r { state = cond r.modify Modified Free; slot = 0 }) (row_of frames c.args.f.0))) c.self.view_is)

pub returns-clause-free : goal.returns-clause-free
returns-clause-free c =
    let row = row-is c.self.inside.kept.items c.self.inside.lists.cells c.self.invariant.cells c.args.f.0 c.kept_at-kept.result c.kept_at-kept.ensures in
    let modify = ap (λ (r : Row). r.modify) row in
    c.push_settled-state.ensures.free ∙ rw modify refl ∙ ap (λ (frames : Frames). cond (row_of frames c.args.f.0).modify frames.free (frames.free ++ c.args.f.0 ∷ [])) c.self.view_is

pub returns-clause-modified : goal.returns-clause-modified
returns-clause-modified c =
    let row = row-is c.self.inside.kept.items c.self.inside.lists.cells c.self.invariant.cells c.args.f.0 c.kept_at-kept.result c.kept_at-kept.ensures in
    let modify = ap (λ (r : Row). r.modify) row in
    c.push_settled-state.ensures.modified ∙ rw modify refl ∙ ap (λ (frames : Frames). cond (row_of frames c.args.f.0).modify (frames.modified ++ c.args.f.0 ∷ []) frames.modified) c.self.view_is

pub returns-clause-consistent : goal.returns-clause-consistent
returns-clause-consistent c =
    (invariant_of-self c).consistent
