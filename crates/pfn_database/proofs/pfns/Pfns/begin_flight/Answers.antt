use Rattle.std.proofs.Common.{◌+◌, ◌<◌, false, cond, length, set, refl, sym, ◌∙◌, ap, arith, length-set}
use Rattle.page_lists.specs.Lists.{without}
use Rattle.page_lists.proofs.Counts.{without-absent}
use Rattle.pfn_database.specs.declared.row.Row.{Row}
use Rattle.pfn_database.specs.Rows.{bad_row, state_in_transfer}
use Rattle.pfn_database.specs.Frames.{Frames, row_of, is_free, is_modified}
use Rattle.pfn_database.proofs.KeptRows.{length-rows_of, row-is, edited}
use Rattle.pfn_database.proofs.Changes.{IsConsistent-off, IsRow-begin_flight, transfer_off, refs-most}
use Rattle.pfn_database.proofs.pfns.Pfns.begin_flight.Goals as goal

pub kept_at-kept-requires : goal.kept_at-kept-requires
kept_at-kept-requires c =
    let below = rw (← c.self.view_is) at c.requires.below in
    let near : c.args.f.0 < length c.self.inside.kept.items = omega (arith, below, length-rows_of c.self.inside.kept.items c.self.inside.lists.cells c.self.invariant.cells) in
    near

pub index_mut-requires : goal.index_mut-requires
index_mut-requires c =
    let below = rw (← c.self.view_is) at c.requires.below in
    let near : c.args.f.0 < length c.self.inside.kept.items = omega (arith, below, length-rows_of c.self.inside.kept.items c.self.inside.lists.cells c.self.invariant.cells) in
    omega (arith, near, c.self.inside.kept.ok.0)

pub take_off-requires-clause-free : goal.take_off-requires-clause-free
take_off-requires-clause-free c =
    let row = row-is c.self.inside.kept.items c.self.inside.lists.cells c.self.invariant.cells c.args.f.0 c.kept_at-kept.result c.kept_at-kept.ensures in
    c.self.invariant.consistent.free c.args.f.0 ∙ ap (λ (r : Row). cond (is_free r.state) 1 0) (sym row)

pub take_off-requires-clause-modified : goal.take_off-requires-clause-modified
take_off-requires-clause-modified c =
    let row = row-is c.self.inside.kept.items c.self.inside.lists.cells c.self.invariant.cells c.args.f.0 c.kept_at-kept.result c.kept_at-kept.ensures in
    c.self.invariant.consistent.modified c.args.f.0 ∙ ap (λ (r : Row). cond (is_modified r.state) 1 0) (sym row)

pub overflow_add-kept : goal.overflow_add-kept
overflow_add-kept c =
    let below = rw (← c.self.view_is) at c.requires.below in
    let good = c.self.invariant.consistent.rows c.args.f.0 bad_row below in
    let row = row-is c.self.inside.kept.items c.self.inside.lists.cells c.self.invariant.cells c.args.f.0 c.kept_at-kept.result c.kept_at-kept.ensures in
    let most = refs-most _ good in
    omega (arith, most, ap (λ (r : Row). r.refs) row)

pub invariant_of-self : goal.invariant_of-self
invariant_of-self c =
    let below = rw (← c.self.view_is) at c.requires.below in
    let good = c.self.invariant.consistent.rows c.args.f.0 bad_row below in
    let among = rw (← c.self.view_is) at c.requires.state in
    let none = rw (← c.self.view_is) at c.requires.flights in
    let off = transfer_off _ among in
    record {
      consistent = rw (c.take_off.ensures.cells, c.take_off.ensures.free, c.take_off.ensures.modified, c.state_in_transfer.ensures, edited c.self.inside.kept.items c.self.inside.lists.cells c.self.invariant.cells c.args.f.0 c.kept_at-kept.result c.kept_at-kept.ensures (record { state = state_in_transfer c.kept_at-kept.result.state; page = c.kept_at-kept.result.page; modify = false; refs = c.kept_at-kept.result.refs + 1; flights = 1 }) (λ (r : Row). record r { state = state_in_transfer r.state; modify = false; refs = r.refs + 1; flights = 1 }) refl) (IsConsistent-off _ c.self.invariant.consistent c.args.f.0 below _ (IsRow-begin_flight _ good among none) off.1 off.2);
      frames = c.take_off.ensures.frames ∙ c.self.invariant.frames ∙ sym (length-set c.self.inside.kept.items c.args.f.0 _);
      cells = ap length c.take_off.ensures.cells ∙ c.self.invariant.cells ∙ sym (length-set c.self.inside.kept.items c.args.f.0 _);
      short = rw length-set c.self.invariant.short;
    }

pub returns-clause-rows : goal.returns-clause-rows
returns-clause-rows c =
    rw (c.take_off.ensures.cells, c.state_in_transfer.ensures) (edited c.self.inside.kept.items c.self.inside.lists.cells c.self.invariant.cells c.args.f.0 c.kept_at-kept.result c.kept_at-kept.ensures (record { state = state_in_transfer c.kept_at-kept.result.state; page = c.kept_at-kept.result.page; modify = false; refs = c.kept_at-kept.result.refs + 1; flights = 1 }) (λ (r : Row). record r { state = state_in_transfer r.state; modify = false; refs = r.refs + 1; flights = 1 }) refl ∙ ap (λ (frames : Frames). set frames.rows c.args.f.0 ((λ (r : Row). record r { state = state_in_transfer r.state; modify = false; refs = r.refs + 1; flights = 1 }) (row_of frames c.args.f.0))) c.self.view_is)

pub returns-clause-free : goal.returns-clause-free
returns-clause-free c =
    let among = rw (← c.self.view_is) at c.requires.state in
    let off = transfer_off _ among in
    c.take_off.ensures.free
    ∙ without-absent _ c.args.f.0 (c.self.invariant.consistent.free c.args.f.0 ∙ rw off.0 refl)
    ∙ ap (λ (frames : Frames). frames.free) c.self.view_is

pub returns-clause-modified : goal.returns-clause-modified
returns-clause-modified c =
    c.take_off.ensures.modified ∙ ap (λ (frames : Frames). without frames.modified c.args.f.0) c.self.view_is

pub returns-clause-consistent : goal.returns-clause-consistent
returns-clause-consistent c =
    (invariant_of-self c).consistent
