use Rattle.std.proofs.Common.{◌≡◌, ◌+◌, false, refl, sym, ◌∙◌, inl}
use Rattle.page_lists.specs.Lists.{count_of}
use Rattle.page_lists.proofs.TwoLists.{without-head}
use Rattle.pfn_database.specs.declared.row.Row.{Row}
use Rattle.pfn_database.specs.Frames.{row_of}
use Rattle.pfn_database.specs.Rows.{bad_row, state_in_transfer}
use Rattle.frame_changes.proofs.RowChanges.{row_again, row_counted, flight_begun, modified_without, head_free}
use Rattle.frame_changes.proofs.reads.begin_read.Goals as goal

pub returns-clause-rows : goal.returns-clause-rows
returns-clause-rows c =
    let free = head_free _ c.args.f.0 c.row.ensures.consistent c.requires.head in
    let idle : (row_of c.args.frames.now c.args.f.0).flights ≡ 0 = (c.row.ensures.consistent.rows c.args.f.0 bad_row c.requires.below).listed (inl free) in
    row_counted _ _ c.args.f.0 (row_of c.args.frames.now c.args.f.0) _ c.begin_flight.ensures.consistent c.requires.below
    (row_again _ _ _ c.args.f.0 _ (λ (row : Row). record row { state = state_in_transfer row.state; modify = false; refs = row.refs + 1; flights = 1 }) c.requires.below c.set_reading.ensures.rows c.begin_flight.ensures.rows)
    (flight_begun (row_of c.args.frames.now c.args.f.0) idle)

pub returns-clause-free : goal.returns-clause-free
returns-clause-free c =
    let free = head_free _ c.args.f.0 c.row.ensures.consistent c.requires.head in
    let once : count_of c.args.frames.now.free c.args.f.0 ≡ 1 = c.row.ensures.consistent.free c.args.f.0 ∙ rw free refl in
    c.begin_flight.ensures.free ∙ c.set_reading.ensures.free ∙ sym (without-head _ c.args.f.0 once c.requires.head)

pub returns-clause-modified : goal.returns-clause-modified
returns-clause-modified c =
    let free = head_free _ c.args.f.0 c.row.ensures.consistent c.requires.head in
    c.begin_flight.ensures.modified
    ∙ rw c.set_reading.ensures.modified (modified_without _ c.args.f.0 c.row.ensures.consistent (rw free refl))
