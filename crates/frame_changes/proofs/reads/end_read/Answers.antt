use Rattle.std.proofs.Common.{◌+◌, Some, set, refl, ◌∙◌, ap}
use Rattle.vm_types.specs.declared.names.FrameState.TheVariants.{Active}
use Rattle.pfn_database.specs.declared.row.Row.{Row}
use Rattle.pfn_database.specs.Rows.{counted_references, uncounted}
use Rattle.pfn_database.specs.Frames.{row_of}
use Rattle.frame_changes.proofs.RowChanges.{row_again, row_here, over_ended, free_without, modified_without}
use Rattle.frame_changes.proofs.reads.end_read.Goals as goal

pub returns-clause-rows : goal.returns-clause-rows
returns-clause-rows c =
    rw c.requires.page (row_again _ _ _ c.args.f.0 _
    (λ (row : Row). record row { state = Active; page = Some c.args.page; modify = c.args.modify; refs = counted_references (row.shares + 1) row.flights + uncounted row; shares = row.shares + 1; slot = c.args.slot })
    c.requires.below c.end_flight.ensures.rows c.enter.ensures.rows
    ∙ ap (λ over. set c.args.frames.now.rows c.args.f.0 (let row = row_of c.args.frames.now c.args.f.0 in record row { state = Active; page = Some c.args.page; modify = c.args.modify; refs = counted_references (row.shares + 1) 0 + over; shares = row.shares + 1; slot = c.args.slot; flights = 0 }))
    (over_ended (row_of c.args.frames.now c.args.f.0) c.requires.flights))

pub returns-clause-free : goal.returns-clause-free
returns-clause-free c =
    let here = row_here _ _ c.args.f.0 _ c.requires.below c.end_flight.ensures.rows in
    c.enter.ensures.free
    ∙ free_without _ c.args.f.0 c.end_flight.ensures.consistent (rw (here, c.requires.reading) refl)
    ∙ c.end_flight.ensures.free

pub returns-clause-modified : goal.returns-clause-modified
returns-clause-modified c =
    let here = row_here _ _ c.args.f.0 _ c.requires.below c.end_flight.ensures.rows in
    c.enter.ensures.modified
    ∙ modified_without _ c.args.f.0 c.end_flight.ensures.consistent (rw (here, c.requires.reading) refl)
    ∙ c.end_flight.ensures.modified
