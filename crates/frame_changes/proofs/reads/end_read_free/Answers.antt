use Rattle.std.proofs.Common.{◌≡◌, false, cond}
use Rattle.vm_types.specs.declared.names.FrameState.TheVariants.{Free, Modified}
use Rattle.pfn_database.specs.declared.row.Row.{Row}
use Rattle.pfn_database.specs.Frames.{row_of}
use Rattle.frame_changes.proofs.RowChanges.{row_again, row_good, row_counted, flight_ended}
use Rattle.frame_changes.proofs.reads.end_read_free.Goals as goal

pub returns-clause-rows : goal.returns-clause-rows
returns-clause-rows c =
    let good = row_good _ _ c.args.f.0 _ c.end_flight.ensures.consistent c.requires.below c.end_flight.ensures.rows in
    let clear : (row_of c.args.frames.now c.args.f.0).modify ≡ false = rw c.requires.reading at good.modify in
    let put = row_counted _ _ c.args.f.0 (row_of c.args.frames.now c.args.f.0) _ c.settle.ensures.consistent c.requires.below
    (row_again _ _ _ c.args.f.0 _ (λ (row : Row). record row { state = cond row.modify Modified Free; slot = 0 }) c.requires.below c.end_flight.ensures.rows c.settle.ensures.rows)
    (flight_ended (row_of c.args.frames.now c.args.f.0) c.requires.flights) in
    rw clear (rw clear at put)
