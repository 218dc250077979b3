use Rattle.pfn_database.specs.Frames.{row_of}
use Rattle.frame_changes.proofs.RowChanges.{row_counted, flight_begun}
use Rattle.frame_changes.proofs.writes.begin_write.Goals as goal

pub returns-clause-rows : goal.returns-clause-rows
returns-clause-rows c =
    row_counted _ _ c.args.f.0 (row_of c.args.frames.now c.args.f.0) _ c.begin_flight.ensures.consistent c.requires.below c.begin_flight.ensures.rows (flight_begun (row_of c.args.frames.now c.args.f.0) c.requires.flights)
