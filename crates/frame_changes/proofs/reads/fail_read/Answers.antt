use Rattle.std.proofs.Common.{◌∙◌}
use Rattle.pfn_database.specs.declared.row.Row.{Row}
use Rattle.vm_types.specs.declared.names.FrameState.TheVariants.{ReadError}
use Rattle.pfn_database.specs.Frames.{row_of}
use Rattle.frame_changes.proofs.RowChanges.{row_again, row_counted, flight_ended}
use Rattle.frame_changes.proofs.reads.fail_read.Goals as goal

pub returns : goal.returns
returns c = record {
  rows = row_counted _ _ c.args.f.0 (row_of c.args.frames.now c.args.f.0) _ c.set_error.ensures.consistent c.requires.below (row_again _ _ _ c.args.f.0 _ (λ (row : Row). record row { state = ReadError }) c.requires.below c.end_flight.ensures.rows c.set_error.ensures.rows) (flight_ended (row_of c.args.frames.now c.args.f.0) c.requires.flights);
  free = c.set_error.ensures.free ∙ c.end_flight.ensures.free;
  modified = c.set_error.ensures.modified ∙ c.end_flight.ensures.modified;
  consistent = c.set_error.ensures.consistent;
}
