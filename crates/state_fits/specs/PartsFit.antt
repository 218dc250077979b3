-- The parts stand for a state of the pager after a past: each part for the attributes that it keeps, and none
-- for another part. This project's own.
use Rattle.std.specs.Prelude.{◌≡◌, ◌+◌, List, length}
use Rattle.std.specs.Option.{option_map}
use Rattle.vm_types.specs.declared.config.Config.{Config}
use Rattle.vm_journal.specs.declared.entry.Entry.{Entry}
use Rattle.pager_model.specs.Flights.{Flight, failed_flight, open_flights}
use Rattle.pager_model.specs.Pager.{Pager}
use Rattle.state_fits.specs.Entries.{SectionsFit, TablesFit, origin_of, pte_of}
use Rattle.state_fits.specs.File.{FileFits, owner_in}
use Rattle.state_fits.specs.Frames.{FramesFit, frame_row}
use Rattle.state_fits.specs.Globals.{GlobalsFit}
use Rattle.state_fits.specs.Pages.{PagesFit, charged_row}
use Rattle.state_fits.specs.Parts.{Parts}
use Rattle.state_fits.specs.Processes.{ProcessesFit, process_row}
use Rattle.state_fits.specs.Seats.{FlightsFit, SeatsFit}
use Rattle.state_fits.specs.Spoken.{SpokenFit, spoken_by}
use Rattle.state_fits.specs.Swaps.{SwapsFit}

pub record PartsFit (config : Config) (past : List Entry) (a : Pager) (parts : Parts) : Type 0 where
  pub frames : FramesFit (frame_row a.state a.page a.modify a.valid a.ring (open_flights past)) config.frames a.free a.modified parts.frames
  pub flights : FlightsFit (open_flights past) config.frames parts.starts parts.roles
  pub processes : ProcessesFit (process_row a.status a.ring a.limit a.references a.faults a.collided) (length config.procs) parts.processes
  pub spoken : SpokenFit (λ p. spoken_by p past) (length config.procs) parts.spoken
  pub tables : TablesFit (pte_of config a.map a.valid a.page a.lies) (length config.procs) parts.tables
  pub sections : SectionsFit config (origin_of a.map) parts.sections
  pub pages : PagesFit config (charged_row a.charged a.touched a.lies a.assigned) parts.pages
  pub globals : GlobalsFit config a.page a.valid parts.globals
  pub file : FileFits (length a.charged) (length a.assigned) (owner_in a.assigned) config.pagefile parts.file
  pub swaps : SwapsFit a.lies (length config.procs) parts.swaps
  pub seats : SeatsFit (open_flights past) (length config.procs + 2) parts.busy parts.in_flight
  pub failed : parts.failed ≡ option_map (λ (x : Flight). x.block) (failed_flight past)
