-- What the readers of a state show. This project's own.
use Rattle.std.specs.Prelude.{ℕ, List}
use Rattle.page_lists.specs.declared.list_name.ListName.{ListName}
use Rattle.page_lists.specs.declared.list_name.ListName.TheVariants as name
use Rattle.pfn_database.specs.declared.row.Row.{Row}
use Rattle.pager_model.specs.Flights.{open_flights}
use Rattle.pager_model.specs.Pager.{Pager}
use Rattle.state_fits.specs.Frames.{frame_row}
use Rattle.vm_state.specs.History.{History, pager}

-- the row of a frame in the PFN database
abbrev pub row_at : History → ℕ → Row
row_at s f = frame_row (pager s).state (pager s).page (pager s).modify (pager s).valid (pager s).ring (open_flights s.past) f

-- the frames on a list, from its head on
abbrev pub listed : Pager → ListName → List ℕ
listed a name.Free = a.free
listed a name.Modified = a.modified
