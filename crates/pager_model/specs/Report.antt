-- The counts of a frame, and the report as a recount of the pager's state. Source: Kenah and Bate, "VAX/VMS
-- Internals and Data Structures", the PFN database (reference count, share count); the report is this
-- project's own.
use Rattle.std.specs.Prelude.{ℕ, Bool, ◌+◌, ◌&&◌, List, [], ◌∷◌, Option, length, map, count_by, nat_eq, nat_lt, slice_get, if◌then◌else◌}
use Rattle.std.specs.List.{range_with_len}
use Rattle.vm_types.specs.Ring.{filled, is_pinned_slot}
use Rattle.vm_types.specs.Same.{same_state}
use Rattle.vm_types.specs.declared.names.Page.{Page}
use Rattle.vm_types.specs.declared.names.FrameState.{FrameState}
use Rattle.vm_types.specs.declared.names.FrameState.TheVariants as state
use Rattle.vm_types.specs.declared.names.ProcStatus.{ProcStatus}
use Rattle.vm_types.specs.declared.config.Config.{Config}
use Rattle.vm_journal.specs.declared.entry.Entry.{Entry}
use Rattle.pager_model.specs.Flights.{open_flights}
use Rattle.pager_model.specs.Lookups.{shares, slot_of, slot_with}
use Rattle.pager_model.specs.Pager.{Pager, Valid}
use Rattle.pager_model.specs.Transfers.{reads_on, writes_on}

-- whether a valid entry is for the frame and its slot is pinned
abbrev pub is_pin_on : Pager → ℕ → Valid → Bool
is_pin_on a f e = nat_eq e.frame f && is_pinned_slot (slot_of (slice_get (a.ring e.proc).slots (slot_with (a.ring e.proc) e.vpn)))

-- how many pinned slots have a valid entry for the frame
abbrev pub pins_on : Pager → ℕ → ℕ
pins_on a f = count_by (is_pin_on a f) a.valid

-- one for the valid entries together, one for each open flight, and one for each pin
abbrev pub refs_of : List Entry → Pager → ℕ → ℕ
refs_of past a f = ((if nat_lt 0 (shares a.valid f) then 1 else 0) + (reads_on f (open_flights past) + writes_on f (open_flights past))) + pins_on a f

-- a frame's line of the report
pub record FrameRow : Type 0 where
  pub state : FrameState
  pub page : Option Page
  pub modify : Bool
  pub refs : ℕ
  pub shares : ℕ

-- a process's line
pub record ProcessRow : Type 0 where
  pub status : ProcStatus
  pub count : ℕ
  pub limit : ℕ

pub record Report : Type 0 where
  pub at : ℕ
  pub states : List ℕ
  pub frames : List FrameRow
  pub size : ℕ
  pub charged : ℕ
  pub assigned : ℕ
  pub processes : List ProcessRow

abbrev pub frame_row : List Entry → Pager → ℕ → FrameRow
frame_row past a f =
    record { state = a.state f; page = a.page f; modify = a.modify f; refs = refs_of past a f; shares = shares a.valid f }

-- the frames by number
abbrev pub frame_rows : Config → List Entry → Pager → List FrameRow
frame_rows config past a = map (frame_row past a) (range_with_len 0 config.frames)

abbrev pub in_state : List FrameRow → FrameState → ℕ
in_state rows s = count_by (λ (row : FrameRow). same_state row.state s) rows

-- the states in the order of their codes
abbrev pub all_states : List FrameState
all_states =
    state.Free ∷ state.Modified ∷ state.Bad ∷ state.ReleasePending ∷ state.ReadError ∷ state.Writing ∷ state.Reading ∷ state.Active ∷ []

abbrev pub process_row : Pager → ℕ → ProcessRow
process_row a p = record { status = a.status p; count = filled (a.ring p).slots; limit = a.limit p }

-- the number of entries, then a recount of the state
abbrev pub report_of : Config → List Entry → Pager → Report
report_of config past a =
    record {
      at = length past;
      states = map (in_state (frame_rows config past a)) all_states;
      frames = frame_rows config past a;
      size = config.pagefile;
      charged = length a.charged;
      assigned = length a.assigned;
      processes = map (process_row a) (range_with_len 0 (length config.procs));
    }
