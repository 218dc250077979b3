-- The dump of the pager's state after a journal. A past is a journal's list of entries, the newest first. Source:
-- Kenah and Bate, "VAX/VMS Internals and Data Structures", the PFN database, working set lists and process page
-- tables; what of them a dump has is this project's own.
use Rattle.std.specs.Prelude.{ℕ, Bool, false, true, List, Option, Some, None, filter, length, map, nat_eq}
use Rattle.std.specs.List.{range_with_len}
use Rattle.vm_types.specs.Ring.{Held}
use Rattle.vm_types.specs.Same.{state_code}
use Rattle.vm_types.specs.declared.config.Config.{Config}
use Rattle.vm_types.specs.declared.names.ProcStatus.{ProcStatus}
use Rattle.vm_types.specs.declared.names.ProcStatus.TheVariants as status
use Rattle.vm_journal.specs.declared.entry.Entry.{Entry}
use Rattle.pte_forms.specs.Word.{word_of}
use Rattle.pte_forms.specs.declared.pte.Place.TheVariants as place
use Rattle.pfn_database.specs.declared.row.Row.{Row}
use Rattle.pager_model.specs.Flights.{open_flights}
use Rattle.pager_model.specs.Maps.{pfn, Mapped}
use Rattle.pager_model.specs.Lookups.{entry_of}
use Rattle.pager_model.specs.Pager.{Pager, Valid}
use Rattle.pager_model.specs.Run.{pager_after}
use Rattle.pager_model.specs.Transfers.{is_in_flight}
use Rattle.state_fits.specs.Frames.{frame_row}
use Rattle.dump_bytes.specs.declared.dump.FrameRec.{FrameRec}
use Rattle.dump_bytes.specs.declared.dump.SlotRec.{SlotRec}
use Rattle.dump_bytes.specs.Dumped.{Dumped, Process}
use Rattle.dump_laws.specs.Ascending.{ascending}

-- a row of the PFN database, with the counts that it keeps
abbrev pub dumped_frame : Row → FrameRec
dumped_frame row = record { state = state_code row.state; modify = row.modify; page = row.page; refs = row.refs; shares = row.shares }

abbrev pub frame_at : List Entry → Pager → ℕ → FrameRec
frame_at past a f = dumped_frame (frame_row a.state a.page a.modify a.valid a.ring (open_flights past) f)

-- the code of a process's status
abbrev pub status_code : ProcStatus → ℕ
status_code status.Resident = 0
status_code status.Leaving = 1
status_code status.Gone = 2
status_code status.Coming = 3

-- a slot of a working set list
abbrev pub dumped_slot : Option Held → SlotRec
dumped_slot None = record { filled = false; locked = false; pinned = false; vpn = 0 }
dumped_slot (Some held) = record { filled = true; locked = held.locked; pinned = held.pinned; vpn = held.vpn }

-- the page numbers of a process's valid entries, ascending
abbrev pub pages_of : List Valid → ℕ → List ℕ
pages_of valid p = map (λ (e : Valid). e.vpn) (filter (λ (e : Valid). nat_eq e.proc p) valid)

abbrev pub valid_pages : List Valid → ℕ → List ℕ
valid_pages valid p = ascending (pages_of valid p)

-- the word of a valid entry, with the modify mark of its frame; 0 for a page that has none
abbrev pub word_by : (ℕ → Bool) → Option Valid → Option Mapped → ℕ
word_by modify None m = 0
word_by modify (Some e) None = 0
word_by modify (Some e) (Some m) = word_of (record { prot = m.prot; place = place.Valid (modify e.frame) (pfn e.frame) })

abbrev pub entry_word : Pager → ℕ → ℕ → ℕ
entry_word a p v = word_by a.modify (entry_of a.valid p v) (a.map p v)

-- the valid entries of a process by page number, each with its word
abbrev pub words_of : Pager → ℕ → List (ℕ × ℕ)
words_of a p = map (λ v. (v, entry_word a p v)) (valid_pages a.valid p)

abbrev pub process_at : Pager → ℕ → Process
process_at a p =
    record {
      status = status_code (a.status p);
      hand = (a.ring p).hand;
      limit = a.limit p;
      slots = map dumped_slot (a.ring p).slots;
      words = words_of a p;
    }

-- the frames with an open transfer, ascending
abbrev pub busy_frames : Config → List Entry → List ℕ
busy_frames config past = filter (λ (f : ℕ). is_in_flight f (open_flights past)) (range_with_len 0 config.frames)

abbrev pub dump_by : Config → List Entry → Pager → Dumped
dump_by config past a =
    record {
      frames = map (frame_at past a) (range_with_len 0 config.frames);
      free = a.free;
      modified = a.modified;
      size = config.pagefile;
      charged = length a.charged;
      assigned = length a.assigned;
      procs = map (process_at a) (range_with_len 0 (length config.procs));
      flights = busy_frames config past;
    }

abbrev pub dump_after : Config → List Entry → Dumped
dump_after config past = dump_by config past (pager_after config past)
