-- What is around one frame, process, page table entry, page or block, as a value. This project's own.
use Rattle.std.specs.Prelude.{ℕ, Bool, false, List, Option, None, count_by, slice_get}
use Rattle.vm_types.specs.Ring.{Ring}
use Rattle.vm_types.specs.declared.names.Page.{Page}
use Rattle.vm_types.specs.declared.names.FrameState.{FrameState}
use Rattle.vm_types.specs.declared.names.BlockId.{BlockId}
use Rattle.vm_types.specs.declared.names.ProcStatus.{ProcStatus}
use Rattle.vm_types.specs.declared.config.Config.{Config}
use Rattle.vm_types.specs.declared.config.ProcSpec.{ProcSpec}
use Rattle.vm_types.specs.declared.config.Version.{Version}
use Rattle.vm_journal.specs.declared.entry.Entry.{Entry}
use Rattle.page_lists.specs.Lists.{count_of}
use Rattle.pager_model.specs.Flights.{Flight, failed_flight, has_failed_read, open_flights}
use Rattle.pager_model.specs.Lookups.{block_of, count_page, entries_at, is_assigned_to, is_owner, own_page, own_section, page_by, pins_with, shares, slots_with}
use Rattle.pager_model.specs.Maps.{is_paged}
use Rattle.pager_model.specs.Opening.{is_bad}
use Rattle.pager_model.specs.Pager.{Pager}
use Rattle.pager_model.specs.Transfers.{is_on_block, reads_on, writes_on}

-- what a past says of the present: its open flights, the frame in read error, and the read that failed
pub record PastView : Type 0 where
  pub flights : List Flight
  pub failed : ℕ → Bool
  pub failure : Option Flight

abbrev pub past_view : List Entry → PastView
past_view past = record { flights = open_flights past; failed = λ f. has_failed_read f past; failure = failed_flight past }

-- that of a past that awaits no reuse
abbrev pub quiet : List Flight → PastView
quiet flights = record { flights = flights; failed = λ f. false; failure = None }

-- a frame: whether it is bad, its state, page and mark, how often it stands on each list, the entries
-- that share it, the reads and writes that are open on it, and whether a read of it has just failed
pub record FrameView : Type 0 where
  pub bad : Bool
  pub state : FrameState
  pub page : Option Page
  pub modify : Bool
  pub on_free : ℕ
  pub on_modified : ℕ
  pub shares : ℕ
  pub reads : ℕ
  pub writes : ℕ
  pub failed : Bool

abbrev pub frame_view : Config → PastView → Pager → ℕ → FrameView
frame_view config o a f =
    record {
      bad = is_bad config f;
      state = a.state f;
      page = a.page f;
      modify = a.modify f;
      on_free = count_of a.free f;
      on_modified = count_of a.modified f;
      shares = shares a.valid f;
      reads = reads_on f o.flights;
      writes = writes_on f o.flights;
      failed = o.failed f;
    }

-- a process: what the configuration says of it, its status, ring and limit
pub record ProcessView : Type 0 where
  pub version : Version
  pub spec : Option ProcSpec
  pub status : ProcStatus
  pub ring : Ring
  pub limit : ℕ

abbrev pub process_view : Config → Pager → ℕ → ProcessView
process_view config a p =
    record { version = config.version; spec = slice_get config.procs p; status = a.status p; ring = a.ring p; limit = a.limit p }

-- a page table entry: the page that is mapped there, how many valid entries and how many slots there are
-- for it, how many of these are pinned, and its process's status
pub record EntryView : Type 0 where
  pub mapped : Option Page
  pub entries : ℕ
  pub slots : ℕ
  pub pins : ℕ
  pub status : ProcStatus

abbrev pub entry_view : Config → Pager → ℕ → ℕ → EntryView
entry_view config a p v =
    record { mapped = page_by config a.map p v; entries = entries_at a.valid p v; slots = slots_with (a.ring p) v; pins = pins_with (a.ring p) v; status = a.status p }

-- a page: whether it is paged, how often it is charged, touched and assigned a block, that block, the block in which it lies,
-- and of a private page what its process has there, and the section block behind it
pub record PageView : Type 0 where
  pub paged : Bool
  pub charged : ℕ
  pub touched : ℕ
  pub blocks : ℕ
  pub block : Option ℕ
  pub lies : Option BlockId
  pub mapped : Option Page
  pub behind : Option BlockId

abbrev pub page_view : Config → Pager → Page → PageView
page_view config a g =
    record {
      paged = is_paged config g;
      charged = count_page a.charged g;
      touched = count_page a.touched g;
      blocks = count_by (is_assigned_to g) a.assigned;
      block = block_of a.assigned g;
      lies = a.lies g;
      mapped = own_page config a.map g;
      behind = own_section a.map g;
    }

-- a block: the pages that it is assigned to, and the flights on it
pub record BlockView : Type 0 where
  pub owners : ℕ
  pub flights : ℕ

abbrev pub block_view : PastView → Pager → BlockId → BlockView
block_view o a b =
    record { owners = count_by (is_owner b) a.assigned; flights = count_by (is_on_block b) o.flights }
