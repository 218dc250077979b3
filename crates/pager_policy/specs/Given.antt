-- What a call of the pager's logic gives: the entries that it makes, in order, and its answer. This
-- project's own.
use Rattle.std.specs.Prelude.{ℕ, Bool, ◌+◌, ◌*◌, ◌&&◌, List, [], ◌∷◌, Option, Some, None, length, slice_get, nat_le, if◌then◌else◌}
use Rattle.std.specs.List.{range_with_len}
use Rattle.vm_types.specs.declared.limits.TheConstants.{PAGE_BYTES}
use Rattle.vm_types.specs.Ring.{Held}
use Rattle.vm_types.specs.declared.names.Addr.{Addr}
use Rattle.vm_types.specs.declared.names.Page.{Page}
use Rattle.vm_types.specs.declared.names.Page.TheVariants.{Private, Shared}
use Rattle.vm_types.specs.declared.names.FrameState.{FrameState}
use Rattle.vm_types.specs.declared.names.FrameState.TheVariants as state
use Rattle.vm_types.specs.declared.names.BlockId.{BlockId}
use Rattle.vm_types.specs.declared.config.Config.{Config}
use Rattle.vm_journal.specs.declared.entry.Entry.{Entry}
use Rattle.vm_journal.specs.declared.entry.Role.{Role}
use Rattle.vm_journal.specs.declared.entry.EvictWhy.{EvictWhy}
use Rattle.vm_journal.specs.declared.entry.What.{What}
use Rattle.vm_journal.specs.declared.entry.What.TheVariants as what
use Rattle.vm_types.specs.declared.reply.Reply.{Reply}
use Rattle.vm_types.specs.declared.reply.Reply.TheVariants as reply
use Rattle.pager_model.specs.Evict.{evicted_to}
use Rattle.pager_model.specs.Flights.{open_flights}
use Rattle.pager_model.specs.Lookups.{entry_of, is, shares, slot_of}
use Rattle.pager_model.specs.Maps.{proc, pfn}
use Rattle.pager_model.specs.Pager.{Pager, Valid}
use Rattle.pager_model.specs.Transfers.{reads_on, writes_on}

pub record Given (X : Type 0) : Type 0 where
  pub made : List What
  pub answer : X

abbrev pub given : {X : Type 0} → List What → X → Given X
given made answer = record { made = made; answer = answer }

abbrev pub by_seat : ℕ → What → Entry
by_seat seat w = record { seat = record { 0 = seat }; what = w }

-- the reply that a DONE shows is left open where entries are given: it stands here as written
abbrev pub unsaid : Reply
unsaid = reply.Written

-- the entries with this reply in place of the open one
abbrev pub with_reply : Reply → What → What
with_reply shown (what.Done r open_reply) = what.Done r shown
with_reply shown other = other

-- the past after a seat has made these entries
abbrev pub made_by : ℕ → List What → List Entry → List Entry
made_by seat [] past = past
made_by seat (w ∷ ws) past = made_by seat ws (by_seat seat w ∷ past)

-- the first address of a page
abbrev pub page_address : ℕ → Addr
page_address v = record { 0 = PAGE_BYTES * v }

abbrev pub address_of : Page → Addr
address_of (Private p v) = page_address v
address_of (Shared s i) = page_address 0

-- a frame gives up the page that it holds before it is used
abbrev pub reuse_first : Option Page → ℕ → List What → List What
reuse_first None f ws = ws
reuse_first (Some g) f ws = what.Reuse (pfn f) g ∷ ws

-- a read to begin
pub record Target : Type 0 where
  pub block : BlockId
  pub role : Role

-- the reads of a cluster, into the frames of the free list from its head on
abbrev pub reads_made : (ℕ → Option Page) → List ℕ → List Target → List What
reads_made page [] targets = []
reads_made page (f ∷ frames) [] = []
reads_made page (f ∷ frames) (t ∷ targets) = reuse_first (page f) f (what.In (pfn f) t.block t.role ∷ reads_made page frames targets)

-- the items from the front on that pass
abbrev pub leading : {X : Type 0} → (X → Bool) → List X → List X
leading t [] = []
leading t (x ∷ xs) = if t x then (x ∷ leading t xs) else []

-- where a frame goes that loses one of its entries now
abbrev pub goes_to : List Entry → Pager → ℕ → FrameState
goes_to past a f = evicted_to (shares a.valid f) (reads_on f (open_flights past) + writes_on f (open_flights past)) (a.modify f)

-- an eviction that would add to a modified list that is at the wait limit is stopped
abbrev pub is_stopped : Config → List Entry → Pager → ℕ → Bool
is_stopped config past a f = is state.Modified (goes_to past a f) && nat_le config.params.waitlimit (length a.modified)

-- the eviction of a process's page from this frame
abbrev pub eviction : List Entry → Pager → ℕ → ℕ → ℕ → EvictWhy → What
eviction past a p v f why = what.Evict (proc p) (page_address v) (pfn f) why (goes_to past a f)

-- what stands in a slot: the page number, and by its valid entry the frame and the page
pub record Seen : Type 0 where
  pub vpn : ℕ
  pub frame : ℕ
  pub page : Page
  pub pinned : Bool

abbrev pub seen_page : Held → ℕ → Option Page → Option Seen
seen_page held f None = None
seen_page held f (Some g) = Some (record { vpn = held.vpn; frame = f; page = g; pinned = held.pinned })

abbrev pub seen_by : Pager → Held → Option Valid → Option Seen
seen_by a held None = None
seen_by a held (Some e) = seen_page held e.frame (a.page e.frame)

abbrev pub seen_in : Pager → ℕ → Option Held → Option Seen
seen_in a p None = None
seen_in a p (Some held) = seen_by a held (entry_of a.valid p held.vpn)

-- of process p, in slot n
abbrev pub seen_at : Pager → ℕ → ℕ → Option Seen
seen_at a p n = seen_in a p (slot_of (slice_get (a.ring p).slots n))

-- the numbers of a process's slots
abbrev pub slots_of : Pager → ℕ → List ℕ
slots_of a p = range_with_len 0 (length (a.ring p).slots)
