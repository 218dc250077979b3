-- One reference's next step: which entries are made and what is answered, by the first case that applies.
-- Source: Kenah and Bate, "VAX/VMS Internals and Data Structures", paging dynamics (the page fault
-- handler); the order of the cases is this project's own.
use Rattle.std.specs.Prelude.{ℕ, Bool, true, false, ◌+◌, ◌-◌, ◌&&◌, List, [], ◌∷◌, ◌++◌, Option, Some, None, length, map, find, count_by, slice_get, nat_eq, nat_le, nat_lt, not, if◌then◌else◌}
use Rattle.std.specs.Option.{option_map, is_some}
use Rattle.std.specs.List.{range_with_len}
use Rattle.vm_types.specs.Ring.{choose, filled}
use Rattle.vm_types.specs.Adjust.{adjust}
use Rattle.vm_types.specs.Configuration.{section_pages}
use Rattle.vm_types.specs.declared.names.Page.{Page}
use Rattle.vm_types.specs.declared.names.SecId.{SecId}
use Rattle.vm_types.specs.declared.names.Page.TheVariants.{Shared}
use Rattle.vm_types.specs.declared.names.BlockId.{BlockId}
use Rattle.vm_types.specs.declared.names.BlockId.TheVariants as block
use Rattle.vm_types.specs.declared.config.Config.{Config}
use Rattle.vm_types.specs.declared.config.ProcSpec.{ProcSpec}
use Rattle.vm_types.specs.declared.config.Section.{Section}
use Rattle.vm_types.specs.declared.reference.Ref.{Ref}
use Rattle.vm_types.specs.declared.reply.Why.{Why}
use Rattle.vm_journal.specs.declared.entry.Entry.{Entry}
use Rattle.vm_journal.specs.declared.entry.Role.TheVariants as role
use Rattle.vm_journal.specs.declared.entry.EvictWhy.TheVariants as evict
use Rattle.vm_journal.specs.declared.entry.What.TheVariants as what
use Rattle.pager_policy.specs.Given.{unsaid, Given, Seen, Target, eviction, given, is_stopped, page_address, reads_made, reuse_first, seen_at}
use Rattle.pager_model.specs.ClusterLength.{cluster_length}
use Rattle.pager_model.specs.Evict.{victim_of}
use Rattle.pager_model.specs.Flat.{flat_refusal}
use Rattle.pager_model.specs.Flights.{Flight, open_flights}
use Rattle.pager_model.specs.Forget.{holder}
use Rattle.pager_model.specs.Maps.{pfn, Mapped, page_number, proc}
use Rattle.pager_model.specs.In.{is_kin}
use Rattle.pager_model.specs.Lookups.{entry_of, is_owner, is_pending, page_by}
use Rattle.vm_types.specs.Status.{is_resident}
use Rattle.pager_model.specs.Pager.{Assigned, Pager, Valid}
use Rattle.pager_model.specs.Spoken.{flat_after}
use Rattle.pager_model.specs.Transfers.{is_on_block, is_read_on}
use Rattle.pager_model.specs.Charging.{first_source, is_uncharged}
use Rattle.pager_model.specs.Lying.{lies_in}

pub data AgainWhy : Type 0 where
  again_not_resident : AgainWhy
  again_collided : AgainWhy
  again_block_busy : AgainWhy
  again_charging : AgainWhy
  again_modified_full : AgainWhy
  again_no_frame : AgainWhy

pub data NextIs : Type 0 where
  next_answered : NextIs
  next_carry : NextIs
  next_more : NextIs
  next_again : AgainWhy → NextIs

abbrev pub GivenNext : Type 0
GivenNext = Given NextIs

abbrev pub gives_again : AgainWhy → GivenNext
gives_again reason = given [] (next_again reason)

-- a pending adjustment
abbrev pub limit_given : Config → Pager → ℕ → Option ProcSpec → GivenNext
limit_given config a p None = gives_again again_not_resident
limit_given config a p (Some spec) = given (what.Limit (adjust config.params spec (a.faults p) (a.limit p) (length a.free)) (a.faults p) ∷ []) next_more

-- the page's frame is read by another seat: the read is named once, and then waited for
abbrev pub is_named : Option ℕ → ℕ → Bool
is_named None k = false
is_named (Some j) k = nat_eq j k

abbrev pub collide_given : Pager → ℕ → Ref → ℕ → Flight → GivenNext
collide_given a p r f x =
    if is_named (a.collided p) x.start then gives_again again_collided
    else given (what.Collide (page_address (page_number (r.addr).0)) (pfn f) x.start ∷ []) next_more

-- at the limit the ring's victim is replaced, unless the modified list is full
abbrev pub replace_seen : Config → List Entry → Pager → ℕ → Option Seen → GivenNext
replace_seen config past a p None = gives_again again_modified_full
replace_seen config past a p (Some s) =
    if is_stopped config past a s.frame then gives_again again_modified_full
    else given (eviction past a p s.vpn s.frame evict.Replace ∷ []) next_more

abbrev pub replace_given : Config → List Entry → Pager → ℕ → GivenNext
replace_given config past a p = replace_seen config past a p (seen_at a p (victim_of (choose (a.ring p) (a.limit p))))

-- the block from which the page is read: that of its section before a private page is charged, else the one
-- in which it lies
abbrev pub source_of : Config → Pager → Page → Option Mapped → Option BlockId
source_of config a g m = if is_uncharged config a g then first_source g m else a.lies g

-- the page that may follow so many places after the faulting one: the section's, or the owner of that block
-- where it lies there and is of the same process, or of the same section
abbrev pub owner_of : List Assigned → ℕ → Option Page
owner_of assigned n = option_map (λ (x : Assigned). x.page) (find (is_owner (block.PageFile n)) assigned)

abbrev pub following_owner : Pager → Page → ℕ → Option Page → Option Page
following_owner a g n None = None
following_owner a g n (Some h) = if is_kin g h && lies_in (a.lies h) (block.PageFile n) then Some h else None

abbrev pub following_shared : Option Section → SecId → ℕ → Option Page
following_shared None s i = None
following_shared (Some section) s i = if nat_lt i (section_pages section) then Some (Shared s i) else None

abbrev pub following : Config → Pager → Page → BlockId → ℕ → Option Page
following config a g (block.PageFile n) places = following_owner a g (n + places) (owner_of a.assigned (n + places))
following config a (Shared s i) (block.Section t j) places = following_shared (slice_get config.sections s.0) s (i + places)
following config a g other places = None

abbrev pub is_out : Config → Pager → Option Page → Bool
is_out config a None = false
is_out config a (Some g) = not (is_some (holder config a.page g))

-- the places from the faulting page on, as far as a cluster may reach, and which of them are out; the first
-- read of a copy on reference page is made by itself
abbrev pub window : Config → Pager → Page → BlockId → List Bool
window config a g b =
    if is_uncharged config a g then (true ∷ []) else (true ∷ map (λ (places : ℕ). is_out config a (following config a g b places)) (range_with_len 1 (config.params.pfc - 1)))

abbrev pub block_after : BlockId → ℕ → BlockId
block_after (block.PageFile n) places = block.PageFile (n + places)
block_after (block.Section s i) places = block.Section s (i + places)
block_after (block.Swap p n) places = block.Swap p (n + places)

abbrev pub near_target : BlockId → Option Page → List Target
near_target b None = []
near_target b (Some g) = record { block = b; role = role.Near g } ∷ []

abbrev pub near_targets : Config → Pager → Page → BlockId → List ℕ → List Target
near_targets config a g b [] = []
near_targets config a g b (places ∷ more) = near_target (block_after b places) (following config a g b places) ++ near_targets config a g b more

-- the page and its neighbours, as many as a cluster may have
abbrev pub cluster_targets : Config → Pager → ℕ → Ref → Page → BlockId → List Target
cluster_targets config a p r g b =
    record { block = b; role = role.Fault (proc p) (page_address (page_number (r.addr).0)) }
    ∷ near_targets config a g b (range_with_len 1 (cluster_length (window config a g b) config.params.pfc (length a.free) - 1))

-- a page that is out is read, or made of zeros
abbrev pub frame_given : Config → Pager → ℕ → Ref → Page → Option BlockId → List ℕ → GivenNext
frame_given config a p r g o [] = gives_again again_no_frame
frame_given config a p r g None (f ∷ free) = given (reuse_first (a.page f) f (what.Zero (page_address (page_number (r.addr).0)) (pfn f) ∷ what.Done r unsaid ∷ [])) next_answered
frame_given config a p r g (Some b) (f ∷ free) = given (reads_made a.page (f ∷ free) (cluster_targets config a p r g b)) next_carry

abbrev pub is_busy_block : List Entry → Option BlockId → Bool
is_busy_block past None = false
is_busy_block past (Some b) = nat_lt 0 (count_by (is_on_block b) (open_flights past))

abbrev pub out_given : Config → List Entry → Pager → ℕ → Ref → Page → Option BlockId → GivenNext
out_given config past a p r g o =
    if is_busy_block past o then gives_again again_block_busy else frame_given config a p r g o a.free

-- a page that is in a frame comes back; another one is fetched
abbrev pub held_given : Config → List Entry → Pager → ℕ → Ref → Page → Option ℕ → GivenNext
held_given config past a p r g (Some f) =
    given (what.Back (proc p) (page_address (page_number (r.addr).0)) (pfn f) (a.state f) ∷ what.Done r unsaid ∷ []) next_answered
held_given config past a p r g None = out_given config past a p r g (source_of config a g (a.map p (page_number (r.addr).0)))

-- the page file's charge comes before the working set's limit, and both before the page
abbrev pub room_given : Config → List Entry → Pager → ℕ → Ref → Page → GivenNext
room_given config past a p r g =
    if is_uncharged config a g && nat_eq (length a.charged) config.pagefile then gives_again again_charging
    else (if nat_le (a.limit p) (filled (a.ring p).slots) then replace_given config past a p
    else held_given config past a p r g (holder config a.page g))

abbrev pub read_given : Config → List Entry → Pager → ℕ → Ref → Page → ℕ → Option Flight → GivenNext
read_given config past a p r g f None = room_given config past a p r g
read_given config past a p r g f (Some x) =
    if nat_eq x.seat p then room_given config past a p r g else collide_given a p r f x

abbrev pub fault_given : Config → List Entry → Pager → ℕ → Ref → Page → Option ℕ → GivenNext
fault_given config past a p r g None = room_given config past a p r g
fault_given config past a p r g (Some f) = read_given config past a p r g f (find (is_read_on f) (open_flights past))

abbrev pub mapped_given : Config → List Entry → Pager → ℕ → Ref → Option Page → GivenNext
mapped_given config past a p r None = gives_again again_not_resident
mapped_given config past a p r (Some g) = fault_given config past a p r g (holder config a.page g)

-- a valid entry answers
abbrev pub entry_given : Config → List Entry → Pager → ℕ → Ref → Option Valid → GivenNext
entry_given config past a p r (Some e) = given (what.Done r unsaid ∷ []) next_answered
entry_given config past a p r None = mapped_given config past a p r (page_by config a.map p (page_number (r.addr).0))

-- what the flat machine refuses is denied
abbrev pub refused_given : Config → List Entry → Pager → ℕ → Ref → Option Why → GivenNext
refused_given config past a p r (Some reason) = given (what.Denied r reason ∷ []) next_answered
refused_given config past a p r None = entry_given config past a p r (entry_of a.valid p (page_number (r.addr).0))

-- what is made for a reference of process p by its own seat: a process
-- that isn't resident, then a pending adjustment, then the refusals, then the page
abbrev pub advance_gives : Config → List Entry → Pager → ℕ → Ref → GivenNext
advance_gives config past a p r =
    if not (is_resident (a.status p)) then gives_again again_not_resident
    else (if is_pending config (a.references p) then limit_given config a p (slice_get config.procs p)
    else refused_given config past a p r (flat_refusal config (flat_after config past) p r))
