-- One step of a process that leaves memory or comes back, and which process leaves. Source: Kenah and
-- Bate, "VAX/VMS Internals and Data Structures", the swapper: outswap, inswap and the choice of a process
-- to swap out; the steps, their order and the choice are this project's own.
use Rattle.std.specs.Prelude.{ℕ, Bool, false, ◌+◌, ◌&&◌, ◌||◌, List, [], ◌∷◌, ◌++◌, Option, Some, None, length, find, filter, nat_eq, nat_le, nat_lt, not, if◌then◌else◌}
use Rattle.std.specs.Option.{is_some}
use Rattle.std.specs.List.{range_with_len}
use Rattle.vm_types.specs.Ring.{unpinned}
use Rattle.vm_types.specs.Adjust.{lesser}
use Rattle.vm_types.specs.declared.names.Page.{Page}
use Rattle.vm_types.specs.declared.names.FrameState.TheVariants as state
use Rattle.vm_types.specs.declared.names.BlockId.TheVariants as block
use Rattle.vm_types.specs.declared.names.ProcStatus.TheVariants as status
use Rattle.vm_types.specs.declared.config.Config.{Config}
use Rattle.vm_journal.specs.declared.entry.Entry.{Entry}
use Rattle.vm_journal.specs.declared.entry.Role.TheVariants as role
use Rattle.vm_journal.specs.declared.entry.EvictWhy.TheVariants as evict
use Rattle.vm_journal.specs.declared.entry.What.{What}
use Rattle.vm_journal.specs.declared.entry.What.TheVariants as what
use Rattle.pager_model.specs.Lying.{lies_in, lying_in}
use Rattle.pager_model.specs.Flights.{is_busy, open_flights}
use Rattle.pager_model.specs.Forget.{holder}
use Rattle.pager_policy.specs.Given.{Given, Seen, Target, address_of, eviction, given, is_stopped, leading, reads_made, seen_at, slots_of}
use Rattle.pager_model.specs.Lookups.{passes, is}
use Rattle.vm_types.specs.Status.{is_coming, is_resident}
use Rattle.pager_model.specs.Maps.{pfn, is_private, proc}
use Rattle.pager_model.specs.Pager.{Pager}
use Rattle.pager_model.specs.Spoken.{request_of}
use Rattle.pager_model.specs.Transfers.{has_come, is_in_flight}

pub data SwapWhy : Type 0 where
  swap_in_flight : SwapWhy
  swap_modified_full : SwapWhy
  swap_no_frame : SwapWhy

pub data SwapIs : Type 0 where
  swap_carry : SwapIs
  swap_more : SwapIs
  swap_settled : SwapIs
  swap_again : SwapWhy → SwapIs

abbrev pub GivenSwap : Type 0
GivenSwap = Given SwapIs

-- ---- leaving; a pinned page stays
abbrev pub is_shared_seen : Seen → Bool
is_shared_seen s = not (is_private s.page)

abbrev pub is_shared_unpinned : Seen → Bool
is_shared_unpinned s = is_shared_seen s && not s.pinned

abbrev pub is_still : List Entry → ℕ → Bool
is_still past f = not (is_in_flight f (open_flights past))

-- a private page that lies in its slot's swap block, unmodified and without a flight
abbrev pub is_saved : List Entry → Pager → ℕ → ℕ → Seen → Bool
is_saved past a p n s = (is_private s.page && not s.pinned) && (lies_in (a.lies s.page) (block.Swap (proc p) n) && (not (a.modify s.frame) && is_still past s.frame))

-- a private page without a flight
abbrev pub is_to_save : List Entry → Seen → Bool
is_to_save past s = (is_private s.page && not s.pinned) && is_still past s.frame

abbrev pub slot_where : Pager → ℕ → (ℕ → Seen → Bool) → Option ℕ
slot_where a p t = find (λ (n : ℕ). passes (t n) (seen_at a p n)) (slots_of a p)

abbrev pub leave_page : Config → List Entry → Pager → ℕ → Option Seen → GivenSwap
leave_page config past a p None = given [] (swap_again swap_in_flight)
leave_page config past a p (Some s) =
    if is_stopped config past a s.frame then given [] (swap_again swap_modified_full) else given (eviction past a p s.vpn s.frame evict.Leave ∷ []) swap_more

abbrev pub write_slot : ℕ → ℕ → Option Seen → List What
write_slot p n None = []
write_slot p n (Some s) = what.Out (pfn s.frame) (block.Swap (proc p) n) ∷ []

abbrev pub write_slots : Pager → ℕ → List ℕ → List What
write_slots a p [] = []
write_slots a p (n ∷ slots) = write_slot p n (seen_at a p n) ++ write_slots a p slots

-- the consecutive slots from this one on that pass, so many at most
abbrev pub run_from : (ℕ → Bool) → ℕ → ℕ → List ℕ
run_from t n most = leading t (range_with_len n most)

abbrev pub turned_gone : Pager → ℕ → GivenSwap
turned_gone a p =
    if nat_lt 0 (unpinned (a.ring p).slots) then given [] (swap_again swap_in_flight) else given (what.Turn (proc p) status.Gone ∷ []) swap_settled

abbrev pub leave_unsaved : Config → List Entry → Pager → ℕ → Option ℕ → GivenSwap
leave_unsaved config past a p (Some n) =
    given (write_slots a p (run_from (λ (m : ℕ). passes (is_to_save past) (seen_at a p m)) n config.params.wrtcluster)) swap_carry
leave_unsaved config past a p None = turned_gone a p

abbrev pub leave_saved : Config → List Entry → Pager → ℕ → Option ℕ → GivenSwap
leave_saved config past a p (Some n) = leave_page config past a p (seen_at a p n)
leave_saved config past a p None = leave_unsaved config past a p (slot_where a p (λ (n : ℕ) (s : Seen). is_to_save past s))

abbrev pub leave_shared : Config → List Entry → Pager → ℕ → Option ℕ → GivenSwap
leave_shared config past a p (Some n) = leave_page config past a p (seen_at a p n)
leave_shared config past a p None = leave_saved config past a p (slot_where a p (is_saved past a p))

-- first the shared pages are evicted, then the saved private ones; then those that aren't saved are written;
-- when none but pinned pages are left the process is gone
abbrev pub leave_gives : Config → List Entry → Pager → ℕ → GivenSwap
leave_gives config past a p = leave_shared config past a p (slot_where a p (λ (n : ℕ) (s : Seen). is_shared_unpinned s))

-- ---- coming
-- its frame, on the free list
abbrev pub is_free_frame : Pager → ℕ → Bool
is_free_frame a f = is state.Free (a.state f)

abbrev pub is_back_on_free : Config → Pager → Page → Bool
is_back_on_free config a g = passes (is_free_frame a) (holder config a.page g)

abbrev pub is_out_page : Config → Pager → Page → Bool
is_out_page config a g = not (is_some (holder config a.page g))

abbrev pub swap_where : Pager → ℕ → (Page → Bool) → Option ℕ
swap_where a p t = find (λ (n : ℕ). passes t (lying_in a p n)) (slots_of a p)

abbrev pub back_of : ℕ → Page → Option ℕ → List What
back_of p g None = []
back_of p g (Some f) = what.Back (proc p) (address_of g) (pfn f) state.Free ∷ []

abbrev pub back_page : Config → Pager → ℕ → Option Page → List What
back_page config a p None = []
back_page config a p (Some g) = back_of p g (holder config a.page g)

abbrev pub come_target : ℕ → ℕ → Option Page → List Target
come_target p n None = []
come_target p n (Some g) = record { block = block.Swap (proc p) n; role = role.Come (proc p) (address_of g) } ∷ []

abbrev pub come_targets : Pager → ℕ → List ℕ → List Target
come_targets a p [] = []
come_targets a p (n ∷ slots) = come_target p n (lying_in a p n) ++ come_targets a p slots

abbrev pub turned_resident : List Entry → ℕ → GivenSwap
turned_resident past p =
    if has_come p (open_flights past) then given [] (swap_again swap_in_flight) else given (what.Turn (proc p) status.Resident ∷ []) swap_settled

abbrev pub come_out : Config → List Entry → Pager → ℕ → Option ℕ → GivenSwap
come_out config past a p None = turned_resident past p
come_out config past a p (Some n) =
    if nat_eq (length a.free) 0 then given [] (swap_again swap_no_frame)
    else given (reads_made a.page a.free (come_targets a p (run_from (λ (m : ℕ). passes (is_out_page config a) (lying_in a p m)) n (lesser config.params.pfc (length a.free))))) swap_carry

abbrev pub come_free : Config → List Entry → Pager → ℕ → Option ℕ → GivenSwap
come_free config past a p (Some n) = given (back_page config a p (lying_in a p n)) swap_more
come_free config past a p None = come_out config past a p (swap_where a p (is_out_page config a))

-- first the pages that are on the free list come back, then those that are out are read; when none lies in a
-- swap block the process is resident
abbrev pub come_gives : Config → List Entry → Pager → ℕ → GivenSwap
come_gives config past a p = come_free config past a p (swap_where a p (is_back_on_free config a))

-- ---- who leaves
-- the number of the seat's last spoken entry, or 0
abbrev pub last_spoken : ℕ → List Entry → ℕ
last_spoken seat [] = 0
last_spoken seat (e ∷ past) = if nat_eq (e.seat).0 seat && is_some (request_of e.what) then length past + 1 else last_spoken seat past

abbrev pub is_but : Option ℕ → ℕ → Bool
is_but None q = false
is_but (Some p) q = nat_eq p q

-- whether the process may turn to leaving
abbrev pub may_leave : List Entry → Pager → ℕ → Bool
may_leave past a q =
    (is_resident (a.status q) || is_coming (a.status q)) && (not (is_busy q (open_flights past)) && not (has_come q (open_flights past)))

abbrev pub earlier : (ℕ → ℕ) → ℕ → Option ℕ → Option ℕ
earlier key x None = Some x
earlier key x (Some y) = if nat_le (key x) (key y) then Some x else Some y

-- the first of those with the least key
abbrev pub earliest : (ℕ → ℕ) → List ℕ → Option ℕ
earliest key [] = None
earliest key (x ∷ xs) = earlier key x (earliest key xs)

abbrev pub or_else : Option ℕ → Option ℕ → Option ℕ
or_else None other = other
or_else (Some x) other = Some x

abbrev pub processes_where : Config → (ℕ → Bool) → List ℕ
processes_where config t = filter t (range_with_len 0 (length config.procs))

-- of the processes that may leave, but this one: the resident one that has spoken least recently, the
-- lowest of several that haven't, or else the coming one
abbrev pub victim_gives : Config → List Entry → Pager → Option ℕ → Option ℕ
victim_gives config past a but =
    or_else (earliest (λ (q : ℕ). last_spoken q past) (processes_where config (λ (q : ℕ). not (is_but but q) && (may_leave past a q && is_resident (a.status q)))))
    (find (λ (q : ℕ). not (is_but but q) && (may_leave past a q && is_coming (a.status q))) (range_with_len 0 (length config.procs)))
