-- The words of the tables' conditions, each said once. This project's own.
use Rattle.std.specs.Prelude.{ℕ, Bool, true, false, ◌+◌, ◌&&◌, List, Option, Some, None, length, map, find, slice_get, nat_eq, nat_le, not}
use Rattle.vm_types.specs.Ring.{choose, filled}
use Rattle.vm_types.specs.declared.config.Config.{Config}
use Rattle.vm_types.specs.declared.config.ProcSpec.{ProcSpec}
use Rattle.vm_types.specs.declared.names.Page.{Page}
use Rattle.vm_types.specs.declared.names.ProcStatus.{ProcStatus}
use Rattle.vm_types.specs.declared.names.ProcStatus.TheVariants as status
use Rattle.vm_types.specs.declared.reference.Ref.{Ref}
use Rattle.vm_types.specs.declared.reply.Reply.{Reply}
use Rattle.vm_types.specs.declared.service.Request.{Request}
use Rattle.vm_types.specs.declared.service.Request.TheVariants as request
use Rattle.vm_types.specs.declared.service.Service.{Service}
use Rattle.vm_journal.specs.declared.entry.Entry.{Entry}
use Rattle.vm_journal.specs.declared.entry.What.{What}
use Rattle.pager_model.specs.Charging.{is_uncharged}
use Rattle.pager_model.specs.Evict.{victim_of}
use Rattle.pager_model.specs.Flights.{Flight, open_flights}
use Rattle.pager_model.specs.Forget.{holder}
use Rattle.pager_model.specs.Lookups.{is_pending}
use Rattle.pager_model.specs.Lying.{lying_in}
use Rattle.pager_model.specs.Pager.{Pager}
use Rattle.pager_model.specs.Transfers.{is_read_on}
use Rattle.pager_policy.specs.Given.{Given, Seen, given, is_stopped, seen_at, with_reply}
use Rattle.pager_policy.specs.Moves.{Move, carries, makes, rests}
use Rattle.pager_policy.specs.Rundown.{Place, shared_place}
use Rattle.pager_policy.specs.WriteCluster.{writes_from}
use Rattle.policy_tables.specs.Rows.{only_if, that_is}

-- what a call of the policy gives, with this reply where its answer shows one
abbrev pub shown : {X : Type 0} → Reply → Given X → Given X
shown reply g = given (map (with_reply reply) g.made) g.answer

-- a move with this reply where an answer shows one
abbrev pub told : Reply → Move → Move
told reply (makes seat ws c) = makes seat (map (with_reply reply) ws) c
told reply (carries seat ws onward) = carries seat (map (with_reply reply) ws) onward
told reply rests = rests

abbrev pub is_gone : ProcStatus → Bool
is_gone status.Gone = true
is_gone other = false

abbrev pub reference_of : Request → Option Ref
reference_of (request.Reference r) = Some r
reference_of (request.Service s) = None

abbrev pub service_of : Request → Option Service
service_of (request.Reference r) = None
service_of (request.Service s) = Some s

-- the process's specification, if an adjustment of its limit is pending
abbrev pub pending_limit : Config → Pager → ℕ → Option ProcSpec
pending_limit config a p = only_if (is_pending config (a.references p)) (slice_get config.procs p)

-- a frame with the read that is open on it
pub record OpenRead : Type 0 where
  pub frame : ℕ
  pub flight : Flight

abbrev pub open_read : ℕ → Option Flight → Option OpenRead
open_read f None = None
open_read f (Some x) = Some (record { frame = f; flight = x })

abbrev pub read_of : List Entry → Option ℕ → Option OpenRead
read_of past None = None
read_of past (Some f) = open_read f (find (is_read_on f) (open_flights past))

-- the read on this frame by another seat
abbrev pub foreign_read : List Entry → ℕ → Option ℕ → Option OpenRead
foreign_read past p frame = that_is (λ (met : OpenRead). not (nat_eq (met.flight).seat p)) (read_of past frame)

-- the page is paged and not charged, and as many pages are charged as the page file has blocks
abbrev pub is_page_file_charged : Config → Pager → Page → Bool
is_page_file_charged config a g = is_uncharged config a g && nat_eq (length a.charged) config.pagefile

-- as many slots are filled as the limit, or more
abbrev pub is_at_limit : Pager → ℕ → Bool
is_at_limit a p = nat_le (a.limit p) (filled (a.ring p).slots)

-- what stands in the slot that a ring at its limit gives up next; if all its pages were locked or pinned, which is so
-- in no run, it would be slot 0, as in pager_policy
abbrev pub victim : Pager → ℕ → Option Seen
victim a p = seen_at a p (victim_of (choose (a.ring p) (a.limit p)))

-- the eviction of this page isn't stopped: only one that would add to a modified list of WAITLIMIT frames or more is
abbrev pub may_go : Config → List Entry → Pager → Seen → Bool
may_go config past a s = not (is_stopped config past a s.frame)

-- what stands in this slot of the process's ring
abbrev pub seen_in_slot : Pager → ℕ → Option ℕ → Option Seen
seen_in_slot a p None = None
seen_in_slot a p (Some n) = seen_at a p n

-- a page with the frame that holds it
pub record HeldPage : Type 0 where
  pub page : Page
  pub frame : ℕ

abbrev pub held_by : Page → Option ℕ → Option HeldPage
held_by g None = None
held_by g (Some f) = Some (record { page = g; frame = f })

abbrev pub held_page : Config → Pager → Option Page → Option HeldPage
held_page config a None = None
held_page config a (Some g) = held_by g (holder config a.page g)

-- the page that lies in this swap block of the process, with its frame
abbrev pub held_in_slot : Config → Pager → ℕ → Option ℕ → Option HeldPage
held_in_slot config a p None = None
held_in_slot config a p (Some n) = held_page config a (lying_in a p n)

-- the writes of a cluster: the list's frames from the first on, as long as their pages' blocks adjoin, at most
-- WRTCLUSTER
abbrev pub cluster : Config → Pager → List What
cluster config a = writes_from config a config.params.wrtcluster None a.modified

-- a shared page in a slot of a process
pub record SharedPage : Type 0 where
  pub place : Place
  pub seen : Seen

abbrev pub shared_seen : Place → Option Seen → Option SharedPage
shared_seen at None = None
shared_seen at (Some s) = Some (record { place = at; seen = s })

-- the one at this place, and the next one in a slot behind it
abbrev pub shared_at : Pager → Option Place → Option SharedPage
shared_at a None = None
shared_at a (Some at) = shared_seen at (seen_at a at.process at.slot)

abbrev pub shared_behind : Config → Pager → Option SharedPage → Option SharedPage
shared_behind config a None = None
shared_behind config a (Some g) = shared_at a (shared_place config a (g.place).process ((g.place).slot + 1))
