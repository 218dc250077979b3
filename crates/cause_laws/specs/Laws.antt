-- That the calls of the pager's logic make nothing without a cause, as statements.
use Rattle.std.specs.Prelude.{◌≡◌, ◌⊎◌, ℕ, ◌≤◌, true, false, List, [], Some}
use Rattle.vm_types.specs.declared.config.Config.{Config}
use Rattle.vm_types.specs.Ring.{choose, filled}
use Rattle.vm_types.specs.declared.names.ProcStatus.TheVariants as status
use Rattle.vm_types.specs.declared.reference.Ref.{Ref}
use Rattle.vm_types.specs.declared.service.Request.TheVariants as request
use Rattle.vm_types.specs.declared.service.Service.{Service}
use Rattle.vm_journal.specs.declared.entry.Entry.{Entry}
use Rattle.pager_model.specs.Evict.{victim_of}
use Rattle.pager_model.specs.Flights.{Flight}
use Rattle.pager_model.specs.Maps.{is_private}
use Rattle.pager_model.specs.Order.{IsAnswered}
use Rattle.pager_model.specs.Pager.{Pager}
use Rattle.pager_model.specs.Run.{pager_after}
use Rattle.pager_policy.specs.Advance.{advance_gives, again_modified_full, again_no_frame, next_again}
use Rattle.pager_policy.specs.Given.{Seen, is_stopped, seen_at}
use Rattle.pager_policy.specs.Landings.{Outcome, landed_by}
use Rattle.pager_policy.specs.Serve.{serve_again, serve_gives, serve_modified_full}
use Rattle.pager_policy.specs.Swap.{come_gives, leave_gives, swap_again, swap_modified_full, swap_no_frame, victim_gives}
use Rattle.pager_policy.specs.WriteCluster.{Reason, begin_gives}
use Rattle.call_laws.specs.Ready.{IsReady, MayWork}
use Rattle.entry_causes.specs.Caused.{IsCausedThroughout}
use Rattle.entry_causes.specs.FrameWanted.{WantsFrame, WantsFrameForFault, WantsFrameToCome}
use Rattle.entry_causes.specs.HeldUp.{IsHeldUp}
use Rattle.entry_causes.specs.NextRequest.{HasRequest, next_request}
use Rattle.entry_causes.specs.TurnCause.{IsNoneLeaving, IsTurnCause}
use Rattle.entry_causes.specs.WriteCause.{AreFewFree, IsWriteCause}
use Rattle.cause_laws.specs.AreCaused.{AreCaused}

-- all that a reference's next step makes has its cause, if the reference is what the process asks for next
abbrev pub AdvanceIsCaused : Type 0
AdvanceIsCaused =
    (config : Config) (past : List Entry) (p : ℕ) (r : Ref) → IsReady config past p → next_request config past p ≡ Some (request.Reference r)
    → AreCaused config past p (advance_gives config past (pager_after config past) p r).made

-- and all that a service's next step makes, if the service is that
abbrev pub ServeIsCaused : Type 0
ServeIsCaused =
    (config : Config) (past : List Entry) (p : ℕ) (s : Service) → next_request config past p ≡ Some (request.Service s)
    → AreCaused config past p (serve_gives config past (pager_after config past) p s).made

-- all that a write cluster makes has its cause if its first write has, by any seat
abbrev pub BeginIsCaused : Type 0
BeginIsCaused =
    (config : Config) (past : List Entry) (seat : ℕ) (reason : Reason) → IsWriteCause config past (pager_after config past) seat
    → AreCaused config past seat (begin_gives config (pager_after config past) reason).made

-- and all that a step of a leaving process makes, by any seat
abbrev pub LeaveIsCaused : Type 0
LeaveIsCaused = (config : Config) (past : List Entry) (seat p : ℕ) → AreCaused config past seat (leave_gives config past (pager_after config past) p).made

-- and all that a step of a coming process makes, if it has a request
abbrev pub ComeIsCaused : Type 0
ComeIsCaused =
    (config : Config) (past : List Entry) (seat p : ℕ) → MayWork config past seat → (pager_after config past).status p ≡ status.Coming → HasRequest config past p
    → AreCaused config past seat (come_gives config past (pager_after config past) p).made

-- a reference for which there is no frame wants one, and none is free
abbrev pub NoFrameIsWanted : Type 0
NoFrameIsWanted =
    (config : Config) (past : List Entry) (p : ℕ) (r : Ref) → IsReady config past p → next_request config past p ≡ Some (request.Reference r)
    → (advance_gives config past (pager_after config past) p r).answer ≡ next_again again_no_frame → ((pager_after config past).free ≡ []) × WantsFrameForFault config past (pager_after config past) p

-- and so does a coming process for which there is none
abbrev pub NoFrameToComeIsWanted : Type 0
NoFrameToComeIsWanted =
    (config : Config) (past : List Entry) (seat p : ℕ) → MayWork config past seat → (pager_after config past).status p ≡ status.Coming → HasRequest config past p
    → (come_gives config past (pager_after config past) p).answer ≡ swap_again swap_no_frame → ((pager_after config past).free ≡ []) × WantsFrameToCome config past (pager_after config past) p

-- at its limit the victim of the process's ring is seen
abbrev pub SeesVictim : Pager → ℕ → Type 0
SeesVictim a p = a.limit p ≤ filled (a.ring p).slots → (s : Seen) × (seen_at a p (victim_of (choose (a.ring p) (a.limit p))) ≡ Some s)

-- a reference that waits for the modified list has an eviction that is held up
abbrev pub StoppedReferenceIsHeldUp : Type 0
StoppedReferenceIsHeldUp =
    (config : Config) (past : List Entry) (p : ℕ) (r : Ref) → IsReady config past p → next_request config past p ≡ Some (request.Reference r) → SeesVictim (pager_after config past) p
    → (advance_gives config past (pager_after config past) p r).answer ≡ next_again again_modified_full → IsHeldUp config past (pager_after config past)

-- so has a service that waits for it an eviction that is held up
abbrev pub StoppedServiceIsHeldUp : Type 0
StoppedServiceIsHeldUp =
    (config : Config) (past : List Entry) (p : ℕ) (s : Service) → IsReady config past p → next_request config past p ≡ Some (request.Service s)
    → (serve_gives config past (pager_after config past) p s).answer ≡ serve_again serve_modified_full → IsHeldUp config past (pager_after config past)

-- and a leaving process that waits for it
abbrev pub StoppedLeavingIsHeldUp : Type 0
StoppedLeavingIsHeldUp =
    (config : Config) (past : List Entry) (seat p : ℕ) → MayWork config past seat → (pager_after config past).status p ≡ status.Leaving
    → (leave_gives config past (pager_after config past) p).answer ≡ swap_again swap_modified_full → IsHeldUp config past (pager_after config past)

-- and the rundown at a shared page whose eviction is stopped
abbrev pub StoppedRundownIsHeldUp : Type 0
StoppedRundownIsHeldUp =
    (config : Config) (past : List Entry) (p n : ℕ) (s : Seen) → IsAnswered config past → seen_at (pager_after config past) p n ≡ Some s → is_private s.page ≡ false
    → is_stopped config past (pager_after config past) s.frame ≡ true → IsHeldUp config past (pager_after config past)

-- once a seat's flights have landed each entry has its cause, if each of the past has: also the reuse of a frame whose
-- read failed
abbrev pub LandingsAreCaused : Type 0
LandingsAreCaused =
    (config : Config) (seat : ℕ) (flights : List Flight) (outcomes : List Outcome) (past : List Entry) → IsCausedThroughout config past
    → IsCausedThroughout config (landed_by config seat flights outcomes past)

-- the process that is chosen to leave, but not this one, leaves for a cause where no page is on the modified list and no
-- process is leaving: this one wants a frame and none is free, or the swapper lacks free frames
abbrev pub VictimIsCaused : Type 0
VictimIsCaused =
    (config : Config) (past : List Entry) (seat p q : ℕ) → (pager_after config past).modified ≡ [] → IsNoneLeaving config (pager_after config past) → victim_gives config past (pager_after config past) (Some p) ≡ Some q
    → (((pager_after config past).free ≡ []) × WantsFrame config past (pager_after config past) p) ⊎ AreFewFree config (pager_after config past) seat → IsTurnCause config past (pager_after config past) seat q status.Leaving
