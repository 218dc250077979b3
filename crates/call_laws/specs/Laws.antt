-- The laws of the calls of the pager's logic, as statements.
use Rattle.std.specs.Prelude.{◌≡◌, ℕ, ◌+◌, ◌^◌, ◌<◌, List, [], Option, Some, None, length}
use Rattle.vm_types.specs.WellFormed.{IsServiceOf, IsWellFormedReference, IsWellFormedService}
use Rattle.vm_types.specs.declared.config.Config.{Config}
use Rattle.vm_types.specs.declared.reference.Ref.{Ref}
use Rattle.vm_types.specs.declared.service.Service.{Service}
use Rattle.vm_journal.specs.declared.entry.Entry.{Entry}
use Rattle.pager_policy.specs.Advance.{advance_gives}
use Rattle.pager_model.specs.Run.{pager_after}
use Rattle.pager_policy.specs.Serve.{serve_gives}
use Rattle.call_laws.specs.AreLegal.{AreLegal}
use Rattle.vm_types.specs.declared.names.ProcStatus.TheVariants as status
use Rattle.pager_policy.specs.Swap.{come_gives, leave_gives, victim_gives}
use Rattle.vm_journal.specs.declared.entry.What.TheVariants as what
use Rattle.pager_model.specs.Flights.{open_flights}
use Rattle.pager_policy.specs.Given.{by_seat}
use Rattle.pager_model.specs.Maps.{proc}
use Rattle.pager_policy.specs.Policy.{coming_process}
use Rattle.pager_model.specs.Step.{IsLegal}
use Rattle.pager_policy.specs.WriteCluster.{Reason, begin_gives}
use Rattle.call_laws.specs.Ready.{IsReady, MayWork}

-- all that a reference's next step makes is legal, each entry after those before it
abbrev pub AdvanceIsLegal : Type 0
AdvanceIsLegal =
    (config : Config) (past : List Entry) (p : ℕ) (r : Ref) → IsReady config past p → IsWellFormedReference r → length past + 2 < 2 ^ 63
    → AreLegal config past p (advance_gives config past (pager_after config past) p r).made

-- and so is all that a service's next step makes
abbrev pub ServeIsLegal : Type 0
ServeIsLegal =
    (config : Config) (past : List Entry) (p : ℕ) (s : Service) → IsReady config past p → IsServiceOf config.version s → IsWellFormedService s
    → AreLegal config past p (serve_gives config past (pager_after config past) p s).made

-- and all that a write cluster makes, by any seat
abbrev pub BeginIsLegal : Type 0
BeginIsLegal =
    (config : Config) (past : List Entry) (seat : ℕ) (reason : Reason) → MayWork config past seat
    → AreLegal config past seat (begin_gives config (pager_after config past) reason).made

-- all that a step of a leaving process makes, by any seat
abbrev pub LeaveIsLegal : Type 0
LeaveIsLegal =
    (config : Config) (past : List Entry) (seat p : ℕ) → MayWork config past seat → p < length config.procs → (pager_after config past).status p ≡ status.Leaving
    → AreLegal config past seat (leave_gives config past (pager_after config past) p).made

-- and all that a step of a coming process makes
abbrev pub ComeIsLegal : Type 0
ComeIsLegal =
    (config : Config) (past : List Entry) (seat p : ℕ) → MayWork config past seat → p < length config.procs → (pager_after config past).status p ≡ status.Coming
    → AreLegal config past seat (come_gives config past (pager_after config past) p).made

-- the process that is chosen to leave may be turned to leaving, by any seat
abbrev pub VictimIsTurned : Type 0
VictimIsTurned =
    (config : Config) (past : List Entry) (seat : ℕ) (but : Option ℕ) (q : ℕ) → MayWork config past seat → victim_gives config past (pager_after config past) but ≡ Some q
    → IsLegal config past (pager_after config past) (by_seat seat (what.Turn (proc q) status.Leaving))

-- a process that is gone may be turned to coming if none comes; and one that comes to leaving, when no transfer is
-- open
abbrev pub GoneIsTurned : Type 0
GoneIsTurned =
    (config : Config) (past : List Entry) (seat p : ℕ) → MayWork config past seat → p < length config.procs → (pager_after config past).status p ≡ status.Gone → coming_process config (pager_after config past) ≡ None
    → IsLegal config past (pager_after config past) (by_seat seat (what.Turn (proc p) status.Coming))

abbrev pub ComerIsTurned : Type 0
ComerIsTurned =
    (config : Config) (past : List Entry) (seat q : ℕ) → MayWork config past seat → coming_process config (pager_after config past) ≡ Some q → open_flights past ≡ []
    → IsLegal config past (pager_after config past) (by_seat seat (what.Turn (proc q) status.Leaving))
