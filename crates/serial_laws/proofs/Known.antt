-- What is known of each move of the table: the form from which the laws follow.
use Rattle.std.proofs.Common.{◌≡◌, ◌⊎◌, ℕ, ◌*◌, ◌<◌, Bool, true, false, List, ◌∷◌, [], Some, length, map}
use Rattle.std.specs.List.{AllByRecursion}
use Rattle.vm_types.specs.declared.limits.TheConstants.{PAGE_BYTES}
use Rattle.vm_types.specs.declared.names.Addr.{Addr}
use Rattle.vm_types.specs.declared.names.Proc.{Proc}
use Rattle.vm_types.specs.declared.names.ProcStatus.{ProcStatus}
use Rattle.vm_types.specs.declared.config.Config.{Config}
use Rattle.vm_types.specs.declared.config.Task.{Task}
use Rattle.vm_types.specs.declared.reference.Ref.{Ref}
use Rattle.vm_types.specs.declared.reply.Reply.{Reply}
use Rattle.vm_types.specs.declared.service.Request.TheVariants as request
use Rattle.vm_journal.specs.declared.entry.Entry.{Entry}
use Rattle.vm_journal.specs.declared.entry.Role.TheVariants as role
use Rattle.vm_journal.specs.declared.entry.What.{What}
use Rattle.vm_journal.specs.declared.entry.What.TheVariants as what
use Rattle.pager_model.specs.Carrier.{begins_with_fault}
use Rattle.pager_model.specs.Flights.{Flight, reading, carrier_of}
use Rattle.pager_policy.specs.Given.{by_seat, made_by, with_reply}
use Rattle.pager_policy.specs.Landings.{Outcome, all_bad, first_bad, landed_by}
use Rattle.pager_model.specs.Maps.{page_number}
use Rattle.pager_policy.specs.Moves.{After, Control, Move, carries, goes, makes, refuses, rests}
use Rattle.pager_policy.specs.Policy.{next_task}
use Rattle.pager_model.specs.Run.{pager_after}
use Rattle.pager_model.specs.Step.{IsLegal}
use Rattle.serial_laws.specs.Lost.{CarriesAll}
use Rattle.serial_laws.specs.Controlled.{AreTouched, IsControlled, MayBeRefused}

-- entries that begin and land no flight
abbrev pub is_still_entry : What → Bool
is_still_entry (what.In f b r) = false
is_still_entry (what.InOk f k) = false
is_still_entry (what.InFail f k c d) = false
is_still_entry (what.Out f b) = false
is_still_entry (what.OutOk f k) = false
is_still_entry (what.OutFail f k c d) = false
is_still_entry other = true

-- entries that are made: there are some, they begin no flight, a turn alone is legal, and the policy goes on where it fits
pub record IsKnownMake (config : Config) (past : List Entry) (seat : ℕ) (ws : List What) (next : Control) : Type 0 where
  pub some : 0 < length ws
  pub still : AllByRecursion (λ (w : What). is_still_entry w ≡ true) ws
  pub turned : (q : Proc) (s : ProcStatus) → ws ≡ what.Turn q s ∷ [] → IsLegal config past (pager_after config past) (by_seat seat (what.Turn q s))
  pub controlled : (reply : Reply) → IsControlled config (made_by seat (map (with_reply reply) ws) past) next

-- the seat works for the next request, which may be refused for a lost carrier
pub record MayRefuse (config : Config) (past : List Entry) (seat : ℕ) : Type 0 where
  pub task : Task
  pub next : next_task config past ≡ Some task
  pub own : seat ≡ (task.proc).0
  pub waits : MayBeRefused config (pager_after config past) task
  pub touched : AreTouched (pager_after config past)

-- what a seat carries
pub record IsCarrying (past : List Entry) (seat : ℕ) : Type 0 where
  pub first : Flight
  pub more : List Flight
  pub carries : CarriesAll past seat first more
  pub carrier : carrier_of seat past ≡ first ∷ more

-- a carrier's failure refuses the request
pub record IsRefusal (config : Config) (landed : List Entry) (seat : ℕ) (first : Flight) (outcomes : List Outcome) : Type 0 where
  pub may : MayRefuse config landed seat
  pub failed : (all_bad outcomes ≡ true) ⊎ ((begins_with_fault (Some first) ≡ true) × (first_bad outcomes ≡ true))
  pub named : (r : Ref) (q : Proc) (at : Addr) → may.task.request ≡ request.Reference r → first.direction ≡ reading (role.Fault q at) → at.0 ≡ page_number (r.addr).0 * PAGE_BYTES

abbrev pub landed_from : Config → List Entry → ℕ → List Outcome → List Entry
landed_from config begun seat outcomes = landed_by config seat (carrier_of seat begun) outcomes begun

-- entries that begin flights: there are some, and once these have landed the policy goes on where it fits, or
-- the request may be refused
pub record IsKnownCarry (config : Config) (past : List Entry) (seat : ℕ) (ws : List What) (onward : Bool → Bool → After) : Type 0 where
  pub some : 0 < length ws
  pub carrying : IsCarrying (made_by seat ws past) seat
  pub goes_on : (outcomes : List Outcome) (c : Control) → onward (all_bad outcomes) (first_bad outcomes) ≡ goes c → length outcomes ≡ length (carrier_of seat (made_by seat ws past)) → IsControlled config (landed_from config (made_by seat ws past) seat outcomes) c
  pub refused : (outcomes : List Outcome) → onward (all_bad outcomes) (first_bad outcomes) ≡ refuses → length outcomes ≡ length (carrier_of seat (made_by seat ws past)) → IsRefusal config (landed_from config (made_by seat ws past) seat outcomes) seat carrying.first outcomes

-- by the kind of move; and what is known where there is none
abbrev pub Known : Config → List Entry → Type 0 → Move → Type 0
Known config past Rest (makes seat ws next) = IsKnownMake config past seat ws next
Known config past Rest (carries seat ws onward) = IsKnownCarry config past seat ws onward
Known config past Rest rests = Rest

pub record MoveIsKnown (config : Config) (past : List Entry) (Rest : Type 0) (m : Move) : Type 0 where
  pub known : Known config past Rest m
