-- The turns of which a run by threads is made. This project's own.
use Rattle.std.specs.Prelude.{◌≡◌, ◌⊎◌, ℕ, zero, suc, false, true, ◌<◌, List, [], ◌∷◌, Option, Some, None, length}
use Rattle.vm_types.specs.declared.config.Config.{Config}
use Rattle.vm_types.specs.declared.service.Request.{Request}
use Rattle.vm_types.specs.declared.service.Request.TheVariants.{Reference, Service}
use Rattle.vm_journal.specs.declared.entry.Entry.{Entry}
use Rattle.pager_model.specs.Flights.{awaits_reuse, carrier_of, is_busy, open_flights}
use Rattle.pager_model.specs.Maps.{proc}
use Rattle.pager_policy.specs.Given.{by_seat}
use Rattle.pager_policy.specs.Landings.{Outcome, all_bad, first_bad, landed_by}
use Rattle.pager_policy.specs.Policy.{swapper_of}
use Rattle.pager_policy.specs.Rundown.{writer_of}
use Rattle.pager_policy.specs.Serial.{refusal_of}
use Rattle.entry_causes.specs.NextRequest.{next_request}
use Rattle.seat_steps.specs.Steps.{IsStep}

-- all that was open for a request failed, or the first read for a reference
abbrev pub HasFailed : Request → List Outcome → Type 0
HasFailed (Reference r) outcomes = (all_bad outcomes ≡ true) ⊎ (first_bad outcomes ≡ true)
HasFailed (Service s) outcomes = all_bad outcomes ≡ true

-- so it is refused
pub record IsRefused (past landed more : List Entry) (seat : ℕ) (request : Option Request) (outcomes : List Outcome) : Type 0 where
  pub x : Request
  pub asks : request ≡ Some x
  pub some_open : carrier_of seat past ≡ [] → ⊥
  pub failed : HasFailed x outcomes
  pub is : more ≡ by_seat seat (refusal_of (record { proc = proc seat; request = x })) ∷ landed

-- one turn of a seat leads from a past to a longer one: all that is open of the seat lands, with the reuse after each failed
-- read, so that nothing is open of it and no reuse is due; then the request is refused, or one step is made
pub record HasStepped (config : Config) (past more : List Entry) (seat : ℕ) (request : Option Request) : Type 0 where
  pub outcomes : List Outcome
  pub each : length outcomes ≡ length (carrier_of seat past)
  pub landed : List Entry
  pub landed_is : landed ≡ landed_by config seat (carrier_of seat past) outcomes past
  pub idle : is_busy seat (open_flights landed) ≡ false
  pub calm : awaits_reuse landed ≡ false
  pub stepped : IsRefused past landed more seat request outcomes ⊎ IsStep config landed more seat request

-- the seat is a process's, whose next request this is; or it is the writer's or the swapper's, and works for none
abbrev pub IsDue : Config → List Entry → ℕ → Option Request → Type 0
IsDue config past seat (Some x) = (seat < length config.procs) × (next_request config past seat ≡ Some x)
IsDue config past seat None = (seat ≡ writer_of config) ⊎ (seat ≡ swapper_of config)

pub record IsTurn (config : Config) (past more : List Entry) : Type 0 where
  pub seat : ℕ
  pub request : Option Request
  pub due : IsDue config past seat request
  pub stepped : HasStepped config past more seat request

-- so many turns, one after another, lead to a past
pub record IsAfterTurn (config : Config) (Before : List Entry → Type 0) (past : List Entry) : Type 0 where
  pub earlier : List Entry
  pub before : Before earlier
  pub turn : IsTurn config earlier past

abbrev pub IsAfterTurns : Config → ℕ → List Entry → Type 0
IsAfterTurns config zero past = past ≡ []
IsAfterTurns config (suc n) past = IsAfterTurn config (IsAfterTurns config n) past

-- a past, the newest entry first, is made in such turns
pub record EachInTurn (config : Config) (past : List Entry) : Type 0 where
  pub turns : ℕ
  pub after : IsAfterTurns config turns past
