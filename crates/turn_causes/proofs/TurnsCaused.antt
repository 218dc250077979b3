-- What is made in turns of seats has its cause.
use Rattle.std.proofs.Common.{◌≡◌, ◌⊎◌, inl, inr, ℕ, zero, suc, ◌+◌, ◌<◌, ◌≤◌, ◌^◌, List, [], ◌∷◌, Option, Some, None, length, slice_get, sym, ap, ◌∙◌, subst, arith}
use Rattle.vm_types.specs.Configuration.{IsWellFormed}
use Rattle.vm_types.specs.declared.config.Config.{Config}
use Rattle.vm_types.specs.declared.service.Request.{Request}
use Rattle.vm_types.specs.declared.service.Request.TheVariants as request
use Rattle.vm_journal.specs.declared.entry.Entry.{Entry}
use Rattle.vm_journal.specs.declared.entry.What.{What}
use Rattle.pager_model.specs.Flights.{Flight, carrier_of}
use Rattle.pager_model.specs.Maps.{proc}
use Rattle.pager_model.specs.Order.{requests_of}
use Rattle.pager_model.specs.Run.{IsRun, pager_after}
use Rattle.pager_policy.specs.Given.{by_seat, made_by}
use Rattle.pager_policy.specs.Landings.{Outcome, landed_by, landing}
use Rattle.pager_policy.specs.Serial.{refusal_of}
use Rattle.call_laws.proofs.Said.{landed_silent}
use Rattle.entry_causes.specs.Caused.{IsCausedThroughout}
use Rattle.cause_laws.proofs.Landed.{landed_caused}
use Rattle.serial_causes.proofs.Entries.{run_landed, run_made}
use Rattle.seat_steps.specs.Steps.{IsStep, step_gives}
use Rattle.seat_steps.specs.Turns.{EachInTurn, HasStepped, IsAfterTurns, IsDue, IsRefused, IsTurn}
use Rattle.turn_causes.proofs.StepsCaused.{step_caused}

-- ---- the past grows
length_made : (seat : ℕ) (ws : List What) (past : List Entry) → length (made_by seat ws past) ≡ length past + length ws
length_made seat [] past = omega arith
length_made seat (w ∷ ws) past = omega (arith, length_made seat ws (by_seat seat w ∷ past))

longer_landed : (config : Config) (seat : ℕ) (flights : List Flight) (outcomes : List Outcome) (past : List Entry) → length past ≤ length (landed_by config seat flights outcomes past)
longer_landed config seat [] outcomes past = omega arith
longer_landed config seat (x ∷ flights) [] past = omega arith
longer_landed config seat (x ∷ flights) (o ∷ outcomes) past =
    let ws = landing past (pager_after config past).page x x.direction o in
    let first = length_made seat ws past in
    let rest = longer_landed config seat flights outcomes (made_by seat ws past) in
    omega (arith, first, rest)

-- ---- a landing answers nothing, so the same request is next
due_landed : (config : Config) (past : List Entry) (seat : ℕ) (outcomes : List Outcome) (o : Option Request) → IsDue config past seat o → IsDue config (landed_by config seat (carrier_of seat past) outcomes past) seat o
due_landed config past seat outcomes None due = due
due_landed config past seat outcomes (Some x) due =
    (due.0, ap (λ (xs : List Request). slice_get (requests_of seat config.body) (length xs)) ((landed_silent config seat (carrier_of seat past) outcomes past).answers seat) ∙ due.1)

-- ---- a refusal has the request that it answers
refusal_caused : (config : Config) (past : List Entry) (seat : ℕ) (x : Request) → IsCausedThroughout config past → IsCausedThroughout config (by_seat seat (refusal_of (record { proc = proc seat; request = x })) ∷ past)
refusal_caused config past seat (request.Reference r) before = (before, tt)
refusal_caused config past seat (request.Service s) before = (before, tt)

-- ---- the run before a turn, which is no longer
module _ (config : Config) (past more : List Entry) (run : IsRun config more) (seat : ℕ) (o : Option Request) (stepped : HasStepped config past more seat o) where
  landed_run : IsRefused past stepped.landed more seat o stepped.outcomes ⊎ IsStep config stepped.landed more seat o → IsRun config stepped.landed × (length stepped.landed ≤ length more)
  landed_run (inl refused) = ((subst (IsRun config) refused.is run).0, (let same = ap length refused.is in omega (arith, same)))
  landed_run (inr step) =
      let made = step_gives config stepped.landed (pager_after config stepped.landed) seat step.step in
      let size = length_made seat made stepped.landed in
      let same = ap length step.is in
      (run_made config seat made stepped.landed (subst (IsRun config) step.is run), omega (arith, size, same))

  before_turn : IsRun config past × (length past ≤ length more)
  before_turn =
      let landed = landed_run stepped.stepped in
      let longer = longer_landed config seat (carrier_of seat past) stepped.outcomes past in
      let same = ap length stepped.landed_is in
      let less = landed.1 in
      (run_landed config seat (carrier_of seat past) stepped.outcomes past (subst (IsRun config) stepped.landed_is landed.0), omega (arith, less, longer, same))

module _ (config : Config) (past more : List Entry) (formed : IsWellFormed config) (run : IsRun config more) (few : length more < 2 ^ 63) (seat : ℕ) (o : Option Request) (asked : IsDue config past seat o) (stepped : HasStepped config past more seat o) (before : IsCausedThroughout config past) where
  caused_there : IsCausedThroughout config stepped.landed
  caused_there = subst (IsCausedThroughout config) (sym stepped.landed_is) (landed_caused config seat (carrier_of seat past) stepped.outcomes past before)

  due_there : IsDue config stepped.landed seat o
  due_there = subst (λ (xs : List Entry). IsDue config xs seat o) (sym stepped.landed_is) (due_landed config past seat stepped.outcomes o asked)

  stepped_caused : IsRefused past stepped.landed more seat o stepped.outcomes ⊎ IsStep config stepped.landed more seat o → IsCausedThroughout config more
  stepped_caused (inl refused) = subst (IsCausedThroughout config) (sym refused.is) (refusal_caused config stepped.landed seat refused.x caused_there)
  stepped_caused (inr step) =
      let landed = landed_run config past more run seat o stepped (inr step) in
      let less = landed.1 in
      step_caused config stepped.landed more seat o formed landed.0 (omega (arith, few, less)) (record { idle = stepped.idle; calm = stepped.calm }) due_there step caused_there

pub turn_caused : (config : Config) (past more : List Entry) → IsWellFormed config → IsRun config more → length more < 2 ^ 63 → IsTurn config past more → IsCausedThroughout config past → IsCausedThroughout config more
turn_caused config past more formed run few turn before = stepped_caused config past more formed run few turn.seat turn.request turn.due turn.stepped before turn.stepped.stepped

after_turns : (config : Config) → IsWellFormed config → (n : ℕ) (past : List Entry) → IsRun config past → length past < 2 ^ 63 → IsAfterTurns config n past → IsCausedThroughout config past
after_turns config formed zero past run few none = subst (IsCausedThroughout config) (sym none) tt
after_turns config formed (suc n) past run few after =
    let turn = after.turn in
    let earlier = before_turn config after.earlier past run turn.seat turn.request turn.stepped in
    let less = earlier.1 in
    turn_caused config after.earlier past formed run few turn (after_turns config formed n after.earlier earlier.0 (omega (arith, few, less)) after.before)

pub whole_caused : (config : Config) (past : List Entry) → IsWellFormed config → IsRun config past → length past < 2 ^ 63 → EachInTurn config past → IsCausedThroughout config past
whole_caused config past formed run few each = after_turns config formed each.turns past run few each.after
