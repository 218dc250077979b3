-- A move puts its entries on the past, and a run's earlier entries are a run.
use Rattle.std.proofs.Common.{◌≡◌, ℕ, ◌≤◌, List, [], ◌∷◌, ◌++◌, Option, Some, None, length, map, refl, sym, ap, ◌∙◌, subst, append_assoc, arith, length-append}
use Rattle.vm_types.specs.declared.config.Config.{Config}
use Rattle.vm_types.specs.declared.config.Task.{Task}
use Rattle.vm_journal.specs.declared.entry.Entry.{Entry}
use Rattle.vm_journal.specs.declared.entry.What.{What}
use Rattle.pager_model.specs.Flights.{Flight, carrier_of}
use Rattle.pager_policy.specs.Given.{by_seat, made_by, with_reply}
use Rattle.pager_policy.specs.Landings.{Outcome, all_bad, first_bad, landed_by, landing}
use Rattle.pager_policy.specs.Moves.{After, Control, Move, carries, goes, makes, refuses, rests}
use Rattle.pager_policy.specs.Policy.{move_of, next_task}
use Rattle.pager_model.specs.Run.{IsRun, pager_after}
use Rattle.pager_policy.specs.Serial.{GoesOn, Heard, IsMade, IsMove, IsRefused, refusal_of}

-- the list is the past with later entries on it
pub record Grows (past more : List Entry) : Type 0 where
  pub later : List Entry
  pub is : more ≡ later ++ past

pub grows_none : (past : List Entry) → Grows past past
grows_none past = record { later = []; is = refl }

pub grows_then : (past more most : List Entry) → Grows past more → Grows more most → Grows past most
grows_then past more most first second =
    record { later = second.later ++ first.later; is = second.is ∙ (ap (λ (xs : List Entry). second.later ++ xs) first.is ∙ sym (append_assoc second.later first.later past)) }

grows_one : (e : Entry) (past : List Entry) → Grows past (e ∷ past)
grows_one e past = record { later = e ∷ []; is = refl }

pub made_grows : (seat : ℕ) (ws : List What) (past : List Entry) → Grows past (made_by seat ws past)
made_grows seat [] past = grows_none past
made_grows seat (w ∷ ws) past = grows_then past (by_seat seat w ∷ past) (made_by seat ws (by_seat seat w ∷ past)) (grows_one (by_seat seat w) past) (made_grows seat ws (by_seat seat w ∷ past))

pub landed_grows : (config : Config) (seat : ℕ) (flights : List Flight) (outcomes : List Outcome) (past : List Entry) → Grows past (landed_by config seat flights outcomes past)
landed_grows config seat [] outcomes past = grows_none past
landed_grows config seat (x ∷ flights) [] past = grows_none past
landed_grows config seat (x ∷ flights) (o ∷ outcomes) past =
    let ws = landing past (pager_after config past).page x x.direction o in
    grows_then past (made_by seat ws past) (landed_by config seat flights outcomes (made_by seat ws past)) (made_grows seat ws past) (landed_grows config seat flights outcomes (made_by seat ws past))

on_grows : (config : Config) (past more : List Entry) (next : Control) (after : After) → GoesOn config past more next after → Grows past more
on_grows config past more next (goes c) on = record { later = []; is = on.0 }
on_grows config past more next refuses on = by (next_task config past) on
  where
    by : (o : Option Task) → IsRefused past more next o → Grows past more
    by None refused = absurd refused
    by (Some task) refused = record { later = by_seat (task.proc).0 (refusal_of task) ∷ []; is = refused.0 }

is_made_grows : (config : Config) (past : List Entry) (heard : Heard) (more : List Entry) (next : Control) (m : Move) → IsMade config past heard more next m → Grows past more
is_made_grows config past heard more next (makes seat ws c) made = subst (Grows past) (sym made.0) (made_grows seat (map (with_reply heard.reply) ws) past)
is_made_grows config past heard more next (carries seat ws onward) made =
    let begun : List Entry = made_by seat ws past in
    let landed : List Entry = landed_by config seat (carrier_of seat begun) heard.outcomes begun in
    grows_then past begun more (made_grows seat ws past)
    (grows_then begun landed more (landed_grows config seat (carrier_of seat begun) heard.outcomes begun)
    (on_grows config landed more next (onward (all_bad heard.outcomes) (first_bad heard.outcomes)) made.on))
is_made_grows config past heard more next rests made = absurd made

pub move_grows : (config : Config) (past : List Entry) (c : Control) (heard : Heard) (more : List Entry) (next : Control) → IsMove config past c heard more next → Grows past more
move_grows config past c heard more next move = is_made_grows config past heard more next (move_of config past c) move

run_behind : (config : Config) (later past : List Entry) → IsRun config (later ++ past) → IsRun config past
run_behind config [] past run = run
run_behind config (e ∷ later) past run = run_behind config later past run.0

pub run_grown : (config : Config) (past more : List Entry) → Grows past more → IsRun config more → IsRun config past
run_grown config past more grows run = run_behind config grows.later past (subst (IsRun config) grows.is run)

-- of two lists at the end of one, the longer one has the other at its end
pub longer_grows : (xs ys zs ws : List Entry) → xs ++ ys ≡ zs ++ ws → length ys ≤ length ws → Grows ys ws
longer_grows [] ys [] ws same short = record { later = []; is = sym same }
longer_grows [] ys (z ∷ zs) ws same short =
    let whole = ap length same in
    let parts = length-append zs ws in
    absurd (omega (arith, whole, parts, short))
longer_grows (x ∷ xs) ys [] ws same short = record { later = x ∷ xs; is = sym same }
longer_grows (x ∷ xs) ys (z ∷ zs) ws same short = longer_grows xs ys zs ws (let tails : xs ++ ys ≡ zs ++ ws = cc in tails) short
