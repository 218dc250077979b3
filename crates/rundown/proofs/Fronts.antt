-- A move puts its entries in front of a past.
use Rattle.std.proofs.Common.{◌≡◌, ℕ, List, [], ◌∷◌, ◌++◌, Option, Some, None, map, refl, sym, ap, ◌∙◌, subst}
use Rattle.std.proofs.lemmas.List.{append_assoc}
use Rattle.vm_types.specs.declared.config.Config.{Config}
use Rattle.vm_types.specs.declared.config.Task.{Task}
use Rattle.vm_journal.specs.declared.entry.Entry.{Entry}
use Rattle.vm_journal.specs.declared.entry.What.{What}
use Rattle.pager_model.specs.Flights.{Flight, carrier_of}
use Rattle.pager_policy.specs.Given.{by_seat, made_by, with_reply}
use Rattle.pager_policy.specs.Landings.{Outcome, all_bad, first_bad, landed_by, landing}
use Rattle.pager_policy.specs.Moves.{After, Control as ControlIs, Move, carries, goes, makes, refuses, rests}
use Rattle.pager_policy.specs.Policy.{next_task}
use Rattle.pager_model.specs.Run.{pager_after}
use Rattle.pager_policy.specs.Serial.{GoesOn, Heard, IsMade, IsRefused, refusal_of}

pub record IsFront (past more : List Entry) : Type 0 where
  pub rest : List Entry
  pub is : more ≡ rest ++ past

pub no_front : (past : List Entry) → IsFront past past
no_front past = record { rest = []; is = refl }

one_front : (e : Entry) (past : List Entry) → IsFront past (e ∷ past)
one_front e past = record { rest = e ∷ []; is = refl }

pub front_then : (a b c : List Entry) → IsFront a b → IsFront b c → IsFront a c
front_then a b c first second = record {
  rest = second.rest ++ first.rest;
  is = second.is ∙ (ap (λ (xs : List Entry). second.rest ++ xs) first.is ∙ sym (append_assoc second.rest first.rest a));
}

made_front : (seat : ℕ) (ws : List What) (past : List Entry) → IsFront past (made_by seat ws past)
made_front seat [] past = no_front past
made_front seat (w ∷ ws) past = front_then past (by_seat seat w ∷ past) (made_by seat ws (by_seat seat w ∷ past)) (one_front (by_seat seat w) past) (made_front seat ws (by_seat seat w ∷ past))

landed_front : (config : Config) (seat : ℕ) (flights : List Flight) (outcomes : List Outcome) (past : List Entry) → IsFront past (landed_by config seat flights outcomes past)
landed_front config seat [] outcomes past = no_front past
landed_front config seat (x ∷ flights) [] past = no_front past
landed_front config seat (x ∷ flights) (o ∷ outcomes) past =
    front_then past (made_by seat ws past) (landed_by config seat flights outcomes (made_by seat ws past)) (made_front seat ws past) (landed_front config seat flights outcomes (made_by seat ws past))
  where
    ws : List What
    ws = landing past (pager_after config past).page x x.direction o

refused_front : (landed more : List Entry) (next : ControlIs) (o : Option Task) → IsRefused landed more next o → IsFront landed more
refused_front landed more next None refused = absurd refused
refused_front landed more next (Some task) refused = subst (IsFront landed) (sym refused.0) (one_front (by_seat (task.proc).0 (refusal_of task)) landed)

on_front : (config : Config) (landed more : List Entry) (next : ControlIs) (x : After) → GoesOn config landed more next x → IsFront landed more
on_front config landed more next (goes c) on = subst (IsFront landed) (sym on.0) (no_front landed)
on_front config landed more next refuses on = refused_front landed more next (next_task config landed) on

pub move_front : (config : Config) (past : List Entry) (heard : Heard) (more : List Entry) (next : ControlIs) (m : Move) → IsMade config past heard more next m → IsFront past more
move_front config past heard more next (makes seat ws c) made = subst (IsFront past) (sym made.0) (made_front seat (map (with_reply heard.reply) ws) past)
move_front config past heard more next (carries seat ws onward) made =
    front_then past landed more
    (front_then past (made_by seat ws past) landed (made_front seat ws past) (landed_front config seat (carrier_of seat (made_by seat ws past)) heard.outcomes (made_by seat ws past)))
    (on_front config landed more next (onward (all_bad heard.outcomes) (first_bad heard.outcomes)) made.on)
  where
    landed : List Entry
    landed = landed_by config seat (carrier_of seat (made_by seat ws past)) heard.outcomes (made_by seat ws past)
move_front config past heard more next rests made = absurd made
