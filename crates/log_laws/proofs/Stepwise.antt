-- The laws of the rundown entry by entry.
use Rattle.std.proofs.Common.{◌≡◌, inl, inr, Bool, true, false, List, [], ◌∷◌, ◌++◌, Option, Some, None, refl, sym, ap, ◌∙◌, subst, append_assoc}
use Rattle.std.specs.Prelude.{◌↔◌}
use Rattle.std.specs.Option.{IsSome}
use Rattle.std.proofs.lemmas.Bool.{false≢true}
use Rattle.std.proofs.lemmas.List.{append_cancel_right}
use Rattle.std.proofs.lemmas.Option.{same_Some}
use Rattle.vm_types.specs.declared.config.Config.{Config}
use Rattle.vm_journal.specs.declared.entry.Entry.{Entry}
use Rattle.pager_policy.specs.Cleaning.{Cleaning}
use Rattle.pager_policy.specs.Moves.{Move, cleaning, control, rests}
use Rattle.pager_policy.specs.Policy.{move_of}
use Rattle.pager_model.specs.Run.{IsRun, pager_after}
use Rattle.pager_policy.specs.Rundown.{at_slot, cleaning_move}
use Rattle.pager_policy.specs.Serial.{IsReached, IsRundown}
use Rattle.log_model.specs.NextLine.{AreRundownFirst}
use Rattle.serial_laws.specs.Between.{IsBetween}
use Rattle.log_laws.specs.Underway.{IsAtRest, Plan, Underway, between_moves, evicts, in_landings, in_outs, no_move, plan_at, plan_of, step, step_from, underway_after, writes}
use Rattle.log_laws.proofs.Finished.{Finishes, finished, stands_finish, step_finishes}
use Rattle.log_laws.proofs.Plans.{IsPlanned, cleaning_planned}
use Rattle.log_laws.proofs.Stepped.{first_stands, reached_stands}

module _ (config : Config) (past : List Entry) where
  first_of : (rest : List Entry) (u : Underway) → Finishes config past (rest ++ past) u → AreRundownFirst config past rest
  first_of rest u finishes =
      let end = finished config past (rest ++ past) u finishes in
      record {
        later = end.grows.later;
        told = end.leads.told;
        control = control (cleaning end.to);
        reached = subst (λ (xs : List Entry). IsReached config past (at_slot 0 0 false) end.leads.told xs (control (cleaning end.to)))
            (end.grows.is ∙ sym (append_assoc end.grows.later rest past)) end.leads.reached;
      }

  -- what is some is some value
  some_of : (o : Option Underway) → IsSome o → (u : Underway) × (o ≡ Some u)
  some_of None is = absurd (false≢true is)
  some_of (Some u) is = (u, refl)

  leads_underway : (rest : List Entry) → IsBetween config past → IsRun config (rest ++ past) → AreRundownFirst config past rest → IsSome (underway_after config past rest)
  leads_underway [] between run first = refl
  leads_underway (e ∷ rest) between run first =
      first_stands config past first.told ((first.later ++ (e ∷ rest)) ++ past) first.control first.later rest e between first.reached (append_assoc first.later (e ∷ rest) past) run.0

  pub stepwise : (rest : List Entry) → IsBetween config past → IsRun config (rest ++ past) → AreRundownFirst config past rest ↔ IsSome (underway_after config past rest)
  stepwise rest between run =
      (leads_underway rest between run, λ some. let found = some_of (underway_after config past rest) some in first_of rest found.0 (stands_finish config past rest found.0 between run found.1))

  pub next_step : (rest : List Entry) (e : Entry) (u : Underway) → IsBetween config past → IsRun config (rest ++ past) → underway_after config past rest ≡ Some u
      → AreRundownFirst config past (e ∷ rest) ↔ IsSome (step config (rest ++ past) u e)
  next_step rest e u between run stands = (
    λ first. subst (λ (o : Option Underway). IsSome (step_from config (rest ++ past) o e)) stands
        (first_stands config past first.told ((first.later ++ (e ∷ rest)) ++ past) first.control first.later rest e between first.reached (append_assoc first.later (e ∷ rest) past) run),
    λ some.
        let found = some_of (step config (rest ++ past) u e) some in
        first_of (e ∷ rest) found.0 (step_finishes config past (rest ++ past) u found.0 e between run (stands_finish config past rest u between run stands) found.1),
  )

  -- ---- the end
  rests_there : (rest : List Entry) (u : Underway) → IsBetween config past → IsRun config (rest ++ past) → underway_after config past rest ≡ Some u → IsRundown config past rest
      → IsAtRest config (rest ++ past) u
  rests_there rest u between run stands rundown =
      let arrived = reached_stands config past rundown.told (rest ++ past) rundown.control between rundown.reached run in
      let same : rest ≡ arrived.stands.rest = append_cancel_right rest arrived.stands.rest past arrived.stands.whole in
      let there : between_moves arrived.to ≡ u = same_Some (between_moves arrived.to) u (sym arrived.stands.stands ∙ (ap (underway_after config past) (sym same) ∙ stands)) in
      subst (IsAtRest config (rest ++ past)) there (ap (move_of config (rest ++ past)) (sym arrived.is) ∙ rundown.rests)

  is_rundown : (rest : List Entry) (u : Underway) → Finishes config past (rest ++ past) u → IsAtRest config (rest ++ past) u → IsRundown config past rest
  is_rundown rest (between_moves at) finishes at_rest = record { control = control (cleaning at); told = finishes.told; reached = finishes.reached; rests = at_rest }
  is_rundown rest (in_outs ws onward) finishes at_rest = absurd at_rest
  is_rundown rest (in_landings flights all onward) finishes at_rest = absurd at_rest

  pub ending : (rest : List Entry) (u : Underway) → IsBetween config past → IsRun config (rest ++ past) → underway_after config past rest ≡ Some u
      → IsRundown config past rest ↔ IsAtRest config (rest ++ past) u
  ending rest u between run stands = (rests_there rest u between run stands, is_rundown rest u (stands_finish config past rest u between run stands))

  -- ---- the plan
  abbrev is_none : Plan → Bool
  is_none (evicts w at) = false
  is_none (writes ws onward) = false
  is_none no_move = true

  pub no_move_rests : (at : Cleaning) → IsBetween config past → plan_at config past at ≡ no_move ↔ (cleaning_move config past (pager_after config past) at ≡ rests)
  no_move_rests at between = (λ none. by none (cleaning_planned config past between at), λ rest. ap plan_of rest)
    where
      by : plan_at config past at ≡ no_move → IsPlanned config (cleaning_move config past (pager_after config past) at) → cleaning_move config past (pager_after config past) at ≡ rests
      by none (inl one) = absurd (false≢true (ap (λ (m : Move). is_none (plan_of m)) (sym one.is) ∙ ap is_none none))
      by none (inr (inl clusters)) = absurd (false≢true (ap (λ (m : Move). is_none (plan_of m)) (sym clusters.is) ∙ ap is_none none))
      by none (inr (inr rest)) = rest
