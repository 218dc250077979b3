-- From each place underway the move that has begun can be finished, and what has come is the beginning of a rundown.
use Rattle.std.proofs.Common.{◌≡◌, inl, inr, ◌&&◌, Bool, true, false, List, [], ◌∷◌, ◌++◌, Option, Some, None, length, refl, sym, ap, ◌∙◌, subst, arith}
use Rattle.std.specs.Option.{option_map}
use Rattle.std.proofs.Math.Bool.{and-true, and_assoc}
use Rattle.std.proofs.lemmas.Option.{cond_some, none-some, same_Some}
use Rattle.vm_types.specs.declared.config.Config.{Config}
use Rattle.vm_journal.specs.declared.entry.Entry.{Entry}
use Rattle.vm_journal.specs.declared.entry.What.{What}
use Rattle.pager_policy.specs.Cleaning.{Cleaning, evicting}
use Rattle.pager_model.specs.Flights.{Flight, open_flights, carrier_of}
use Rattle.pager_policy.specs.Given.{by_seat, made_by, unsaid}
use Rattle.pager_policy.specs.Landings.{Outcome, all_bad, landed_by, went_well}
use Rattle.pager_policy.specs.Moves.{Move, cleaning, control}
use Rattle.pager_model.specs.Run.{IsRun, pager_after}
use Rattle.pager_policy.specs.Rundown.{at_slot, cleaning_move, writer_of}
use Rattle.pager_policy.specs.Serial.{Heard, IsMade, IsReached}
use Rattle.serial_laws.specs.Between.{IsBetween}
use Rattle.serial_laws.proofs.Writes.{Writes}
use Rattle.log_laws.specs.Underway.{Onward, Underway, after_landings, after_outs, between_moves, in_landings, in_outs, is_made, landed_as, plan_of, step, step_from, step_landings, step_outs, step_plan, underway_after}
use Rattle.log_laws.proofs.Grown.{Grows, grows_none, grows_then, landed_grows, made_grows}
use Rattle.log_laws.proofs.Made.{ShowsOutcome, landed_is, made_is}
use Rattle.log_laws.proofs.Plans.{Clusters, IsPlanned, cleaning_planned}
use Rattle.log_laws.proofs.Stepped.{onward_by, onward_same, onward_to, reached_stands}
use Rattle.log_laws.proofs.Writing.{AreWrites, carrier_writes, landing_one, out_writes}

-- moves of the rundown lead to this past
pub record Leads (config : Config) (past more : List Entry) (to : Cleaning) : Type 0 where
  pub told : List Heard
  pub reached : IsReached config past (at_slot 0 0 false) told more (control (cleaning to))

-- with whichever outcomes the flights land
abbrev pub LeadsLanded : Config → List Entry → List Flight → Bool → Onward → List Entry → Type 0
LeadsLanded config past flights all onward more =
    (outcomes : List Outcome) → length outcomes ≡ length flights → Leads config past (landed_by config (writer_of config) flights outcomes more) (onward_by onward (all && all_bad outcomes))

-- a cluster's flights are to land: they are writes, and lead on however they land
pub record IsLanding (config : Config) (past : List Entry) (flights : List Flight) (all : Bool) (onward : Onward) (more : List Entry) : Type 0 where
  pub each : AreWrites flights
  pub leads : LeadsLanded config past flights all onward more

-- a cluster's OUTs are to be made: what they begin leads on however it lands
pub record IsBeginning (config : Config) (past : List Entry) (ws : List What) (onward : Onward) (more : List Entry) : Type 0 where
  pub outs : Writes ws
  pub still : AreWrites (open_flights more)
  pub leads : LeadsLanded config past (carrier_of (writer_of config) (made_by (writer_of config) ws more)) true onward (made_by (writer_of config) ws more)

-- once the move under way has been finished, moves of the rundown lead to the past
abbrev pub Finishes : Config → List Entry → List Entry → Underway → Type 0
Finishes config past more (between_moves at) = Leads config past more at
Finishes config past more (in_outs ws onward) = IsBeginning config past ws onward more
Finishes config past more (in_landings flights all onward) = IsLanding config past flights all onward more

module _ (config : Config) (past : List Entry) where
  -- ---- an entry of a move that has begun
  landings_finish : (flights : List Flight) (all : Bool) (onward : Onward) (more : List Entry) → IsLanding config past flights all onward more
      → Finishes config past more (after_landings flights all onward)
  landings_finish [] all onward more landing = subst (λ (b : Bool). Leads config past more (onward_by onward b)) (and-true all) (landing.leads [] refl)
  landings_finish (x ∷ flights) all onward more landing = landing

  landing_step : (flights : List Flight) (all : Bool) (onward : Onward) (more : List Entry) (e : Entry) (v : Underway) → IsLanding config past flights all onward more
      → step_landings config more flights all onward e ≡ Some v → Finishes config past (e ∷ more) v
  landing_step [] all onward more e v landing steps = absurd (none-some v steps)
  landing_step (x ∷ flights) all onward more e v landing steps = by (landed_as config more x e) refl steps
    where
      landed : (bad : Bool) → ShowsOutcome config more x e bad → IsLanding config past flights (all && bad) onward (e ∷ more)
      landed bad shows = record {
        each = landing.each.1;
        leads = λ outcomes counted.
            subst (λ (xs : List Entry). Leads config past (landed_by config (writer_of config) flights outcomes xs) (onward_by onward ((all && bad) && all_bad outcomes)))
            (landing_one config (writer_of config) more x shows.outcome landing.each.0 ∙ ap (λ (d : Entry). d ∷ more) (sym shows.is))
            (subst (λ (to : Cleaning). Leads config past (landed_by config (writer_of config) (x ∷ flights) (shows.outcome ∷ outcomes) more) to)
            (ap (λ (b : Bool). onward_by onward (all && (b && all_bad outcomes))) shows.same ∙ ap (onward_by onward) (sym (and_assoc all bad (all_bad outcomes))))
            (landing.leads (shows.outcome ∷ outcomes) (omega (arith, counted))));
      }

      by : (o : Option Bool) → landed_as config more x e ≡ o → option_map (λ (bad : Bool). after_landings flights (all && bad) onward) o ≡ Some v → Finishes config past (e ∷ more) v
      by None shown is = absurd (none-some v is)
      by (Some bad) shown is =
          subst (Finishes config past (e ∷ more)) (same_Some (after_landings flights (all && bad) onward) v is)
          (landings_finish flights (all && bad) onward (e ∷ more) (landed bad (landed_is config more x e bad shown)))

  outs_finish : (ws : List What) (onward : Onward) (more : List Entry) → IsBeginning config past ws onward more → Finishes config past more (after_outs config more ws onward)
  outs_finish [] onward more beginning =
      landings_finish (carrier_of (writer_of config) more) true onward more (record { each = carrier_writes (writer_of config) more beginning.still; leads = beginning.leads })
  outs_finish (w ∷ ws) onward more beginning = beginning

  outs_step : (ws : List What) (onward : Onward) (more : List Entry) (e : Entry) (v : Underway) → IsBeginning config past ws onward more → step_outs config more ws onward e ≡ Some v
      → Finishes config past (e ∷ more) v
  outs_step [] onward more e v beginning steps = absurd (none-some v steps)
  outs_step (w ∷ ws) onward more e v beginning steps =
      let parts = cond_some (is_made config w e) (after_outs config (e ∷ more) ws onward) v steps in
      let same = made_is config w e parts.0 in
      subst (Finishes config past (e ∷ more)) parts.1
      (outs_finish ws onward (e ∷ more) (subst (λ (d : Entry). IsBeginning config past ws onward (d ∷ more)) (sym same) (record {
        outs = beginning.outs.1;
        still = out_writes (writer_of config) w more beginning.outs.0 beginning.still;
        leads = beginning.leads;
      })))

  -- ---- the first entry of a move
  begins : (more : List Entry) (at : Cleaning) (clusters : Clusters config (cleaning_move config more (pager_after config more) at)) → open_flights more ≡ []
      → Leads config past more at → IsBeginning config past clusters.made (onward_to config past clusters.to) more
  begins more at clusters landed leads = record {
    outs = subst Writes (sym clusters.writing.is) (refl, clusters.writing.writes);
    still = subst AreWrites (sym landed) tt;
    leads = λ outcomes counted. record {
      told = record { outcomes = outcomes; reply = unsaid } ∷ leads.told;
      reached = record {
        earlier_past = more;
        earlier_control = control (cleaning at);
        before = leads.reached;
        move = subst (IsMade config more (record { outcomes = outcomes; reply = unsaid })
            (landed_by config (writer_of config) (carrier_of (writer_of config) (made_by (writer_of config) clusters.made more)) outcomes (made_by (writer_of config) clusters.made more))
            (control (cleaning (onward_by (onward_to config past clusters.to) (all_bad outcomes))))) (sym clusters.is)
            (record { each = counted; on = (refl, ap (λ (to : Cleaning). control (cleaning to)) (onward_same config past clusters.to (all_bad outcomes))) });
      };
    };
  }

  first_step : (more : List Entry) (at : Cleaning) (e : Entry) (v : Underway) → IsBetween config more → Leads config past more at → step config more (between_moves at) e ≡ Some v
      → Finishes config past (e ∷ more) v
  first_step more at e v between leads steps = by (cleaning_planned config more between at)
    where
      by : IsPlanned config (cleaning_move config more (pager_after config more) at) → Finishes config past (e ∷ more) v
      by (inl evicts) =
          let parts = cond_some (is_made config evicts.made e) (between_moves evicts.to) v (ap (λ (m : Move). step_plan config more (plan_of m) e) (sym evicts.is) ∙ steps) in
          let same = made_is config evicts.made e parts.0 in
          let heard : Heard = record { outcomes = []; reply = unsaid } in
          subst (Finishes config past (e ∷ more)) parts.1 (record {
            told = heard ∷ leads.told;
            reached = record {
              earlier_past = more;
              earlier_control = control (cleaning at);
              before = leads.reached;
              move = subst (IsMade config more heard (e ∷ more) (control (cleaning evicts.to))) (sym evicts.is)
                  (ap (λ (d : Entry). d ∷ more) same ∙ ap (λ (w : What). by_seat (writer_of config) w ∷ more) (sym (evicts.shown unsaid)), refl, refl);
            };
          })
      by (inr (inl clusters)) =
          outs_step clusters.made (onward_to config past clusters.to) more e v (begins more at clusters between.landed leads)
          (ap (λ (m : Move). step_plan config more (plan_of m) e) (sym clusters.is) ∙ steps)
      by (inr (inr none)) = absurd (none-some v (ap (λ (m : Move). step_plan config more (plan_of m) e) (sym none) ∙ steps))

  pub step_finishes : (more : List Entry) (u v : Underway) (e : Entry) → IsBetween config past → IsRun config more → Finishes config past more u → step config more u e ≡ Some v
      → Finishes config past (e ∷ more) v
  step_finishes more (between_moves at) v e between run finishes steps =
      first_step more at e v (reached_stands config past finishes.told more (control (cleaning at)) between finishes.reached run).between finishes steps
  step_finishes more (in_outs ws onward) v e between run finishes steps = outs_step ws onward more e v finishes steps
  step_finishes more (in_landings flights all onward) v e between run finishes steps = landing_step flights all onward more e v finishes steps

  pub stands_finish : (rest : List Entry) (u : Underway) → IsBetween config past → IsRun config (rest ++ past) → underway_after config past rest ≡ Some u → Finishes config past (rest ++ past) u
  stands_finish [] u between run stands = subst (Finishes config past past) (same_Some (between_moves (evicting 0 0 false)) u stands) (record { told = []; reached = (refl, refl) })
  stands_finish (e ∷ rest) u between run stands = by (underway_after config past rest) (λ v is. stands_finish rest v between run.0 is) stands
    where
      by : (o : Option Underway) → ((v : Underway) → o ≡ Some v → Finishes config past (rest ++ past) v) → step_from config (rest ++ past) o e ≡ Some u → Finishes config past (e ∷ (rest ++ past)) u
      by None before steps = absurd (none-some u steps)
      by (Some v) before steps = step_finishes (rest ++ past) v u e between run.0 (before v refl) steps

  -- ---- it can be finished
  pub record IsBeginningOf (more : List Entry) : Type 0 where
    pub most : List Entry
    pub grows : Grows more most
    pub to : Cleaning
    pub leads : Leads config past most to

  all_well : List Flight → List Outcome
  all_well [] = []
  all_well (x ∷ flights) = went_well ∷ all_well flights

  as_many : (flights : List Flight) → length (all_well flights) ≡ length flights
  unfolding all_well
  as_many [] = refl
  as_many (x ∷ flights) = omega (arith, as_many flights)

  pub finished : (more : List Entry) (u : Underway) → Finishes config past more u → IsBeginningOf more
  finished more (between_moves at) finishes = record { most = more; grows = grows_none more; to = at; leads = finishes }
  finished more (in_landings flights all onward) finishes = record {
    most = landed_by config (writer_of config) flights (all_well flights) more;
    grows = landed_grows config (writer_of config) flights (all_well flights) more;
    to = onward_by onward (all && all_bad (all_well flights));
    leads = finishes.leads (all_well flights) (as_many flights);
  }
  finished more (in_outs ws onward) finishes =
      let begun : List Entry = made_by (writer_of config) ws more in
      let flights : List Flight = carrier_of (writer_of config) begun in
      record {
        most = landed_by config (writer_of config) flights (all_well flights) begun;
        grows = grows_then more begun (landed_by config (writer_of config) flights (all_well flights) begun)
            (made_grows (writer_of config) ws more) (landed_grows config (writer_of config) flights (all_well flights) begun);
        to = onward_by onward (all_bad (all_well flights));
        leads = finishes.leads (all_well flights) (as_many flights);
      }
