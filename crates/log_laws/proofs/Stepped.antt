-- The moves of the rundown are made step by step.
use Rattle.std.proofs.Common.{◌≡◌, ◌⊎◌, inl, inr, ℕ, ◌<◌, ◌≤◌, ◌&&◌, Bool, true, false, cond, List, [], ◌∷◌, ◌++◌, Option, Some, None, length, refl, sym, ap, ◌∙◌, subst, append_assoc, arith, length-append}
use Rattle.std.specs.Option.{IsSome, is_some, option_map}
use Rattle.std.proofs.Math.Bool.{and-true, and_assoc}
use Rattle.std.proofs.lemmas.Bool.{cases_lt}
use Rattle.std.proofs.lemmas.List.{append_cancel_right}
use Rattle.std.proofs.lemmas.Option.{none-some}
use Rattle.vm_types.specs.declared.config.Config.{Config}
use Rattle.vm_journal.specs.declared.entry.Entry.{Entry}
use Rattle.vm_journal.specs.declared.entry.What.{What}
use Rattle.vm_journal.specs.declared.entry.What.TheVariants as what
use Rattle.pager_policy.specs.Cleaning.{Cleaning, evicting}
use Rattle.pager_model.specs.Flights.{Flight, open_flights, carrier_of}
use Rattle.pager_policy.specs.Given.{by_seat, made_by}
use Rattle.pager_policy.specs.Landings.{Outcome, all_bad, is_bad_outcome, landed_by}
use Rattle.pager_policy.specs.Moves.{Control, Move, carries, cleaning, control, goes, makes}
use Rattle.pager_model.specs.Run.{IsRun, pager_after}
use Rattle.pager_policy.specs.Rundown.{at_slot, cleaning_move, writer_of}
use Rattle.pager_policy.specs.Serial.{Heard, IsMade, IsMove, IsReached}
use Rattle.serial_laws.specs.Between.{IsBetween}
use Rattle.serial_laws.proofs.Kept.{moves_between}
use Rattle.serial_laws.proofs.Rundowns.{cleaning_fits}
use Rattle.serial_laws.proofs.Writes.{Writes}
use Rattle.log_laws.specs.Underway.{Onward, Underway, after_landings, after_outs, between_moves, in_landings, in_outs, same_made, plan_of, step, step_from, step_outs, step_plan, underway_after}
use Rattle.log_laws.proofs.Grown.{Grows, longer_grows, move_grows, run_grown}
use Rattle.log_laws.proofs.Made.{landing_entry, landing_passes, made_passes}
use Rattle.log_laws.proofs.Plans.{Clusters, Evicts, IsPlanned, cleaning_planned}
use Rattle.log_laws.proofs.Writing.{AreWrites, carrier_writes, landing_one, out_same, out_writes}

-- where the rundown goes on, by whether all writes failed
abbrev pub onward_by : Onward → Bool → Cleaning
onward_by onward all = cond all onward.failed onward.written

module _ (config : Config) (past : List Entry) where
  -- the entries on the past stand here
  pub record At (more : List Entry) (u : Underway) : Type 0 where
    pub rest : List Entry
    pub whole : more ≡ rest ++ past
    pub stands : underway_after config past rest ≡ Some u

  abbrev writer : ℕ
  writer = writer_of config

  at_step : (more : List Entry) (u v : Underway) (e : Entry) → At more u → step config more u e ≡ Some v → At (e ∷ more) v
  at_step more u v e at steps = record {
    rest = e ∷ at.rest;
    whole = ap (λ (xs : List Entry). e ∷ xs) at.whole;
    stands = ap (λ (o : Option Underway). step_from config (at.rest ++ past) o e) at.stands ∙ subst (λ (xs : List Entry). step config xs u e ≡ Some v) at.whole steps;
  }

  made_step : (more : List Entry) (w : What) (ws : List What) (onward : Onward) → same_made w w ≡ true
      → step_outs config more (w ∷ ws) onward (by_seat writer w) ≡ Some (after_outs config (by_seat writer w ∷ more) ws onward)
  made_step more w ws onward same = ap (λ (b : Bool). cond b (Some (after_outs config (by_seat writer w ∷ more) ws onward)) None) (made_passes config w same)

  -- ---- the OUTs of a cluster
  outs_made : (ws : List What) (w : What) (more : List Entry) (u : Underway) (onward : Onward) → Writes (w ∷ ws)
      → ((e : Entry) → step config more u e ≡ step_outs config more (w ∷ ws) onward e) → At more u
      → At (made_by writer (w ∷ ws) more) (after_landings (carrier_of writer (made_by writer (w ∷ ws) more)) true onward)
  outs_made [] w more u onward outs like at = at_step more u _ (by_seat writer w) at (like (by_seat writer w) ∙ made_step more w [] onward (out_same w outs.0))
  outs_made (v ∷ ws) w more u onward outs like at =
      outs_made ws v (by_seat writer w ∷ more) (in_outs (v ∷ ws) onward) onward outs.1 (λ e. refl)
      (at_step more u (in_outs (v ∷ ws) onward) (by_seat writer w) at (like (by_seat writer w) ∙ made_step more w (v ∷ ws) onward (out_same w outs.0)))

  -- ---- its landings
  landings_made : (flights : List Flight) (outcomes : List Outcome) (more : List Entry) (all : Bool) (onward : Onward) → AreWrites flights → length outcomes ≡ length flights
      → At more (after_landings flights all onward)
      → At (landed_by config writer flights outcomes more) (between_moves (onward_by onward (all && all_bad outcomes)))
  landings_made [] [] more all onward each counted at = subst (λ (b : Bool). At more (between_moves (onward_by onward b))) (sym (and-true all)) at
  landings_made [] (o ∷ outcomes) more all onward each counted at = absurd (omega (arith, counted))
  landings_made (x ∷ flights) [] more all onward each counted at = absurd (omega (arith, counted))
  landings_made (x ∷ flights) (o ∷ outcomes) more all onward each counted at =
      let e : Entry = by_seat writer (landing_entry more x o) in
      let bad : Bool = is_bad_outcome o in
      let stepped : At (e ∷ more) (after_landings flights (all && bad) onward) =
      at_step more (in_landings (x ∷ flights) all onward) (after_landings flights (all && bad) onward) e at
      (ap (option_map (λ (b : Bool). after_landings flights (all && b) onward)) (landing_passes config more x o)) in
      subst (λ (xs : List Entry). At (landed_by config writer flights outcomes xs) (between_moves (onward_by onward (all && (bad && all_bad outcomes)))))
      (sym (landing_one config writer more x o each.0))
      (subst (λ (b : Bool). At (landed_by config writer flights outcomes (e ∷ more)) (between_moves (onward_by onward b))) (and_assoc all bad (all_bad outcomes))
      (landings_made flights outcomes (e ∷ more) (all && bad) onward each.1 (omega (arith, counted)) stepped))

  pub writes_open : (ws : List What) (more : List Entry) → Writes ws → AreWrites (open_flights more) → AreWrites (open_flights (made_by writer ws more))
  writes_open [] more outs each = each
  writes_open (w ∷ ws) more outs each = writes_open ws (by_seat writer w ∷ more) outs.1 (out_writes writer w more outs.0 each)

  -- ---- a move
  record Arrives (more : List Entry) (c : Control) : Type 0 where
    pub to : Cleaning
    pub is : c ≡ control (cleaning to)
    pub stands : At more (between_moves to)

  evict_made : (more : List Entry) (at : Cleaning) (heard : Heard) (most : List Entry) (next : Control)
      (evicts : Evicts config (cleaning_move config more (pager_after config more) at)) → At more (between_moves at)
      → IsMade config more heard most next (makes writer (evicts.made ∷ []) (control (cleaning evicts.to))) → Arrives most next
  evict_made more at heard most next evicts stands made = record {
    to = evicts.to;
    is = made.1;
    stands = subst (λ (xs : List Entry). At xs (between_moves evicts.to)) (sym (made.0 ∙ ap (λ (w : What). by_seat writer w ∷ more) (evicts.shown heard.reply)))
        (at_step more (between_moves at) (between_moves evicts.to) (by_seat writer evicts.made) stands
        (ap (λ (m : Move). step_plan config more (plan_of m) (by_seat writer evicts.made)) evicts.is
        ∙ ap (λ (b : Bool). cond b (Some (between_moves evicts.to)) None) (made_passes config evicts.made evicts.itself)));
  }

  -- where the cluster's plan goes on
  abbrev pub onward_to : (Bool → Cleaning) → Onward
  onward_to to = record { failed = to true; written = to false }

  pub onward_same : (to : Bool → Cleaning) (b : Bool) → onward_by (onward_to to) b ≡ to b
  onward_same to true = refl
  onward_same to false = refl

  cluster_made : (more : List Entry) (at : Cleaning) (heard : Heard) (most : List Entry) (next : Control)
      (clusters : Clusters config (cleaning_move config more (pager_after config more) at)) → open_flights more ≡ [] → At more (between_moves at)
      → IsMade config more heard most next (carries writer clusters.made (λ (all first : Bool). goes (control (cleaning (clusters.to all))))) → Arrives most next
  cluster_made more at heard most next clusters landed stands made =
      let onward : Onward = onward_to clusters.to in
      let begun : List Entry = made_by writer clusters.made more in
      let first : What = what.Out clusters.writing.frame clusters.writing.to in
      let open_writes : AreWrites (open_flights begun) =
      writes_open clusters.made more (subst Writes (sym clusters.writing.is) (refl, clusters.writing.writes)) (subst AreWrites (sym landed) tt) in
      let begun_stands : At begun (after_landings (carrier_of writer begun) true onward) =
      subst (λ (ws : List What). At (made_by writer ws more) (after_landings (carrier_of writer (made_by writer ws more)) true onward)) (sym clusters.writing.is)
      (outs_made clusters.writing.rest first more (between_moves at) onward (refl, clusters.writing.writes)
      (λ e. ap (λ (m : Move). step_plan config more (plan_of m) e) clusters.is ∙ ap (λ (ws : List What). step_outs config more ws onward e) clusters.writing.is) stands) in
      record {
        to = clusters.to (all_bad heard.outcomes);
        is = (made.on).1;
        stands = subst (λ (xs : List Entry). At xs (between_moves (clusters.to (all_bad heard.outcomes)))) (sym ((made.on).0))
            (subst (λ (b : Cleaning). At (landed_by config writer (carrier_of writer begun) heard.outcomes begun) (between_moves b)) (onward_same clusters.to (all_bad heard.outcomes))
            (landings_made (carrier_of writer begun) heard.outcomes begun true onward (carrier_writes writer begun open_writes) made.each begun_stands));
      }

  move_made : (more : List Entry) (at : Cleaning) (heard : Heard) (most : List Entry) (next : Control) → IsBetween config more → At more (between_moves at)
      → IsMove config more (control (cleaning at)) heard most next → Arrives most next
  move_made more at heard most next between stands move = by (cleaning_planned config more between at)
    where
      by : IsPlanned config (cleaning_move config more (pager_after config more) at) → Arrives most next
      by (inl evicts) = evict_made more at heard most next evicts stands (subst (IsMade config more heard most next) evicts.is move)
      by (inr (inl clusters)) = cluster_made more at heard most next clusters between.landed stands (subst (IsMade config more heard most next) clusters.is move)
      by (inr (inr none)) = absurd (subst (IsMade config more heard most next) none move)

  -- ---- moves from the report on
  pub record HasArrived (more : List Entry) (c : Control) : Type 0 where
    pub to : Cleaning
    pub is : c ≡ control (cleaning to)
    pub stands : At more (between_moves to)
    pub between : IsBetween config more

  pub reached_stands : (told : List Heard) (more : List Entry) (c : Control) → IsBetween config past → IsReached config past (at_slot 0 0 false) told more c → IsRun config more → HasArrived more c
  reached_stands [] more c between reached run = record {
    to = evicting 0 0 false;
    is = reached.1;
    stands = record { rest = []; whole = reached.0; stands = refl };
    between = subst (IsBetween config) (sym reached.0) between;
  }
  reached_stands (heard ∷ told) more c between reached run =
      let earlier = reached.earlier_past in
      let before = reached_stands told earlier reached.earlier_control between reached.before
      (run_grown config earlier more (move_grows config earlier reached.earlier_control heard more c reached.move) run) in
      let move = subst (λ (d : Control). IsMove config earlier d heard more c) before.is reached.move in
      let after = move_made earlier before.to heard more c before.between before.stands move in
      record {
        to = after.to;
        is = after.is;
        stands = after.stands;
        between = moves_between config earlier (control (cleaning before.to)) heard more c before.between (cleaning_fits config earlier before.to) move run;
      }

  -- ---- entries in front of others that lead underway do so themselves
  front_some : (later rest : List Entry) (u : Underway) → underway_after config past (later ++ rest) ≡ Some u → IsSome (underway_after config past rest)
  front_some [] rest u is = ap is_some is
  front_some (e ∷ later) rest u is = by (underway_after config past (later ++ rest)) (front_some later rest) is
    where
      by : (o : Option Underway) → ((v : Underway) → o ≡ Some v → IsSome (underway_after config past rest)) → step_from config ((later ++ rest) ++ past) o e ≡ Some u
          → IsSome (underway_after config past rest)
      by None front steps = absurd (none-some u steps)
      by (Some v) front steps = front v refl

  front_stands : (more : List Entry) (u : Underway) (later rest : List Entry) → At more u → more ≡ (later ++ rest) ++ past → IsSome (underway_after config past rest)
  front_stands more u later rest at whole =
      let same : at.rest ≡ later ++ rest = append_cancel_right at.rest (later ++ rest) past (sym at.whole ∙ whole) in
      front_some later rest u (ap (underway_after config past) (sym same) ∙ at.stands)

  pub first_stands : (told : List Heard) (more : List Entry) (c : Control) (later rest : List Entry) (e : Entry) → IsBetween config past → IsReached config past (at_slot 0 0 false) told more c
      → more ≡ later ++ (e ∷ (rest ++ past)) → IsRun config (rest ++ past) → IsSome (underway_after config past (e ∷ rest))
  first_stands [] more c later rest e between reached whole run =
      let longer = ap length (sym reached.0 ∙ whole) in
      let front = length-append later (e ∷ (rest ++ past)) in
      let behind = length-append rest past in
      absurd (omega (arith, longer, front, behind))
  first_stands (heard ∷ told) more c later rest e between reached whole run =
      by (λ front is. first_stands told reached.earlier_past reached.earlier_control front rest e between reached.before is run)
      (cases_lt (length reached.earlier_past) (length (e ∷ (rest ++ past))))
    where
      grown : Grows reached.earlier_past more
      grown = move_grows config reached.earlier_past reached.earlier_control heard more c reached.move

      by : ((front : List Entry) → reached.earlier_past ≡ front ++ (e ∷ (rest ++ past)) → IsSome (underway_after config past (e ∷ rest)))
          → (length reached.earlier_past < length (e ∷ (rest ++ past))) ⊎ (length (e ∷ (rest ++ past)) ≤ length reached.earlier_past) → IsSome (underway_after config past (e ∷ rest))
      by in_earlier (inl within) =
          let earlier = reached.earlier_past in
          let behind = longer_grows grown.later earlier (later ++ (e ∷ [])) (rest ++ past) (sym grown.is ∙ (whole ∙ sym (append_assoc later (e ∷ []) (rest ++ past)))) (omega (arith, within)) in
          let before = reached_stands told earlier reached.earlier_control between reached.before (run_grown config earlier (rest ++ past) behind run) in
          let after = move_made earlier before.to heard more c before.between before.stands (subst (λ (d : Control). IsMove config earlier d heard more c) before.is reached.move) in
          front_stands more (between_moves after.to) later (e ∷ rest) after.stands (whole ∙ sym (append_assoc later (e ∷ rest) past))
      by in_earlier (inr before) =
          let longer = longer_grows later (e ∷ (rest ++ past)) grown.later reached.earlier_past (sym whole ∙ grown.is) before in
          in_earlier longer.later longer.is
