-- The rundown's moves: each keeps what the rundown has cleaned, if none of its transfers failed, and where there is no
-- move it is over.
use Rattle.std.proofs.Common.{◌≡◌, ◌⊎◌, inl, inr, ℕ, zero, suc, ◌+◌, ◌-◌, ◌<◌, ◌≤◌, Bool, true, false, cond, not, List, [], ◌∷◌, Option, Some, None, length, nat_lt, refl, sym, ap, ◌∙◌, subst, arith}
use Rattle.std.specs.List.{AllByRecursion, list_any}
use Rattle.std.proofs.lemmas.Bool.{false≢true, ltb-false, ltb-true, not-false}
use Rattle.std.proofs.lemmas.Option.{slice_get_past}
use Rattle.vm_types.specs.declared.config.Config.{Config}
use Rattle.vm_journal.specs.declared.entry.Entry.{Entry}
use Rattle.vm_journal.specs.declared.entry.EvictWhy.TheVariants as evict
use Rattle.vm_journal.specs.declared.entry.What.{What}
use Rattle.pager_model.specs.Around.{past_view}
use Rattle.pager_policy.specs.Cleaning.{Cleaning, evicting, rounds}
use Rattle.pager_model.specs.Flights.{Flight, carrier_of}
use Rattle.pager_policy.specs.Given.{Seen, eviction, goes_to, is_stopped, made_by, seen_at}
use Rattle.pager_model.specs.Lookups.{passes}
use Rattle.pager_policy.specs.Landings.{Outcome, all_bad, first_bad, landed_by}
use Rattle.pager_policy.specs.Moves.{Control, Move, carries, cleaning, control, goes, makes, rests}
use Rattle.pager_model.specs.Pager.{Pager}
use Rattle.pager_model.specs.Run.{IsRun, pager_after}
use Rattle.pager_policy.specs.Rundown.{Place, at_slot, clean_move, cleaning_move, holds_shared, is_shared_at, is_shared_listed, later_move, next_round, place_move, round_move, rounds_move, shared_place, writer_of, written_for_need}
use Rattle.pager_policy.specs.Serial.{Heard, IsMade}
use Rattle.pager_policy.specs.Swap.{is_shared_seen}
use Rattle.pager_rules.specs.Kept.{IsKept}
use Rattle.pager_laws.proofs.RunsAreSound.{run_kept}
use Rattle.call_laws.proofs.WaitsLegal.{is_seen}
use Rattle.serial_laws.specs.Between.{IsBetween}
use Rattle.serial_laws.proofs.Begins.{IsWriting, need_writing, stopped_some}
use Rattle.serial_laws.proofs.Writes.{carrying_writes}
use Rattle.policy_ends.proofs.WriteCarriers.{run_landed}
use Rattle.policy_ends.proofs.WriteSteps.{IsClear}
use Rattle.policy_ends.specs.Clean.{IsClean, IsCleanAt, NoneSharedLeft, NoneBefore, NoneShared, failures}
use Rattle.policy_ends.proofs.Clusters.{AreListOuts, HasBegun, HasLandedWell, IsStill, landed_well, need_outs, shared_still, still_then, writes_begun}
use Rattle.policy_ends.proofs.Evictions.{evicted_clean}
use Rattle.policy_ends.proofs.Searches.{all_passed, beyond, next_place}
use Rattle.policy_ends.proofs.Unfailed.{more_made, not_all_bad}

any_some : (t : ℕ → Bool) (xs : List ℕ) → list_any t xs ≡ true → 0 < length xs
any_some t [] is = absurd (false≢true is)
any_some t (x ∷ xs) is = omega arith

abbrev pub is_rest : Move → Bool
is_rest rests = true
is_rest other = false

record HasCarrier (seat : ℕ) (past : List Entry) : Type 0 where
  pub first : Flight
  pub more : List Flight
  pub carrier : carrier_of seat past ≡ first ∷ more

module _ (config : Config) (past : List Entry) (between : IsBetween config past) where
  abbrev a : Pager
  a = pager_after config past

  kept : IsKept config (past_view past) a
  kept = run_kept config past between.formed between.run

  -- each way to make this move keeps what was cleaned; and where there is none, it is over
  pub record MoveCleans (m : Move) : Type 0 where
    pub keeps : (heard : Heard) (more : List Entry) (next : Control) → IsMade config past heard more next m → IsRun config more → failures more ≤ failures past → IsCleanAt (pager_after config more) next
    pub over : m ≡ rests → NoneSharedLeft a

  either : (b : Bool) (x y : Move) → (b ≡ true → MoveCleans x) → (b ≡ false → MoveCleans y) → MoveCleans (cond b x y)
  either true x y first second = first refl
  either false x y first second = second refl

  resting : NoneSharedLeft a → MoveCleans rests
  resting over = record { keeps = λ heard more next made run none. absurd made; over = λ is. over }

  -- ---- a cluster
  module _ (ws : List What) (w : IsWriting ws) (outs : AreListOuts ws) where
    abbrev begun : List Entry
    begun = made_by (writer_of config) ws past

    has_carrier : HasCarrier (writer_of config) begun
    has_carrier =
        subst (λ (xs : List What). HasCarrier (writer_of config) (made_by (writer_of config) xs past)) (sym w.is)
        (let c = carrying_writes config past (writer_of config) between.landed w.frame w.to w.rest w.writes in record { first = c.first; more = c.more; carrier = c.carrier })

    module _ (outcomes : List Outcome) (each : length outcomes ≡ length (carrier_of (writer_of config) begun))
        (run : IsRun config (landed_by config (writer_of config) (carrier_of (writer_of config) begun) outcomes begun))
        (none : failures (landed_by config (writer_of config) (carrier_of (writer_of config) begun) outcomes begun) ≤ failures past) where
      abbrev landed : List Entry
      landed = landed_by config (writer_of config) (carrier_of (writer_of config) begun) outcomes begun

      none_since : failures (landed_by config (writer_of config) (carrier_of (writer_of config) begun) outcomes begun) ≤ failures begun
      none_since = omega (arith, none, more_made (writer_of config) ws past)

      first : HasBegun config past begun (length ws)
      first = writes_begun config (writer_of config) ws past between.formed (subst (AllByRecursion (IsClear a)) (sym between.landed) tt) outs (run_landed config (writer_of config) (carrier_of (writer_of config) begun) outcomes begun run)

      rest : HasLandedWell config begun landed
      rest = landed_well config (writer_of config) (carrier_of (writer_of config) begun) outcomes begun first.clear run none_since

      cluster_still : IsStill a (pager_after config landed)
      cluster_still = still_then a (pager_after config begun) (pager_after config landed) first.still rest.still

      cluster_shorter : length (pager_after config landed).modified + length ws ≤ length a.modified
      cluster_shorter = let same = ap length rest.same in let shorter = first.shorter in omega (arith, same, shorter)

      not_all : all_bad outcomes ≡ false
      not_all =
          not_all_bad config (writer_of config) has_carrier.first has_carrier.more outcomes begun (each ∙ ap length has_carrier.carrier)
          (subst (λ (xs : List Flight). failures (landed_by config (writer_of config) xs outcomes begun) ≤ failures begun) has_carrier.carrier none_since)

    cluster : (to : Bool → Bool → Cleaning) → ((b : Pager) → IsStill a b → length b.modified + length ws ≤ length a.modified → (first : Bool) → IsClean b (to false first))
        → MoveCleans (carries (writer_of config) ws (λ (all first : Bool). goes (control (cleaning (to all first)))))
    cluster to clean = record {
      keeps = λ heard more next made run none.
          let ran = subst (IsRun config) made.on.0 run in
          let fewer = subst (λ (xs : List Entry). failures xs ≤ failures past) made.on.0 none in
          record {
            at = to (all_bad heard.outcomes) (first_bad heard.outcomes);
            is = made.on.1;
            clean =
                subst (λ (xs : List Entry). IsClean (pager_after config xs) (to (all_bad heard.outcomes) (first_bad heard.outcomes))) (sym made.on.0)
                (subst (λ (all : Bool). IsClean (pager_after config (landed heard.outcomes made.each ran fewer)) (to all (first_bad heard.outcomes))) (sym (not_all heard.outcomes made.each ran fewer))
                (clean (pager_after config (landed heard.outcomes made.each ran fewer)) (cluster_still heard.outcomes made.each ran fewer) (cluster_shorter heard.outcomes made.each ran fewer) (first_bad heard.outcomes)));
          };
      over = λ is. absurd (false≢true (ap is_rest is));
    }

  -- ---- the two rounds
  round_cleans : (following left : ℕ) → NoneShared a → is_shared_listed a ≡ true → length a.modified ≤ left → MoveCleans (round_move config a following left)
  round_cleans following left none listed least =
      cluster (written_for_need config a) (need_writing config past between (any_some (λ (f : ℕ). holds_shared (a.page f)) a.modified listed)) (need_outs config past between.formed between.run)
      (λ (all first : Bool). rounds following (left - length (written_for_need config a)))
      (λ b still shorter first. (λ q m. shared_still a b still q m ∙ none q m, omega (arith, shorter, least)))

  next_cleans : (following : ℕ) → 0 < following → NoneShared a → is_shared_listed a ≡ true → MoveCleans (next_round config a following)
  next_cleans zero some none listed = absurd (omega (arith, some))
  next_cleans (suc following) some none listed = round_cleans following (length a.modified) none listed (omega arith)

  rounds_cleans : (following left : ℕ) → NoneShared a → (length a.modified ≤ left) ⊎ (0 < following) × (left ≡ 0) → MoveCleans (rounds_move config a following left)
  rounds_cleans following left none fits =
      either (is_shared_listed a) _ _
      (λ listed. either (nat_lt 0 left) _ _ (λ some. round_cleans following left none listed (in_round fits (ltb-true 0 left some))) (λ over. by_next listed fits (ltb-false 0 left over)))
      (λ unlisted. resting (none, unlisted))
    where
      in_round : (length a.modified ≤ left) ⊎ (0 < following) × (left ≡ 0) → 0 < left → length a.modified ≤ left
      in_round (inl least) some = least
      in_round (inr (more, none_left)) some = absurd (omega (arith, none_left, some))

      by_next : is_shared_listed a ≡ true → (length a.modified ≤ left) ⊎ (0 < following) × (left ≡ 0) → left ≤ 0 → MoveCleans (next_round config a following)
      by_next listed (inl least) over = absurd (let some = any_some (λ (f : ℕ). holds_shared (a.page f)) a.modified listed in omega (arith, some, least, over))
      by_next listed (inr (more, none_left)) over = next_cleans following more none listed

  -- ---- the slots
  module _ (at : Place) (there : is_shared_at a at.process at.slot ≡ true) (before : NoneBefore a at.process at.slot) (later : Move) where
    evict_cleans : (s : Seen) → seen_at a at.process at.slot ≡ Some s → MoveCleans (makes (writer_of config) (eviction past a at.process s.vpn s.frame evict.Rundown ∷ []) (at_slot at.process (at.slot + 1) false))
    evict_cleans s is = record {
      keeps = λ heard more next made run none. record {
        at = evicting at.process (at.slot + 1) false;
        is = made.1;
        clean =
            subst (λ (xs : List Entry). IsClean (pager_after config xs) (evicting at.process (at.slot + 1) false)) (sym made.0)
            (refl, evicted_clean a at.process at.slot s (goes_to past a s.frame) (is_seen a at.process at.slot s is) before);
      };
      over = λ is. absurd (false≢true (ap is_rest is));
    }

    seen_cleans : (o : Option Seen) → seen_at a at.process at.slot ≡ o → MoveCleans (clean_move config past a at false later o)
    seen_cleans None is = absurd (false≢true (sym (ap (passes is_shared_seen) is) ∙ there))
    seen_cleans (Some s) is =
        either (not (is_stopped config past a s.frame)) _ _
        (λ free. evict_cleans s is)
        (λ stopped. cluster (written_for_need config a) (need_writing config past between (stopped_some config past between s.frame (not-false _ stopped))) (need_outs config past between.formed between.run)
        (λ (all first : Bool). evicting at.process at.slot all)
        (λ b still shorter first. (refl, λ q m earlier. shared_still a b still q m ∙ before q m earlier)))

  -- a process that isn't there has no slots
  pub absent : (q m : ℕ) → length config.procs ≤ q → is_shared_at a q m ≡ false
  absent q m least = beyond a q m (let none = ((kept.processes q).none (slice_get_past config.procs q least)).1 in omega (arith, none))

  place_cleans : (p n : ℕ) → NoneBefore a p n → (o : Option Place) → shared_place config a p n ≡ o → (later : Place → Move) → MoveCleans (place_move config past a false later o)
  place_cleans p n before None is later = rounds_cleans 2 0 (all_passed a config p n (λ q m. is_shared_at a q m ≡ false) (λ q m none. none) before absent is) (inr (omega arith, refl))
  place_cleans p n before (Some at) is later =
      let found = next_place a config p n (λ q m. is_shared_at a q m ≡ false) (λ q m none. none) before at is in
      seen_cleans at found.0 found.1 (later at) (seen_at a at.process at.slot) refl

  pub cleaning_cleans : (at : Cleaning) → IsClean a at → MoveCleans (cleaning_move config past a at)
  cleaning_cleans (evicting p n failed) clean =
      subst (λ (b : Bool). MoveCleans (place_move config past a b (later_move config past a) (shared_place config a p n))) (sym clean.0)
      (place_cleans p n clean.1 (shared_place config a p n) refl (later_move config past a))
  cleaning_cleans (rounds following left) clean = rounds_cleans following left clean.0 (inl clean.1)
