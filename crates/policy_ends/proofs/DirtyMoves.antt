-- The rundown's moves: each keeps that what it has passed is marked, and that the failed frames of a round come last on the
-- modified list; and what is so where there is no move.
use Rattle.std.proofs.Common.{◌≡◌, ◌⊎◌, inl, inr, ℕ, zero, suc, ◌+◌, ◌-◌, ◌<◌, ◌≤◌, Bool, true, false, cond, not, List, [], ◌∷◌, Option, Some, None, length, nat_lt, refl, sym, ap, ◌∙◌, subst, arith}
use Rattle.std.proofs.lemmas.Bool.{false≢true, ltb-false, ltb-true, not-false}
use Rattle.vm_types.specs.declared.config.Config.{Config}
use Rattle.vm_journal.specs.declared.entry.Entry.{Entry}
use Rattle.vm_journal.specs.declared.entry.EvictWhy.TheVariants as evict
use Rattle.vm_journal.specs.declared.entry.What.{What}
use Rattle.pager_policy.specs.Cleaning.{Cleaning, evicting, rounds}
use Rattle.pager_policy.specs.Given.{Seen, by_seat, eviction, goes_to, is_stopped, made_by, seen_at}
use Rattle.pager_model.specs.Lookups.{passes}
use Rattle.pager_policy.specs.Landings.{all_bad, first_bad, landed_by}
use Rattle.pager_model.specs.Flights.{carrier_of}
use Rattle.pager_policy.specs.Moves.{Control, Move, carries, cleaning, control, goes, makes, rests}
use Rattle.pager_model.specs.Pager.{Pager}
use Rattle.pager_model.specs.Run.{IsRun, pager_after}
use Rattle.pager_policy.specs.Rundown.{Place, at_slot, clean_move, cleaning_move, is_shared_at, is_shared_listed, later_move, next_round, place_move, round_move, rounds_move, shared_place, writer_of, written_for_need}
use Rattle.pager_policy.specs.Serial.{Heard, IsMade}
use Rattle.pager_policy.specs.Swap.{is_shared_seen}
use Rattle.call_laws.proofs.WaitsLegal.{is_seen}
use Rattle.serial_laws.specs.Between.{IsBetween}
use Rattle.policy_ends.proofs.Beyond.{beyond_all}
use Rattle.policy_ends.proofs.CleanMoves.{absent, is_rest}
use Rattle.policy_ends.proofs.Clusters.{AreListOuts, need_outs}
use Rattle.policy_ends.proofs.FailedWrites.{AreMarked, AreTried, since_one}
use Rattle.policy_ends.proofs.Passed.{AllMarked, IsMarkedAt, MarkedBefore, evicted_marked, still_marked, stopped_before, unshared_marked}
use Rattle.policy_ends.proofs.Searches.{all_passed, next_place}
use Rattle.policy_ends.proofs.WrittenClusters.{WritesTo, cluster_written}

-- at a slot each one before it is marked; in the rounds each slot is, and each frame on the modified list but those
-- that the round has left has failed
abbrev pub IsPassed : ℕ → List Entry → Pager → Cleaning → Type 0
IsPassed start past a (evicting p n failed) = MarkedBefore a p n
IsPassed start past a (rounds following left) = AllMarked a × AreTried start past a left

pub record IsPassedAt (start : ℕ) (past : List Entry) (a : Pager) (c : Control) : Type 0 where
  pub at : Cleaning
  pub is : c ≡ control (cleaning at)
  pub passed : IsPassed start past a at
  pub marked : AreMarked start past a

-- where it rests, no shared page is on the modified list, or each frame on it has failed
pub record IsAtRest (start : ℕ) (past : List Entry) (a : Pager) : Type 0 where
  pub slots : AllMarked a
  pub marked : AreMarked start past a
  pub listed : (is_shared_listed a ≡ false) ⊎ AreTried start past a 0

module _ (config : Config) (start : ℕ) (past : List Entry) (between : IsBetween config past) (within : start ≤ length past) (marked : AreMarked start past (pager_after config past)) where
  abbrev a : Pager
  a = pager_after config past

  -- each way to make this move keeps what was passed; and where there is none, it rests so
  pub record MovePasses (m : Move) : Type 0 where
    pub keeps : (heard : Heard) (more : List Entry) (next : Control) → IsMade config past heard more next m → IsRun config more → IsPassedAt start more (pager_after config more) next × (length past ≤ length more)
    pub over : m ≡ rests → IsAtRest start past a

  either : (b : Bool) (x y : Move) → (b ≡ true → MovePasses x) → (b ≡ false → MovePasses y) → MovePasses (cond b x y)
  either true x y first second = first refl
  either false x y first second = second refl

  resting : IsAtRest start past a → MovePasses rests
  resting at = record { keeps = λ heard more next made run. absurd made; over = λ is. at }

  -- ---- a cluster
  cluster : (ws : List What) → AreListOuts ws → (to : Bool → Bool → Cleaning)
      → ((more : List Entry) → WritesTo config start past more (length ws) → (all first : Bool) → IsPassed start more (pager_after config more) (to all first))
      → MovePasses (carries (writer_of config) ws (λ (all first : Bool). goes (control (cleaning (to all first)))))
  cluster ws outs to passed = record {
    keeps = λ heard more next made run.
        let begun : List Entry = made_by (writer_of config) ws past in
        let landed : List Entry = landed_by config (writer_of config) (carrier_of (writer_of config) begun) heard.outcomes begun in
        let written : WritesTo config start past landed (length ws) = cluster_written config start (writer_of config) ws heard.outcomes past between.formed within between.landed outs (subst (IsRun config) made.on.0 run) in
        subst (λ (xs : List Entry). IsPassedAt start xs (pager_after config xs) next × (length past ≤ length xs)) (sym made.on.0) (
          record {
            at = to (all_bad heard.outcomes) (first_bad heard.outcomes);
            is = made.on.1;
            passed = passed landed written (all_bad heard.outcomes) (first_bad heard.outcomes);
            marked = written.failed marked;
          },
          written.longer,
        );
    over = λ is. absurd (false≢true (ap is_rest is));
  }

  need_cluster : (to : Bool → Bool → Cleaning) → ((more : List Entry) → WritesTo config start past more (length (written_for_need config a)) → (all first : Bool) → IsPassed start more (pager_after config more) (to all first))
      → MovePasses (carries (writer_of config) (written_for_need config a) (λ (all first : Bool). goes (control (cleaning (to all first)))))
  need_cluster = cluster (written_for_need config a) (need_outs config past between.formed between.run)

  written_marked : (more : List Entry) (writes : ℕ) → WritesTo config start past more writes → (q m : ℕ) → IsMarkedAt a q m → IsMarkedAt (pager_after config more) q m
  written_marked more writes written = still_marked a (pager_after config more) written.still written.marks

  -- ---- the two rounds
  round_passes : (following left : ℕ) → AllMarked a → AreTried start past a left → MovePasses (round_move config a following left)
  round_passes following left slots tried =
      need_cluster (λ (all first : Bool). rounds following (left - length (written_for_need config a)))
      (λ more written all first. (λ q m. written_marked more _ written q m (slots q m), written.tried left (left - length (written_for_need config a)) (omega arith) tried))

  next_passes : (following : ℕ) → AllMarked a → (following ≡ 0 → AreTried start past a 0) → MovePasses (next_round config a following)
  next_passes zero slots tried = resting (record { slots = slots; marked = marked; listed = inr (tried refl) })
  next_passes (suc following) slots tried = round_passes following (length a.modified) slots (beyond_all _ (length a.modified) a.modified (omega arith))

  rounds_pass : (following left : ℕ) → AllMarked a → AreTried start past a left ⊎ (0 < following) × (left ≡ 0) → MovePasses (rounds_move config a following left)
  rounds_pass following left slots fits =
      either (is_shared_listed a) _ _
      (λ listed. either (nat_lt 0 left) _ _ (λ some. round_passes following left slots (in_round fits (ltb-true 0 left some))) (λ over. next_passes following slots (in_last fits (ltb-false 0 left over))))
      (λ unlisted. resting (record { slots = slots; marked = marked; listed = inl unlisted }))
    where
      in_round : AreTried start past a left ⊎ (0 < following) × (left ≡ 0) → 0 < left → AreTried start past a left
      in_round (inl tried) some = tried
      in_round (inr (more, none_left)) some = absurd (omega (arith, none_left, some))

      in_last : AreTried start past a left ⊎ (0 < following) × (left ≡ 0) → left ≤ 0 → following ≡ 0 → AreTried start past a 0
      in_last (inl tried) over none = let none_left : left ≡ 0 = omega (arith, over) in subst (AreTried start past a) none_left tried
      in_last (inr (more, none_left)) over none = absurd (omega (arith, more, none))

  -- ---- the slots
  module _ (at : Place) (there : is_shared_at a at.process at.slot ≡ true) (before : MarkedBefore a at.process at.slot) where
    evict_passes : (s : Seen) → seen_at a at.process at.slot ≡ Some s → MovePasses (makes (writer_of config) (eviction past a at.process s.vpn s.frame evict.Rundown ∷ []) (at_slot at.process (at.slot + 1) false))
    evict_passes s is = record {
      keeps = λ heard more next made run.
          subst (λ (xs : List Entry). IsPassedAt start xs (pager_after config xs) next × (length past ≤ length xs)) (sym made.0) (
            record {
              at = evicting at.process (at.slot + 1) false;
              is = made.1;
              passed = evicted_marked a at.process at.slot s (goes_to past a s.frame) (is_seen a at.process at.slot s is) before;
              marked = λ f failed. marked f (sym (since_one start (by_seat (writer_of config) (eviction past a at.process s.vpn s.frame evict.Rundown)) past f within) ∙ failed);
            },
            omega arith,
          );
      over = λ is. absurd (false≢true (ap is_rest is));
    }

    seen_passes : (failed : Bool) (later : Move) → (failed ≡ true → MarkedBefore a at.process (at.slot + 1) → MovePasses later) → (o : Option Seen) → seen_at a at.process at.slot ≡ o → MovePasses (clean_move config past a at failed later o)
    seen_passes failed later goes_on None is = absurd (false≢true (sym (ap (passes is_shared_seen) is) ∙ there))
    seen_passes failed later goes_on (Some s) is =
        either (not (is_stopped config past a s.frame)) _ _
        (λ free. evict_passes s is)
        (λ stopped. either failed _ _
        (λ bad. goes_on bad (stopped_before config past a at.process at.slot s is (not-false _ stopped) before))
        (λ good. need_cluster (λ (all first : Bool). evicting at.process at.slot all) (λ more written all first q m earlier. written_marked more _ written q m (before q m earlier))))

  place_passes : (p n : ℕ) (failed : Bool) (later : Place → Move) → MarkedBefore a p n → (failed ≡ true → (at : Place) → MarkedBefore a at.process (at.slot + 1) → MovePasses (later at))
      → (o : Option Place) → shared_place config a p n ≡ o → MovePasses (place_move config past a failed later o)
  place_passes p n failed later before goes_on None is =
      rounds_pass 2 0 (all_passed a config p n (IsMarkedAt a) (unshared_marked a) before (absent config past between) is) (inr (omega arith, refl))
  place_passes p n failed later before goes_on (Some at) is =
      let found = next_place a config p n (IsMarkedAt a) (unshared_marked a) before at is in
      seen_passes at found.0 found.1 failed (later at) (λ bad. goes_on bad at) (seen_at a at.process at.slot) refl

  later_passes : (at : Place) → MarkedBefore a at.process (at.slot + 1) → MovePasses (later_move config past a at)
  later_passes at before =
      place_passes at.process (at.slot + 1) false (λ (next : Place). rests) before (λ bad next passed. absurd (false≢true bad)) (shared_place config a at.process (at.slot + 1)) refl

  pub cleaning_passes : (at : Cleaning) → IsPassed start past a at → MovePasses (cleaning_move config past a at)
  cleaning_passes (evicting p n failed) passed = place_passes p n failed (later_move config past a) passed (λ bad at before. later_passes at before) (shared_place config a p n) refl
  cleaning_passes (rounds following left) passed = rounds_pass following left passed.0 (inl passed.1)
