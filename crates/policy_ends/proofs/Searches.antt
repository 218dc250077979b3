-- The slots that have a shared page, in their order: what the search for the next one has passed.
use Rattle.std.proofs.Common.{◌≡◌, ◌⊎◌, inl, inr, ℕ, zero, suc, ◌+◌, ◌-◌, ◌<◌, ◌≤◌, ◌&&◌, Bool, true, false, cond, Option, Some, None, find, length, nat_le, nat_lt, refl, sym, ap, ◌∙◌, subst, arith}
use Rattle.std.specs.List.{range_with_len}
use Rattle.std.proofs.lemmas.Bool.{and_parts, cases_eq, false≢true, le-leb, ltb-false, ltb-true}
use Rattle.std.proofs.lemmas.Option.{none-some, same_Some, slice_get_past}
use Rattle.vm_types.specs.declared.config.Config.{Config}
use Rattle.pager_policy.specs.Given.{seen_in, slots_of}
use Rattle.pager_model.specs.Lookups.{passes, slot_of}
use Rattle.pager_model.specs.Pager.{Pager}
use Rattle.pager_policy.specs.Rundown.{Place, is_shared_at, place_in, shared_from, shared_of_processes, shared_place}
use Rattle.pager_policy.specs.Swap.{is_shared_seen}
use Rattle.pager_rules.proofs.Lists.{found_passes}
use Rattle.policy_ends.specs.Clean.{IsEarlier}

-- ---- a search through a range
find_none : (t : ℕ → Bool) (s n : ℕ) → find t (range_with_len s n) ≡ None → (m : ℕ) → s ≤ m → m < s + n → t m ≡ false
find_none t s zero is m low high = absurd (omega arith)
find_none t s (suc n) is m low high = go (t s) refl is (find_none t (s + 1) n)
  where
    go : (b : Bool) → t s ≡ b → cond b (Some s) (find t (range_with_len (s + 1) n)) ≡ None
        → (find t (range_with_len (s + 1) n) ≡ None → (k : ℕ) → s + 1 ≤ k → k < s + 1 + n → t k ≡ false) → t m ≡ false
    go true passes is rest = absurd (none-some s (sym is))
    go false fails is rest = by (cases_eq s m)
      where
        by : (s ≡ m) ⊎ (s ≡ m → ⊥) → t m ≡ false
        by (inl same) = ap t (sym same) ∙ fails
        by (inr apart) = rest is m (omega (arith, low, apart)) (omega (arith, high))

find_first : (t : ℕ → Bool) (s n q : ℕ) → find t (range_with_len s n) ≡ Some q → (m : ℕ) → s ≤ m → m < q → t m ≡ false
find_first t s zero q is m low less = absurd (none-some q is)
find_first t s (suc n) q is m low less = go (t s) refl is (find_first t (s + 1) n q)
  where
    go : (b : Bool) → t s ≡ b → cond b (Some s) (find t (range_with_len (s + 1) n)) ≡ Some q
        → (find t (range_with_len (s + 1) n) ≡ Some q → (k : ℕ) → s + 1 ≤ k → k < q → t k ≡ false) → t m ≡ false
    go true passes is rest = absurd (let same = same_Some s q is in omega (arith, same, low, less))
    go false fails is rest = by (cases_eq s m)
      where
        by : (s ≡ m) ⊎ (s ≡ m → ⊥) → t m ≡ false
        by (inl same) = ap t (sym same) ∙ fails
        by (inr apart) = rest is m (omega (arith, low, apart)) less

second_fails : (b c : Bool) → b ≡ true → (b && c) ≡ false → c ≡ false
second_fails true c is none = none
second_fails false c is none = absurd (false≢true is)

compare : (q p : ℕ) → (q < p) ⊎ ((q ≡ p) ⊎ (p < q))
compare q p = by (nat_lt q p) refl
  where
    by : (b : Bool) → nat_lt q p ≡ b → (q < p) ⊎ ((q ≡ p) ⊎ (p < q))
    by true is = inl (ltb-true q p is)
    by false is = go (cases_eq q p)
      where
        go : (q ≡ p) ⊎ (q ≡ p → ⊥) → (q < p) ⊎ ((q ≡ p) ⊎ (p < q))
        go (inl same) = inr (inl same)
        go (inr apart) = inr (inr (let least = ltb-false q p is in omega (arith, least, apart)))

pub or_later : (m n : ℕ) → (m < n) ⊎ (n ≤ m)
or_later m n = by (nat_lt m n) refl
  where
    by : (b : Bool) → nat_lt m n ≡ b → (m < n) ⊎ (n ≤ m)
    by true is = inl (ltb-true m n is)
    by false is = inr (ltb-false m n is)

module _ (a : Pager) where
  -- ---- the slots of a process
  pub beyond : (p m : ℕ) → length (a.ring p).slots ≤ m → is_shared_at a p m ≡ false
  beyond p m past = ap (λ o. passes is_shared_seen (seen_in a p (slot_of o))) (slice_get_past (a.ring p).slots m past)

  abbrev in_question : ℕ → ℕ → ℕ → Bool
  in_question p n m = nat_le n m && is_shared_at a p m

  slot_none : (p n : ℕ) → shared_from a p n ≡ None → (m : ℕ) → n ≤ m → is_shared_at a p m ≡ false
  slot_none p n is m low = by (or_later m (length (a.ring p).slots))
    where
      by : (m < length (a.ring p).slots) ⊎ (length (a.ring p).slots ≤ m) → is_shared_at a p m ≡ false
      by (inl less) = second_fails (nat_le n m) (is_shared_at a p m) (le-leb n m low) (find_none (in_question p n) 0 (length (a.ring p).slots) is m (omega arith) (omega (arith, less)))
      by (inr past) = beyond p m past

  slot_first : (p n k : ℕ) → shared_from a p n ≡ Some k → (m : ℕ) → n ≤ m → m < k → is_shared_at a p m ≡ false
  slot_first p n k is m low less = second_fails (nat_le n m) (is_shared_at a p m) (le-leb n m low) (find_first (in_question p n) 0 (length (a.ring p).slots) k is m (omega arith) less)

  slot_there : (p n k : ℕ) → shared_from a p n ≡ Some k → is_shared_at a p k ≡ true
  slot_there p n k is = (and_parts (nat_le n k) (is_shared_at a p k) (found_passes (in_question p n) (slots_of a p) k is)).1

  -- ---- of processes from one on
  processes_none : (q k : ℕ) → shared_of_processes a (range_with_len q k) ≡ None → (p m : ℕ) → q ≤ p → p < q + k → is_shared_at a p m ≡ false
  processes_none q zero is p m low high = absurd (omega arith)
  processes_none q (suc k) is p m low high = go (shared_from a q 0) refl is (processes_none (q + 1) k)
    where
      go : (o : Option ℕ) → shared_from a q 0 ≡ o → place_in q o (shared_of_processes a (range_with_len (q + 1) k)) ≡ None
          → (shared_of_processes a (range_with_len (q + 1) k) ≡ None → (r s : ℕ) → q + 1 ≤ r → r < q + 1 + k → is_shared_at a r s ≡ false) → is_shared_at a p m ≡ false
      go (Some n) found is rest = absurd (none-some _ (sym is))
      go None found is rest = by (cases_eq q p)
        where
          by : (q ≡ p) ⊎ (q ≡ p → ⊥) → is_shared_at a p m ≡ false
          by (inl same) = subst (λ (r : ℕ). is_shared_at a r m ≡ false) same (slot_none q 0 found m (omega arith))
          by (inr apart) = rest is p m (omega (arith, low, apart)) (omega (arith, high))

  -- the first one of those from a process on
  pub record IsFirst (q : ℕ) (at : Place) : Type 0 where
    pub there : is_shared_at a at.process at.slot ≡ true
    pub before : (p m : ℕ) → q ≤ p → IsEarlier p m at.process at.slot → is_shared_at a p m ≡ false

  first_here : (q n : ℕ) (at : Place) → shared_from a q 0 ≡ Some n → record { process = q; slot = n } ≡ at → IsFirst q at
  first_here q n at found same = subst (IsFirst q) same (record { there = slot_there q 0 n found; before = before })
    where
      before : (p m : ℕ) → q ≤ p → IsEarlier p m q n → is_shared_at a p m ≡ false
      before p m low (inl less) = absurd (omega (arith, low, less))
      before p m low (inr (same, less)) = subst (λ (r : ℕ). is_shared_at a r m ≡ false) (sym same) (slot_first q 0 n found m (omega arith) less)

  first_later : (q : ℕ) (at : Place) → shared_from a q 0 ≡ None → IsFirst (q + 1) at → IsFirst q at
  first_later q at none first = record { there = first.there; before = before }
    where
      before : (p m : ℕ) → q ≤ p → IsEarlier p m at.process at.slot → is_shared_at a p m ≡ false
      before p m low earlier = by (cases_eq q p)
        where
          by : (q ≡ p) ⊎ (q ≡ p → ⊥) → is_shared_at a p m ≡ false
          by (inl same) = subst (λ (r : ℕ). is_shared_at a r m ≡ false) same (slot_none q 0 none m (omega arith))
          by (inr apart) = first.before p m (omega (arith, low, apart)) earlier

  processes_first : (q k : ℕ) (at : Place) → shared_of_processes a (range_with_len q k) ≡ Some at → IsFirst q at
  processes_first q zero at is = absurd (none-some at is)
  processes_first q (suc k) at is = go (shared_from a q 0) refl is (processes_first (q + 1) k at)
    where
      go : (o : Option ℕ) → shared_from a q 0 ≡ o → place_in q o (shared_of_processes a (range_with_len (q + 1) k)) ≡ Some at
          → (shared_of_processes a (range_with_len (q + 1) k) ≡ Some at → IsFirst (q + 1) at) → IsFirst q at
      go (Some n) found is rest = first_here q n at found (same_Some _ at is)
      go None found is rest = first_later q at found (rest is)

  -- ---- from a place on: what each slot before it has, and each one without a shared page
  module _ (config : Config) (p n : ℕ) (P : ℕ → ℕ → Type 0) (unshared : (q m : ℕ) → is_shared_at a q m ≡ false → P q m) (before : (q m : ℕ) → IsEarlier q m p n → P q m) where
    abbrev others : Option Place
    others = shared_of_processes a (range_with_len (p + 1) (length config.procs - (p + 1)))

    at_process : (q m : ℕ) → q ≡ p → is_shared_at a p m ≡ false → P q m
    at_process q m same none = unshared q m (subst (λ (r : ℕ). is_shared_at a r m ≡ false) (sym same) none)

    pub all_passed : ((q m : ℕ) → length config.procs ≤ q → is_shared_at a q m ≡ false) → shared_place config a p n ≡ None → (q m : ℕ) → P q m
    all_passed absent is q m = go (shared_from a p n) refl is
      where
        go : (o : Option ℕ) → shared_from a p n ≡ o → place_in p o others ≡ None → P q m
        go (Some k) found is = absurd (none-some _ (sym is))
        go None found is = by (compare q p)
          where
            here : q ≡ p → (m < n) ⊎ (n ≤ m) → P q m
            here same (inl less) = before q m (inr (same, less))
            here same (inr least) = at_process q m same (slot_none p n found m least)

            later : p < q → (q < length config.procs) ⊎ (length config.procs ≤ q) → P q m
            later more (inl less) = unshared q m (processes_none (p + 1) (length config.procs - (p + 1)) is q m (omega (arith, more)) (omega (arith, more, less)))
            later more (inr least) = unshared q m (absent q m least)

            by : (q < p) ⊎ ((q ≡ p) ⊎ (p < q)) → P q m
            by (inl less) = before q m (inl less)
            by (inr (inl same)) = here same (or_later m n)
            by (inr (inr more)) = later more (or_later q (length config.procs))

    pub next_place : (at : Place) → shared_place config a p n ≡ Some at → (is_shared_at a at.process at.slot ≡ true) × ((q m : ℕ) → IsEarlier q m at.process at.slot → P q m)
    next_place at is = go (shared_from a p n) refl is
      where
        within : (k : ℕ) → ((m : ℕ) → n ≤ m → m < k → is_shared_at a p m ≡ false) → (q m : ℕ) → IsEarlier q m p k → P q m
        within k rest q m (inl less) = before q m (inl less)
        within k rest q m (inr (same, less)) = by (or_later m n)
          where
            by : (m < n) ⊎ (n ≤ m) → P q m
            by (inl small) = before q m (inr (same, small))
            by (inr least) = at_process q m same (rest m least less)

        further : shared_from a p n ≡ None → IsFirst (p + 1) at → (q m : ℕ) → IsEarlier q m at.process at.slot → P q m
        further none first q m earlier = by (compare q p)
          where
            here : q ≡ p → (m < n) ⊎ (n ≤ m) → P q m
            here same (inl less) = before q m (inr (same, less))
            here same (inr least) = at_process q m same (slot_none p n none m least)

            by : (q < p) ⊎ ((q ≡ p) ⊎ (p < q)) → P q m
            by (inl less) = before q m (inl less)
            by (inr (inl same)) = here same (or_later m n)
            by (inr (inr more)) = unshared q m (first.before q m (omega (arith, more)) earlier)

        go : (o : Option ℕ) → shared_from a p n ≡ o → place_in p o others ≡ Some at → (is_shared_at a at.process at.slot ≡ true) × ((q m : ℕ) → IsEarlier q m at.process at.slot → P q m)
        go (Some k) found is =
            subst (λ (x : Place). (is_shared_at a x.process x.slot ≡ true) × ((q m : ℕ) → IsEarlier q m x.process x.slot → P q m)) (same_Some (record { process = p; slot = k }) at is)
            (slot_there p n k found, within k (slot_first p n k found))
        go None found is = let first = processes_first (p + 1) (length config.procs - (p + 1)) at is in (first.there, further found first)
