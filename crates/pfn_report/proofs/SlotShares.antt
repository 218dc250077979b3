-- The slots of a process whose entries are for a frame are as many as its valid entries for that frame.
use Rattle.std.proofs.Common.{◌≡◌, ℕ, ◌+◌, ◌<◌, ◌≤◌, Bool, true, false, cond, List, [], ◌∷◌, Option, Some, None, count_by, find, nat_eq, nat_lt, refl, sym, ap, ◌∙◌, subst, arith}
use Rattle.std.specs.Prelude.{◌&&◌, sum_by}
use Rattle.std.specs.List.{AllByRecursion}
use Rattle.std.proofs.lemmas.Bool.{and_from, eq-eqb, eqb-false, eqb-true, le-ltb, lt-ltb, ltb-false, ltb-true, ne_eqb}
use Rattle.std.proofs.lemmas.List.Sums.{sum_by-cons}
use Rattle.vm_types.specs.Ring.{Held}
use Rattle.pager_model.specs.Lookups.{entries_at, has_vpn, is_entry, shares}
use Rattle.pager_model.specs.Pager.{Valid}
use Rattle.pager_rules.proofs.Basics.{count_cons, count_cons_no, count_cons_yes, each_weaker, nat_eq_refl}
use Rattle.pfn_report.specs.Counts.{is_named, is_slot_for, shares_below}

abbrev pub one : Bool → ℕ
one b = cond b 1 0

pub same_either_way : (m n : ℕ) → nat_eq m n ≡ nat_eq n m
same_either_way m n = go (nat_eq n m) refl
  where
    go : (b : Bool) → nat_eq n m ≡ b → nat_eq m n ≡ b
    go true is = eq-eqb m n (sym (eqb-true n m is))
    go false is = ne_eqb m n (λ same. eqb-false n m is (sym same))

abbrev pub is_own_for : ℕ → ℕ → Valid → Bool
is_own_for p f e = nat_eq e.proc p && nat_eq e.frame f

-- whether the slot has the page of an entry that is for the frame
abbrev pub hits : ℕ → ℕ → Option Held → Valid → Bool
hits p f None e = false
hits p f (Some held) e = is_entry p held.vpn e && nat_eq e.frame f

-- ---- a slot, over the entries
few_hits : (p f : ℕ) (held : Held) (valid : List Valid) → count_by (hits p f (Some held)) valid ≤ entries_at valid p held.vpn
few_hits p f held [] = omega arith
few_hits p f held (e ∷ valid) =
    omega (arith, count_cons (hits p f (Some held)) e valid, count_cons (is_entry p held.vpn) e valid, less (is_entry p held.vpn e) (nat_eq e.frame f), few_hits p f held valid)
  where
    less : (a b : Bool) → one (a && b) ≤ one a
    less true true = omega arith
    less true false = omega arith
    less false b = omega arith

pub slot_hits : (p f : ℕ) (held : Held) (valid : List Valid) → entries_at valid p held.vpn ≤ 1 → count_by (hits p f (Some held)) valid ≡ one (is_slot_for valid p f (Some held))
slot_hits p f held [] once = refl
slot_hits p f held (e ∷ valid) once = go (is_entry p held.vpn e) refl (slot_hits p f held valid)
  where
    go : (b : Bool) → is_entry p held.vpn e ≡ b → (entries_at valid p held.vpn ≤ 1 → count_by (hits p f (Some held)) valid ≡ one (is_named f (find (is_entry p held.vpn) valid)))
        → count_by (hits p f (Some held)) (e ∷ valid) ≡ one (is_named f (cond b (Some e) (find (is_entry p held.vpn) valid)))
    go true is rest =
        let here = count_cons (hits p f (Some held)) e valid in
        let hit : one (hits p f (Some held) e) ≡ one (nat_eq e.frame f) = ap (λ (b : Bool). one (b && nat_eq e.frame f)) is in
        omega (arith, here, hit, few_hits p f held valid, count_cons_yes (is_entry p held.vpn) e valid is, once)
    go false is rest =
        let here = count_cons_no (hits p f (Some held)) e valid (ap (λ (b : Bool). b && nat_eq e.frame f) is) in
        here ∙ rest (omega (arith, count_cons_no (is_entry p held.vpn) e valid is, once))

slots_hit : (p f : ℕ) (valid : List Valid) → ((v : ℕ) → entries_at valid p v ≤ 1) → (slots : List (Option Held))
    → sum_by (λ (s : Option Held). count_by (hits p f s) valid) slots ≡ count_by (is_slot_for valid p f) slots
slots_hit p f valid once [] = refl
slots_hit p f valid once (s ∷ slots) =
    omega (arith, sum_by-cons (λ (s : Option Held). count_by (hits p f s) valid) s slots, count_cons (is_slot_for valid p f) s slots, at s, slots_hit p f valid once slots)
  where
    none : (xs : List Valid) → count_by (hits p f None) xs ≡ 0
    none [] = refl
    none (e ∷ xs) = count_cons_no (hits p f None) e xs refl ∙ none xs

    at : (s : Option Held) → count_by (hits p f s) valid ≡ one (is_slot_for valid p f s)
    at None = none valid
    at (Some held) = slot_hits p f held valid (once held.vpn)

-- ---- an entry, over the slots
entry_hit : (p f : ℕ) (e : Valid) (slots : List (Option Held)) → count_by (λ (s : Option Held). hits p f s e) slots ≡ cond (is_own_for p f e) (count_by (has_vpn e.vpn) slots) 0
entry_hit p f e [] = none (is_own_for p f e)
  where
    none : (b : Bool) → 0 ≡ cond {A = ℕ} b 0 0
    none true = refl
    none false = refl
entry_hit p f e (s ∷ slots) =
    omega (arith, count_cons (λ (s : Option Held). hits p f s e) s slots, step (is_own_for p f e), at s, entry_hit p f e slots)
  where
    step : (b : Bool) → cond b (count_by (has_vpn e.vpn) (s ∷ slots)) 0 ≡ cond b (one (has_vpn e.vpn s)) 0 + cond b (count_by (has_vpn e.vpn) slots) 0
    step true = count_cons (has_vpn e.vpn) s slots
    step false = refl

    by : (a b c : Bool) → one ((a && b) && c) ≡ cond (a && c) (one b) 0
    by true true true = refl
    by true true false = refl
    by true false true = refl
    by true false false = refl
    by false b c = refl

    at : (s : Option Held) → one (hits p f s e) ≡ cond (is_own_for p f e) (one (has_vpn e.vpn s)) 0
    at None = none (is_own_for p f e)
      where
        none : (b : Bool) → 0 ≡ cond {A = ℕ} b 0 0
        none true = refl
        none false = refl
    at (Some held) =
        by (nat_eq e.proc p) (nat_eq e.vpn held.vpn) (nat_eq e.frame f)
        ∙ ap (λ (b : Bool). cond (is_own_for p f e) (one b) 0) (same_either_way e.vpn held.vpn)

-- the slots that hit one more entry
one_more : (p f : ℕ) (e : Valid) (valid : List Valid) (slots : List (Option Held))
    → sum_by (λ (s : Option Held). count_by (hits p f s) (e ∷ valid)) slots ≡ count_by (λ (s : Option Held). hits p f s e) slots + sum_by (λ (s : Option Held). count_by (hits p f s) valid) slots
one_more p f e valid [] = refl
one_more p f e valid (s ∷ slots) =
    omega (
      arith,
      sum_by-cons (λ (s : Option Held). count_by (hits p f s) (e ∷ valid)) s slots,
      sum_by-cons (λ (s : Option Held). count_by (hits p f s) valid) s slots,
      count_cons (hits p f s) e valid,
      count_cons (λ (s : Option Held). hits p f s e) s slots,
      one_more p f e valid slots,
    )

-- an entry of process p has its page in one slot
abbrev InOneSlot : ℕ → List (Option Held) → Valid → Type 0
InOneSlot p slots e = e.proc ≡ p → count_by (has_vpn e.vpn) slots ≡ 1

entries_hit : (p f : ℕ) (slots : List (Option Held)) (valid : List Valid) → AllByRecursion (InOneSlot p slots) valid
    → sum_by (λ (s : Option Held). count_by (hits p f s) valid) slots ≡ count_by (is_own_for p f) valid
entries_hit p f slots [] each = none slots
  where
    none : (xs : List (Option Held)) → sum_by (λ (s : Option Held). count_by (hits p f s) []) xs ≡ 0
    none [] = refl
    none (s ∷ xs) = omega (arith, sum_by-cons (λ (s : Option Held). count_by (hits p f s) []) s xs, none xs)
entries_hit p f slots (e ∷ valid) each =
    omega (arith, one_more p f e valid slots, entry_hit p f e slots, count_cons (is_own_for p f) e valid, by (nat_eq e.proc p) (nat_eq e.frame f) refl, entries_hit p f slots valid each.1)
  where
    by : (a b : Bool) → nat_eq e.proc p ≡ a → cond {A = ℕ} (a && b) (count_by (has_vpn e.vpn) slots) 0 ≡ one (a && b)
    by true true is = each.0 (eqb-true e.proc p is)
    by true false is = refl
    by false b is = refl

-- ---- the entries are counted among themselves
counted_each : (valid sub : List Valid) → ((p v : ℕ) → entries_at sub p v ≤ entries_at valid p v) → AllByRecursion (λ (e : Valid). 0 < entries_at valid e.proc e.vpn) sub
counted_each valid [] fewer = tt
counted_each valid (e ∷ sub) fewer = (
  omega (arith, fewer e.proc e.vpn, count_cons_yes (is_entry e.proc e.vpn) e sub (and_from _ _ (nat_eq_refl e.proc) (nat_eq_refl e.vpn))),
  counted_each valid sub (λ p v. omega (arith, fewer p v, count_cons (is_entry p v) e sub)),
)

pub slots_share : (valid : List Valid) (p f : ℕ) (slots : List (Option Held)) → ((v : ℕ) → count_by (has_vpn v) slots ≡ entries_at valid p v) → ((v : ℕ) → entries_at valid p v ≤ 1)
    → count_by (is_slot_for valid p f) slots ≡ count_by (is_own_for p f) valid
slots_share valid p f slots are once =
    sym (slots_hit p f valid once slots)
    ∙ entries_hit p f slots valid (each_weaker (λ (e : Valid). 0 < entries_at valid e.proc e.vpn) (InOneSlot p slots) step valid (counted_each valid valid (λ q v. omega arith)))
  where
    step : (e : Valid) → 0 < entries_at valid e.proc e.vpn → InOneSlot p slots e
    step e some own =
        let there : 0 < entries_at valid p e.vpn = subst (λ (q : ℕ). 0 < entries_at valid q e.vpn) own some in
        omega (arith, there, are e.vpn, once e.vpn)

-- ---- the entries of the processes below a number
module _ (t : Valid → Bool) where
  -- of the entries of the processes below a number those that pass
  abbrev pub is_below : ℕ → Valid → Bool
  is_below p e = nat_lt e.proc p && t e

  abbrev pub is_own : ℕ → Valid → Bool
  is_own p e = nat_eq e.proc p && t e

  pub none_of : (valid : List Valid) → count_by (is_below 0) valid ≡ 0
  none_of [] = refl
  none_of (e ∷ valid) = count_cons_no (is_below 0) e valid (ap (λ (b : Bool). b && t e) (le-ltb e.proc 0 (omega arith))) ∙ none_of valid

  pub more_of : (valid : List Valid) (p : ℕ) → count_by (is_below (p + 1)) valid ≡ count_by (is_below p) valid + count_by (is_own p) valid
  more_of [] p = refl
  more_of (e ∷ valid) p =
      omega (arith, count_cons (is_below (p + 1)) e valid, count_cons (is_below p) e valid, count_cons (is_own p) e valid, more_of valid p, at)
    where
      both : (a b c : Bool) → nat_lt e.proc p ≡ a → nat_eq e.proc p ≡ b → nat_lt e.proc (p + 1) ≡ c → one c ≡ one a + one b
      both true true c less same is = absurd (omega (arith, ltb-true e.proc p less, eqb-true e.proc p same))
      both true false c less same is = ap one (sym is ∙ lt-ltb e.proc (p + 1) (omega (arith, ltb-true e.proc p less)))
      both false true c less same is = ap one (sym is ∙ lt-ltb e.proc (p + 1) (omega (arith, eqb-true e.proc p same)))
      both false false c less same is = ap one (sym is ∙ le-ltb e.proc (p + 1) (omega (arith, ltb-false e.proc p less, eqb-false e.proc p same)))

      with_test : (a b c d : Bool) → one c ≡ one a + one b → one (c && d) ≡ one (a && d) + one (b && d)
      with_test true true true d is = absurd (omega (arith, is))
      with_test true true false d is = absurd (omega (arith, is))
      with_test true false true true is = refl
      with_test true false true false is = refl
      with_test true false false d is = absurd (omega (arith, is))
      with_test false true true true is = refl
      with_test false true true false is = refl
      with_test false true false d is = absurd (omega (arith, is))
      with_test false false true d is = absurd (omega (arith, is))
      with_test false false false d is = refl

      at : one (nat_lt e.proc (p + 1) && t e) ≡ one (nat_lt e.proc p && t e) + one (nat_eq e.proc p && t e)
      at =
          with_test (nat_lt e.proc p) (nat_eq e.proc p) (nat_lt e.proc (p + 1)) (t e)
          (both (nat_lt e.proc p) (nat_eq e.proc p) (nat_lt e.proc (p + 1)) refl refl refl)

  pub all_of : (valid : List Valid) (n : ℕ) → AllByRecursion (λ (e : Valid). e.proc < n) valid → count_by (is_below n) valid ≡ count_by t valid
  all_of [] n each = refl
  all_of (e ∷ valid) n each =
      omega (
        arith,
        count_cons (is_below n) e valid,
        count_cons t e valid,
        ap (λ (b : Bool). one (b && t e)) (lt-ltb e.proc n each.0),
        all_of valid n each.1,
      )

  pub fewer_of : (valid : List Valid) (p : ℕ) → count_by (is_below p) valid ≤ count_by t valid
  fewer_of [] p = omega arith
  fewer_of (e ∷ valid) p =
      omega (arith, count_cons (is_below p) e valid, count_cons t e valid, less (nat_lt e.proc p) (t e), fewer_of valid p)
    where
      less : (a b : Bool) → one (a && b) ≤ one b
      less true b = omega arith
      less false true = omega arith
      less false false = omega arith

pub none_below : (valid : List Valid) (f : ℕ) → shares_below valid 0 f ≡ 0
none_below valid f = none_of (λ (e : Valid). nat_eq e.frame f) valid

pub more_below : (valid : List Valid) (p f : ℕ) → shares_below valid (p + 1) f ≡ shares_below valid p f + count_by (is_own_for p f) valid
more_below valid p f = more_of (λ (e : Valid). nat_eq e.frame f) valid p

pub all_below : (valid : List Valid) (n f : ℕ) → AllByRecursion (λ (e : Valid). e.proc < n) valid → shares_below valid n f ≡ shares valid f
all_below valid n f each = all_of (λ (e : Valid). nat_eq e.frame f) valid n each

pub fewer_below : (valid : List Valid) (p f : ℕ) → shares_below valid p f ≤ shares valid f
fewer_below valid p f = fewer_of (λ (e : Valid). nat_eq e.frame f) valid p
