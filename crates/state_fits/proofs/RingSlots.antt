-- The ring slots of pages after one slot has changed.
use Rattle.std.proofs.Common.{◌≡◌, ◌⊎◌, inl, inr, ℕ, zero, suc, ◌<◌, Bool, true, false, cond, List, [], ◌∷◌, Option, Some, None, length, nat_lt, count_by, position, slice_get, slice_set, slice_index_or, refl, sym, ap, ◌∙◌, subst, arith, length-set}
use Rattle.std.specs.List.{position_or_len}
use Rattle.std.proofs.lemmas.Bool.{cases_eq, lt-ltb, ltb-true}
use Rattle.std.proofs.lemmas.List.Folds.{position_or_len-set}
use Rattle.std.proofs.lemmas.Option.{get_or_from_slice_get}
use Rattle.vm_types.specs.Ring.{Held, Ring}
use Rattle.vm_types.specs.declared.names.Page.{Page}
use Rattle.vm_types.specs.declared.names.Page.TheVariants.{Private, Shared}
use Rattle.pager_model.specs.Lookups.{has_vpn}
use Rattle.pager_model.specs.Maps.{proc}
use Rattle.pager_model.specs.Sets.{at_number}
use Rattle.pager_rules.proofs.Basics.{at_number_other, at_number_same, count_cons_no, count_cons_yes}
use Rattle.state_fits.specs.Frames.{or_zero, slot_for}

-- ---- the first place of a list at which something passes
position_there : {X : Type 0} (p : X → Bool) (xs : List X) (i : ℕ) (old new : X) → slice_get xs i ≡ Some old → p old ≡ false → p new ≡ false → position p (slice_set xs i new) ≡ position p xs
position_there p xs i old new e fails misses =
    let there : slice_index_or xs i old ≡ old = get_or_from_slice_get xs i old old e in
    let same = position_or_len-set p xs i new old (misses ∙ sym (ap p there ∙ fails)) in
    let long = length-set xs i new in
    rw (same, long) refl

count_first : {X : Type 0} (p : X → Bool) (x : X) (xs : List X) → count_by p (x ∷ xs) ≡ 0 → (p x ≡ false) × (count_by p xs ≡ 0)
count_first p x xs none = go (p x) refl
  where
    go : (b : Bool) → p x ≡ b → (p x ≡ false) × (count_by p xs ≡ 0)
    go true e = let more = count_cons_yes p x xs e in absurd (omega (arith, more, none))
    go false e = (e, sym (count_cons_no p x xs e) ∙ none)

first_here : {X : Type 0} (p : X → Bool) (xs : List X) (i : ℕ) (new : X) → i < length xs → count_by p xs ≡ 0 → p new ≡ true → position_or_len p (slice_set xs i new) ≡ i
first_here p [] i new below none passes = absurd (omega (arith, below))
first_here p (x ∷ xs) zero new below none passes = rw passes refl
first_here p (x ∷ xs) (suc i) new below none passes =
    let first = count_first p x xs none in
    let rest = first_here p xs i new (omega (arith, below)) first.1 passes in
    rw (first.0, rest) (omega arith)

position_here : {X : Type 0} (p : X → Bool) (xs : List X) (i : ℕ) (new : X) → i < length xs → count_by p xs ≡ 0 → p new ≡ true → position p (slice_set xs i new) ≡ Some i
position_here p xs i new below none passes =
    rw (first_here p xs i new below none passes, length-set xs i new) (ap (λ (b : Bool). cond b (Some i) None) (lt-ltb _ _ below))

nat_lt_self : (n : ℕ) → nat_lt n n ≡ false
nat_lt_self n = go (nat_lt n n) refl
  where
    go : (b : Bool) → nat_lt n n ≡ b → nat_lt n n ≡ false
    go false e = e
    go true e = let less = ltb-true n n e in absurd (omega (arith, less))

-- ---- the slot of a page
-- a slot of process p changes that neither held nor holds the page
module _ (ring : ℕ → Ring) (p : ℕ) (new : Ring) (slot : ℕ) (was now : Option Held) (there : slice_get (ring p).slots slot ≡ Some was) (is : new.slots ≡ slice_set (ring p).slots slot now) where
  own_stays : (v : ℕ) → has_vpn v was ≡ false → has_vpn v now ≡ false → or_zero (position (has_vpn v) (at_number ring p new p).slots) ≡ or_zero (position (has_vpn v) (ring p).slots)
  own_stays v gone none =
      ap (λ (r : Ring). or_zero (position (has_vpn v) r.slots)) (at_number_same ring p new)
      ∙ ap (λ (xs : List (Option Held)). or_zero (position (has_vpn v) xs)) is
      ∙ ap or_zero (position_there (has_vpn v) (ring p).slots slot was now there gone none)

  pub slot_stays : (o : Option Page) → ((v : ℕ) → o ≡ Some (Private (proc p) v) → (has_vpn v was ≡ false) × (has_vpn v now ≡ false)) → slot_for (at_number ring p new) o ≡ slot_for ring o
  slot_stays None apart = refl
  slot_stays (Some (Shared s i)) apart = refl
  slot_stays (Some (Private q v)) apart = go (cases_eq p q.0)
    where
      go : (p ≡ q.0) ⊎ (p ≡ q.0 → ⊥) → or_zero (position (has_vpn v) (at_number ring p new q.0).slots) ≡ or_zero (position (has_vpn v) (ring q.0).slots)
      go (inr other) = ap (λ (r : Ring). or_zero (position (has_vpn v) r.slots)) (at_number_other ring p new q.0 other)
      go (inl same) =
          let none = apart v (ap (λ (n : ℕ). Some (Private (proc n) v)) (sym same)) in
          subst (λ (n : ℕ). or_zero (position (has_vpn v) (at_number ring p new n).slots) ≡ or_zero (position (has_vpn v) (ring n).slots)) same (own_stays v none.0 none.1)

-- a page is put into a slot of its process's ring, which didn't hold it
pub slot_put : (ring : ℕ → Ring) (p v : ℕ) (new : Ring) (slot : ℕ) (now : Option Held) → slot < length (ring p).slots → count_by (has_vpn v) (ring p).slots ≡ 0 → has_vpn v now ≡ true
    → new.slots ≡ slice_set (ring p).slots slot now → slot_for (at_number ring p new) (Some (Private (proc p) v)) ≡ slot
slot_put ring p v new slot now within none holds is =
    ap (λ (r : Ring). or_zero (position (has_vpn v) r.slots)) (at_number_same ring p new)
    ∙ ap (λ (xs : List (Option Held)). or_zero (position (has_vpn v) xs)) is
    ∙ ap or_zero (position_here (has_vpn v) (ring p).slots slot now within none holds)

-- a page of which no slot is left has the slot 0
position_none : {X : Type 0} (p : X → Bool) (xs : List X) → count_by p xs ≡ 0 → position_or_len p xs ≡ length xs
position_none p [] none = refl
position_none p (x ∷ xs) none = let first = count_first p x xs none in rw (first.0, position_none p xs first.1) (omega arith)

pub absent : {X : Type 0} (p : X → Bool) (xs : List X) → count_by p xs ≡ 0 → position p xs ≡ None
absent p xs none = rw (position_none p xs none) (ap (λ (b : Bool). cond b (Some (length xs)) None) (nat_lt_self (length xs)))

pub slot_gone : (ring : ℕ → Ring) (p v : ℕ) (new : Ring) → count_by (has_vpn v) new.slots ≡ 0 → slot_for (at_number ring p new) (Some (Private (proc p) v)) ≡ 0
slot_gone ring p v new none =
    ap (λ (r : Ring). or_zero (position (has_vpn v) r.slots)) (at_number_same ring p new)
    ∙ ap or_zero (absent (has_vpn v) new.slots none)
