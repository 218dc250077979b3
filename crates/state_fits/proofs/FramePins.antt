-- How many pins a frame has where an entry or a ring changes.
use Rattle.std.proofs.Common.{◌≡◌, ◌⊎◌, inl, inr, ℕ, ◌+◌, ◌≤◌, ◌<◌, Bool, true, false, cond, ◌&&◌, List, [], ◌∷◌, Option, Some, None, count_by, nat_eq, nat_lt, slice_get, slice_set, refl, sym, ap, ◌∙◌, subst, arith}
use Rattle.std.proofs.lemmas.Bool.{cases_eq}
use Rattle.vm_types.specs.Ring.{Held, Ring, fresh_slot}
use Rattle.pager_model.specs.Changes.{valid_at}
use Rattle.pager_model.specs.Lookups.{has_pin, pins_with, shares, slots_with}
use Rattle.pager_model.specs.Pager.{Valid}
use Rattle.pager_model.specs.Sets.{at_number}
use Rattle.pager_rules.proofs.Basics.{at_number_other, at_number_same, count_cons_no, count_cons_yes}
use Rattle.pager_rules.proofs.Lists.{count_written}
use Rattle.pager_rules.proofs.Pins.{count_less, pins_few}
use Rattle.state_fits.specs.Frames.{frame_pins, is_pin_on}
use Rattle.state_fits.proofs.EnteredFrame.{IsPut}

-- rings with the same pins
pub pins_same : (valid : List Valid) (ring ring' : ℕ → Ring) (f : ℕ) → ((p v : ℕ) → pins_with (ring' p) v ≡ pins_with (ring p) v) → frame_pins valid ring' f ≡ frame_pins valid ring f
pins_same valid ring ring' f same = λ i. count_by (λ (e : Valid). nat_eq e.frame f && nat_lt 0 (same e.proc e.vpn i)) valid

-- the ring of one process changes
pub pins_at : (ring : ℕ → Ring) (p : ℕ) (new : Ring) → ((v : ℕ) → pins_with new v ≡ pins_with (ring p) v) → (q v : ℕ) → pins_with (at_number ring p new q) v ≡ pins_with (ring q) v
pins_at ring p new same q v = go (cases_eq p q)
  where
    go : (p ≡ q) ⊎ (p ≡ q → ⊥) → pins_with (at_number ring p new q) v ≡ pins_with (ring q) v
    go (inr other) = ap (λ (r : Ring). pins_with r v) (at_number_other ring p new q other)
    go (inl is) = subst (λ (n : ℕ). pins_with (at_number ring p new n) v ≡ pins_with (ring n) v) is (ap (λ (r : Ring). pins_with r v) (at_number_same ring p new) ∙ same v)

-- a frame has no more pins than valid entries
left_true : (b c : Bool) → (b && c) ≡ true → b ≡ true
left_true true c both = refl
left_true false c both = both

pub pins_shared : (valid : List Valid) (ring : ℕ → Ring) (f : ℕ) → frame_pins valid ring f ≤ shares valid f
pins_shared valid ring f = count_less (λ (e : Valid). nat_eq e.frame f) (is_pin_on ring f) valid (λ e both. left_true (nat_eq e.frame f) _ both)

pub no_pins : (valid : List Valid) (ring : ℕ → Ring) (f : ℕ) → shares valid f ≡ 0 → frame_pins valid ring f ≡ 0
no_pins valid ring f none = let few = pins_shared valid ring f in omega (arith, few, none)

-- a page that enters a slot isn't pinned there
pub pins_put : (old new : Ring) (slot w v : ℕ) → IsPut old new slot w → pins_with new v ≡ pins_with old v
pins_put old new slot w v put =
    let written = count_written (has_pin v) old.slots slot None (fresh_slot w) put.empty in
    let fresh : has_pin v (fresh_slot w) ≡ false = unpinned (nat_eq w v) in
    let counted = ap (λ (b : Bool). cond {A = ℕ} b 1 0) fresh in
    ap (count_by (has_pin v)) put.slots ∙ omega (arith, written, counted)
  where
    unpinned : (b : Bool) → (b && false) ≡ false
    unpinned true = refl
    unpinned false = refl

module _ (valid : List Valid) (ring : ℕ → Ring) (p v f slot : ℕ) (new : Ring) (put : IsPut (ring p) new slot v) (absent : slots_with (ring p) v ≡ 0) where
  abbrev ring' : ℕ → Ring
  ring' = at_number ring p new

  same : (q w : ℕ) → pins_with (ring' q) w ≡ pins_with (ring q) w
  same = pins_at ring p new (λ w. pins_put (ring p) new slot v w put)

  free : pins_with (ring' p) v ≡ 0
  free = let few = pins_few (ring p) v in same p v ∙ omega (arith, few, absent)

  off : (h : ℕ) → is_pin_on ring' h (valid_at p v f) ≡ false
  off h = ap (λ (n : ℕ). nat_eq f h && nat_lt 0 n) free ∙ none (nat_eq f h)
    where
      none : (b : Bool) → (b && false) ≡ false
      none true = refl
      none false = refl

  -- so no frame has another number of pins
  pub pins_entered : (h : ℕ) → frame_pins (valid_at p v f ∷ valid) ring' h ≡ frame_pins valid ring h
  pins_entered h = count_cons_no (is_pin_on ring' h) (valid_at p v f) valid (off h) ∙ pins_same valid ring ring' h same
