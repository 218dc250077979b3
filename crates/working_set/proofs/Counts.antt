-- A slot that is not counted leaves room for one more.
use Rattle.std.proofs.Common.{◌≡◌, ℕ, ◌+◌, ◌-◌, ◌<◌, ◌≤◌, Bool, true, false, List, Option, Some, None, refl, length, get_or, set, cond, sym, ap, ◌∙◌, inl, inr, arith}
use Rattle.std.specs.List.{count_by}
use mir.Val.{bool_byte}
use Rattle.std.proofs.lemmas.Bool.{cases_lt, false≢true}
use Rattle.std.specs.Option.{IsSome, is_some}
use Rattle.std.proofs.lemmas.List.{length-set, get_or_past}
use Rattle.std.proofs.lemmas.List.Sums.{sum_by-set, count_by-le-length}
use Rattle.vm_types.specs.Ring.{Held, is_filled_slot, filled, fixed, is_fixed, is_fixed_slot}

-- a list with an element that is not counted, where another one would be
module _ {X : Type 0} (p : X → Bool) (xs : List X) (i : ℕ) (d y : X) where
  count_by_below : i < length xs → p (get_or xs i d) ≡ false → p y ≡ true → count_by p xs < length xs
  count_by_below within fails passes =
      let f : X → ℕ = λ x. cond (p x) 1 0 in
      let fails' : f (get_or xs i d) ≡ 0 = ap (λ (b : Bool). cond b 1 0) fails in
      let passes' : f y ≡ 1 = ap (λ (b : Bool). cond b 1 0) passes in
      omega (arith, sum_by-set f xs i y d within, count_by-le-length p (set xs i y), length-set xs i y)

-- an empty slot leaves room for one more page
pub filled_below : (slots : List (Option Held)) (i : ℕ) → i < length slots → get_or slots i None ≡ None → filled slots < length slots
filled_below slots i within empty =
    count_by_below is_filled_slot slots i None (Some (record { vpn = 0; locked = false; pinned = false })) within (ap is_filled_slot empty) refl

-- a page that is neither locked nor pinned leaves room for one more that is
pub fixed_below : (slots : List (Option Held)) (i : ℕ) → i < length slots → is_fixed_slot (get_or slots i None) ≡ false → fixed slots < length slots
fixed_below slots i within unlocked =
    count_by_below is_fixed_slot slots i None (Some (record { vpn = 0; locked = true; pinned = false })) within unlocked refl

-- a slot with a page is one of the slots
pub slot-lt-length : (slots : List (Option Held)) (i : ℕ) → IsSome (get_or slots i None) → i < length slots
slot-lt-length slots i filled = elim (cases_lt i (length slots)) [
  | inl within ↦ within
  | inr past ↦ absurd (false≢true (ap is_some (sym (get_or_past slots i None past)) ∙ filled))
]

-- the count of the marks fits the slots, once a page is marked
fixed_after : (slots : List (Option Held)) (i : ℕ) (was lock : Bool) → i < length slots → is_fixed_slot (get_or slots i None) ≡ was → fixed slots - bool_byte was + bool_byte lock ≤ length slots
fixed_after slots i true true within is = omega (arith, count_by-le-length is_fixed_slot slots)
fixed_after slots i true false within is = omega (arith, count_by-le-length is_fixed_slot slots)
fixed_after slots i false true within is = omega (arith, fixed_below slots i within is)
fixed_after slots i false false within is = omega (arith, count_by-le-length is_fixed_slot slots)

pub fixed_within : (slots : List (Option Held)) (i : ℕ) (held : Held) (fix : Bool) → i < length slots → Some held ≡ get_or slots i None → fixed slots - bool_byte (is_fixed held) + bool_byte fix ≤ length slots
fixed_within slots i held fix within is = fixed_after slots i (is_fixed held) fix within (ap is_fixed_slot (sym is))
