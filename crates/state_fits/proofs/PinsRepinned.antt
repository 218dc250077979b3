-- How many pins a frame has once a page is pinned, or unpinned, in its slot.
use Rattle.std.proofs.Common.{◌≡◌, ◌⊎◌, inl, inr, ℕ, ◌+◌, ◌≤◌, ◌<◌, Bool, true, false, cond, ◌&&◌, List, [], ◌∷◌, Option, Some, None, find, count_by, nat_eq, nat_lt, slice_get, slice_set, refl, sym, ap, ap₂, ◌∙◌, subst, arith}
use Rattle.std.proofs.lemmas.Bool.{cases_eq, eq-eqb, ne_eqb, eqb-true}
use Rattle.vm_types.specs.Ring.{Held, Ring}
use Rattle.pager_model.specs.Changes.{without_entry}
use Rattle.pager_model.specs.Lookups.{has_pin, has_vpn, is_entry, pins_with, slots_with}
use Rattle.pager_model.specs.Pager.{Valid}
use Rattle.pager_model.specs.Sets.{at_number}
use Rattle.pager_rules.proofs.Basics.{at_number_other, at_number_same}
use Rattle.pager_rules.proofs.Lists.{count_removed, count_removed_no, count_removed_yes, count_written, found_passes}
use Rattle.pager_rules.proofs.Pins.{pins_few}
use Rattle.state_fits.specs.Frames.{frame_pins, is_pin_on}
use Rattle.state_fits.proofs.PinsLeft.{both_true, count_apart}

-- the page of the valid entry (p, v) of frame f is pinned, or unpinned, in its slot
module _ (valid : List Valid) (ring : ℕ → Ring) (p v f slot : ℕ) (entry : Valid) (held : Held) (pin : Bool) (new : Ring) (found : find (is_entry p v) valid ≡ Some entry) (once : count_by (is_entry p v) valid ≤ 1) (at : entry.frame ≡ f)
    (holds : slice_get (ring p).slots slot ≡ Some (Some held)) (same : held.vpn ≡ v) (alone : slots_with (ring p) v ≤ 1) (marked : new.slots ≡ slice_set (ring p).slots slot (Some (record held { pinned = pin }))) where
  abbrev ring' : ℕ → Ring
  ring' = at_number ring p new

  abbrev fewer : List Valid
  fewer = without_entry valid p v

  abbrev then_held : Held
  then_held = record held { pinned = pin }

  pins_now : (w : ℕ) → pins_with new w + cond {A = ℕ} (has_pin w (Some held)) 1 0 ≡ pins_with (ring p) w + cond {A = ℕ} (has_pin w (Some then_held)) 1 0
  pins_now w =
      let written = count_written (has_pin w) (ring p).slots slot (Some held) (Some then_held) holds in
      let is = ap (count_by (has_pin w)) marked in
      omega (arith, is, written)

  -- no other slot has the page
  abbrev emptied : Ring
  emptied = record (ring p) { slots = slice_set (ring p).slots slot None }

  pinned_nowhere : pins_with emptied v ≡ 0
  pinned_nowhere =
      let few = pins_few emptied v in
      let whole = count_written (has_vpn v) (ring p).slots slot (Some held) None holds in
      let one = ap (λ (b : Bool). cond {A = ℕ} b 1 0) (eq-eqb held.vpn v same) in
      omega (arith, few, whole, one, alone)

  was_pinned : has_pin v (Some held) ≡ held.pinned
  was_pinned = ap (λ (b : Bool). b && held.pinned) (eq-eqb held.vpn v same)

  is_pinned : has_pin v (Some then_held) ≡ pin
  is_pinned = ap (λ (b : Bool). b && pin) (eq-eqb held.vpn v same)

  pins_before : pins_with (ring p) v ≡ cond {A = ℕ} held.pinned 1 0
  pins_before =
      let whole = count_written (has_pin v) (ring p).slots slot (Some held) None holds in
      let counted = ap (λ (b : Bool). cond {A = ℕ} b 1 0) was_pinned in
      omega (arith, pinned_nowhere, whole, counted)

  pins_after : pins_with new v ≡ cond {A = ℕ} pin 1 0
  pins_after =
      let now = pins_now v in
      let was = ap (λ (b : Bool). cond {A = ℕ} b 1 0) was_pinned in
      let is = ap (λ (b : Bool). cond {A = ℕ} b 1 0) is_pinned in
      omega (arith, now, pins_before, was, is)

  apart : (w : ℕ) → (v ≡ w → ⊥) → pins_with new w ≡ pins_with (ring p) w
  apart w other =
      let now = pins_now w in
      let off = ne_eqb held.vpn w (λ e. other (sym same ∙ e)) in
      let was = ap (λ (b : Bool). cond {A = ℕ} (b && held.pinned) 1 0) off in
      let is = ap (λ (b : Bool). cond {A = ℕ} (b && pin) 1 0) off in
      omega (arith, now, was, is)

  unlike : (e : Valid) → is_entry p v e ≡ false → pins_with (ring' e.proc) e.vpn ≡ pins_with (ring e.proc) e.vpn
  unlike e off = go (cases_eq p e.proc)
    where
      not_v : p ≡ e.proc → v ≡ e.vpn → ⊥
      not_v own vpn = let on : true ≡ false = sym (ap₂ (λ (b c : Bool). b && c) (eq-eqb e.proc p (sym own)) (eq-eqb e.vpn v (sym vpn))) ∙ off in cc

      go : (p ≡ e.proc) ⊎ (p ≡ e.proc → ⊥) → pins_with (ring' e.proc) e.vpn ≡ pins_with (ring e.proc) e.vpn
      go (inr other) = ap (λ (r : Ring). pins_with r e.vpn) (at_number_other ring p new e.proc other)
      go (inl own) = subst (λ (n : ℕ). pins_with (ring' n) e.vpn ≡ pins_with (ring n) e.vpn) own (ap (λ (r : Ring). pins_with r e.vpn) (at_number_same ring p new) ∙ apart e.vpn (not_v own))

  passes : is_entry p v entry ≡ true
  passes = found_passes (is_entry p v) valid entry found

  gone : count_by (is_entry p v) fewer ≡ 0
  gone = let whole = count_removed_yes (is_entry p v) (is_entry p v) valid entry found once passes in omega (arith, whole, once)

  others : (g : ℕ) → frame_pins fewer ring' g ≡ frame_pins fewer ring g
  others g = count_apart (is_pin_on ring' g) (is_pin_on ring g) (is_entry p v) fewer gone (λ e off. ap (λ (n : ℕ). nat_eq e.frame g && nat_lt 0 n) (unlike e off))

  some : (b : Bool) → nat_lt 0 (cond {A = ℕ} b 1 0) ≡ b
  some true = refl
  some false = refl

  entry_is : (r : ℕ → Ring) (b : Bool) → pins_with (r p) v ≡ cond {A = ℕ} b 1 0 → is_pin_on r f entry ≡ b
  entry_is r b pins =
      let its = both_true (nat_eq entry.proc p) (nat_eq entry.vpn v) passes in
      (λ i. eq-eqb entry.frame f at i && nat_lt 0 (pins_with (r (eqb-true entry.proc p its.0 i)) (eqb-true entry.vpn v its.1 i)))
      ∙ (ap (λ (n : ℕ). nat_lt 0 n) pins ∙ some b)

  -- its frame has one pin more, or one less; each other frame has as many as before
  pub pins_repinned : frame_pins valid ring' f + cond {A = ℕ} held.pinned 1 0 ≡ frame_pins valid ring f + cond {A = ℕ} pin 1 0
  pins_repinned =
      let before = count_removed (is_pin_on ring f) (is_entry p v) valid entry found once in
      let after = count_removed (is_pin_on ring' f) (is_entry p v) valid entry found once in
      let was = ap (λ (b : Bool). cond {A = ℕ} b 1 0) (entry_is ring held.pinned pins_before) in
      let is = ap (λ (b : Bool). cond {A = ℕ} b 1 0) (entry_is ring' pin (ap (λ (r : Ring). pins_with r v) (at_number_same ring p new) ∙ pins_after)) in
      let same = others f in
      omega (arith, before, after, was, is, same)

  pub pins_elsewhere : (g : ℕ) → (f ≡ g → ⊥) → frame_pins valid ring' g ≡ frame_pins valid ring g
  pins_elsewhere g other =
      sym (count_removed_no (is_pin_on ring' g) (is_entry p v) valid entry found once (off ring'))
      ∙ (others g ∙ count_removed_no (is_pin_on ring g) (is_entry p v) valid entry found once (off ring))
    where
      off : (r : ℕ → Ring) → is_pin_on r g entry ≡ false
      off r = ap (λ (b : Bool). b && nat_lt 0 (pins_with (r entry.proc) entry.vpn)) (ne_eqb entry.frame g (λ e. other (sym at ∙ e)))
