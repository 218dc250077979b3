-- How many pins a frame has once a page has left its slot.
use Rattle.std.proofs.Common.{◌≡◌, ◌⊎◌, inl, inr, ℕ, ◌+◌, ◌≤◌, ◌<◌, Bool, true, false, cond, ◌&&◌, List, [], ◌∷◌, Option, Some, None, find, count_by, nat_eq, nat_lt, slice_get, slice_set, refl, sym, ap, ap₂, ◌∙◌, subst, arith}
use Rattle.std.proofs.lemmas.Bool.{cases_eq, eq-eqb, ne_eqb, eqb-true}
use Rattle.vm_types.specs.Ring.{Held, Ring}
use Rattle.pager_model.specs.Changes.{without_entry}
use Rattle.pager_model.specs.Lookups.{has_pin, is_entry, pins_with, slots_with}
use Rattle.pager_model.specs.Pager.{Valid}
use Rattle.pager_model.specs.Sets.{at_number}
use Rattle.pager_rules.proofs.Basics.{at_number_other, at_number_same, count_cons_no, count_cons_yes}
use Rattle.pager_rules.proofs.Lists.{count_removed, count_removed_no, count_removed_yes, count_written, found_passes}
use Rattle.pager_rules.proofs.Pins.{pins_few}
use Rattle.state_fits.specs.Frames.{frame_pins, is_pin_on}

pub both_true : (b c : Bool) → (b && c) ≡ true → (b ≡ true) × (c ≡ true)
both_true true c e = (refl, e)
both_true false c e = absurd (cc)

-- two tests that agree but where a third one passes
pub count_apart : {X : Type 0} (t u z : X → Bool) (xs : List X) → count_by z xs ≡ 0 → ((x : X) → z x ≡ false → t x ≡ u x) → count_by t xs ≡ count_by u xs
count_apart t u z [] none same = refl
count_apart {X} t u z (x ∷ xs) none same = first (z x) refl (λ left. count_apart t u z xs left same)
  where
    go : (b : Bool) → u x ≡ b → t x ≡ u x → count_by t xs ≡ count_by u xs → count_by t (x ∷ xs) ≡ count_by u (x ∷ xs)
    go true e is left = count_cons_yes t x xs (is ∙ e) ∙ (ap (λ (n : ℕ). 1 + n) left ∙ sym (count_cons_yes u x xs e))
    go false e is left = count_cons_no t x xs (is ∙ e) ∙ (left ∙ sym (count_cons_no u x xs e))

    first : (b : Bool) → z x ≡ b → (count_by z xs ≡ 0 → count_by t xs ≡ count_by u xs) → count_by t (x ∷ xs) ≡ count_by u (x ∷ xs)
    first true e rest = let more = count_cons_yes z x xs e in absurd (omega (arith, more, none))
    first false e rest = go (u x) refl (same x e) (rest (sym (count_cons_no z x xs e) ∙ none))

-- the valid entry (p, v) of frame f goes, and its page leaves its slot
module _ (valid : List Valid) (ring : ℕ → Ring) (p v f slot : ℕ) (entry : Valid) (held : Held) (new : Ring) (found : find (is_entry p v) valid ≡ Some entry) (once : count_by (is_entry p v) valid ≤ 1) (at : entry.frame ≡ f)
    (holds : slice_get (ring p).slots slot ≡ Some (Some held)) (same : held.vpn ≡ v) (emptied : new.slots ≡ slice_set (ring p).slots slot None) (absent : slots_with new v ≡ 0) where
  abbrev ring' : ℕ → Ring
  ring' = at_number ring p new

  abbrev fewer : List Valid
  fewer = without_entry valid p v

  pins_now : (w : ℕ) → pins_with new w + cond {A = ℕ} (has_pin w (Some held)) 1 0 ≡ pins_with (ring p) w
  pins_now w =
      let written = count_written (has_pin w) (ring p).slots slot (Some held) None holds in
      let is = ap (count_by (has_pin w)) emptied in
      omega (arith, is, written)

  here : pins_with (ring p) v ≡ cond {A = ℕ} held.pinned 1 0
  here =
      let few = pins_few new v in
      let now = pins_now v in
      let is : has_pin v (Some held) ≡ held.pinned = ap (λ (b : Bool). b && held.pinned) (eq-eqb held.vpn v same) in
      let counted = ap (λ (b : Bool). cond {A = ℕ} b 1 0) is in
      omega (arith, few, absent, now, counted)

  apart : (w : ℕ) → (v ≡ w → ⊥) → pins_with new w ≡ pins_with (ring p) w
  apart w other =
      let now = pins_now w in
      let is : has_pin w (Some held) ≡ false = ap (λ (b : Bool). b && held.pinned) (ne_eqb held.vpn w (λ e. other (sym same ∙ e))) in
      let counted = ap (λ (b : Bool). cond {A = ℕ} b 1 0) is in
      omega (arith, now, counted)

  unlike : (e : Valid) → is_entry p v e ≡ false → pins_with (ring' e.proc) e.vpn ≡ pins_with (ring e.proc) e.vpn
  unlike e off = go (cases_eq p e.proc)
    where
      not_v : p ≡ e.proc → v ≡ e.vpn → ⊥
      not_v own vpn = let on : true ≡ false = sym (ap₂ (λ (b c : Bool). b && c) (eq-eqb e.proc p (sym own)) (eq-eqb e.vpn v (sym vpn))) ∙ off in cc

      go : (p ≡ e.proc) ⊎ (p ≡ e.proc → ⊥) → pins_with (ring' e.proc) e.vpn ≡ pins_with (ring e.proc) e.vpn
      go (inr other) = ap (λ (r : Ring). pins_with r e.vpn) (at_number_other ring p new e.proc other)
      go (inl own) = subst (λ (n : ℕ). pins_with (ring' n) e.vpn ≡ pins_with (ring n) e.vpn) own (ap (λ (r : Ring). pins_with r e.vpn) (at_number_same ring p new) ∙ apart e.vpn (not_v own))

  passes : is_entry p v entry ≡ true
  passes = found_passes (is_entry p v) valid entry found

  gone : count_by (is_entry p v) fewer ≡ 0
  gone = let whole = count_removed_yes (is_entry p v) (is_entry p v) valid entry found once passes in omega (arith, whole, once)

  others : (g : ℕ) → frame_pins fewer ring' g ≡ frame_pins fewer ring g
  others g = count_apart (is_pin_on ring' g) (is_pin_on ring g) (is_entry p v) fewer gone (λ e off. ap (λ (n : ℕ). nat_eq e.frame g && nat_lt 0 n) (unlike e off))

  entry_pin : is_pin_on ring f entry ≡ held.pinned
  entry_pin =
      let its = both_true (nat_eq entry.proc p) (nat_eq entry.vpn v) passes in
      (λ i. eq-eqb entry.frame f at i && nat_lt 0 (pins_with (ring (eqb-true entry.proc p its.0 i)) (eqb-true entry.vpn v its.1 i)))
      ∙ (ap (λ (n : ℕ). nat_lt 0 n) here ∙ some held.pinned)
    where
      some : (b : Bool) → nat_lt 0 (cond {A = ℕ} b 1 0) ≡ b
      some true = refl
      some false = refl

  -- its frame has one pin less if the slot was pinned, and no other frame has another number of them
  pub pins_left : frame_pins valid ring f ≡ cond {A = ℕ} held.pinned 1 0 + frame_pins fewer ring' f
  pins_left =
      count_removed (is_pin_on ring f) (is_entry p v) valid entry found once
      ∙ ap₂ (λ (m n : ℕ). m + n) (ap (λ (b : Bool). cond {A = ℕ} b 1 0) entry_pin) (sym (others f))

  pub pins_elsewhere : (g : ℕ) → (f ≡ g → ⊥) → frame_pins fewer ring' g ≡ frame_pins valid ring g
  pins_elsewhere g other =
      others g ∙ count_removed_no (is_pin_on ring g) (is_entry p v) valid entry found once
      (ap (λ (b : Bool). b && nat_lt 0 (pins_with (ring entry.proc) entry.vpn)) (ne_eqb entry.frame g (λ e. other (sym at ∙ e))))
