-- A page is put into its process's ring, and its entry is valid.
use Rattle.std.proofs.Common.{◌≡◌, ◌⊎◌, ℕ, ◌+◌, ◌<◌, ◌≤◌, Bool, true, false, cond, ◌&&◌, List, ◌∷◌, Option, Some, None, length, nat_eq, find, refl, sym, ap, ap₂, ◌∙◌, subst, inl, inr, arith}
use Rattle.std.proofs.lemmas.Bool.{cases_eq, ne_eqb, eqb-true, and_left, and_parts}
use Rattle.vm_types.specs.Configuration.{pins_of}
use Rattle.vm_types.specs.Ring.{Ring, filled, fixed, pinned, unpinned}
use Rattle.vm_types.specs.declared.names.Page.{Page}
use Rattle.vm_types.specs.declared.names.ProcStatus.{ProcStatus}
use Rattle.vm_types.specs.declared.names.ProcStatus.TheVariants as status
use Rattle.vm_types.specs.declared.config.Config.{Config}
use Rattle.vm_types.specs.declared.config.ProcSpec.{ProcSpec}
use Rattle.pager_model.specs.Around.{ProcessView}
use Rattle.pager_model.specs.Changes.{valid_at, without_entry}
use Rattle.pager_model.specs.Lookups.{entries_at, is_entry, page_by, pins_with, slots_with}
use Rattle.pager_model.specs.Maps.{Map, is_private}
use Rattle.pager_model.specs.Pager.{Valid}
use Rattle.pager_model.specs.Ring.{placed}
use Rattle.pager_model.specs.Sets.{at_number}
use Rattle.pager_rules.proofs.Basics.{at_number_other, at_number_same, count_cons, count_cons_no, nat_eq_refl}
use Rattle.pager_rules.proofs.Lists.{count_removed, found_passes}
use Rattle.pager_rules.proofs.PlacedRing.{IsPlaced, placed_below_limit}
use Rattle.pager_rules.specs.Kept.{FitsEntry, FitsProcess}

-- ---- the process
pub placed_there : (x : ProcessView) (v : ℕ) → FitsProcess x → filled x.ring.slots < x.limit → IsPlaced x.ring (placed x.ring x.limit v) v
placed_there x v fits below = of_spec x.spec refl
  where
    of_spec : (o : Option ProcSpec) → x.spec ≡ o → IsPlaced x.ring (placed x.ring x.limit v) v
    of_spec None none = absurd (omega (arith, fits.none none))
    of_spec (Some spec) found =
        let bounded = fits.bounds spec found in
        placed_below_limit x.ring x.limit v below (omega (arith, bounded.slots, bounded.most)) (omega (arith, bounded.slots, bounded.hand))

pub placed_process : (x : ProcessView) (new : Ring) (v : ℕ) → IsPlaced x.ring new v → (x.status ≡ status.Gone → ⊥) → FitsProcess x → FitsProcess (record x { ring = new })
placed_process x new v ring not_gone fits =
    record {
      bounds = λ spec found. let old = fits.bounds spec found in
          record { locks = omega (arith, ring.locks, old.locks); pins = subst (λ (n : ℕ). n ≤ pins_of x.version spec) (sym ring.pinned) old.pins; least = old.least; most = old.most; slots = ring.slots ∙ old.slots; hand = omega (arith, ring.hand, old.slots) };
      gone = λ gone. absurd (not_gone gone);
      none = λ none. ((fits.none none).0, ring.slots ∙ (fits.none none).1);
    }

-- ---- the entries
pub entries_add : (config : Config) (map : Map) (status_of : ℕ → ProcStatus) (ring : ℕ → Ring) (valid : List Valid) (p v f : ℕ) (new : Ring)
    → IsPlaced (ring p) new v → ((g : Page) → status_of p ≡ status.Coming → page_by config map p v ≡ Some g → is_private g ≡ true) → entries_at valid p v ≡ 0
    → ((q w : ℕ) → FitsEntry (record { mapped = page_by config map q w; entries = entries_at valid q w; slots = slots_with (ring q) w; pins = pins_with (ring q) w; status = status_of q }))
    → (q w : ℕ) → FitsEntry (record { mapped = page_by config map q w; entries = entries_at (valid_at p v f ∷ valid) q w; slots = slots_with (at_number ring p new q) w; pins = pins_with (at_number ring p new q) w; status = status_of q })
entries_add config map status_of ring valid p v f new is_placed is_own none fits q w = go (cases_eq p q)
  where
    elsewhere : (p ≡ q → ⊥) → FitsEntry (record { mapped = page_by config map q w; entries = entries_at (valid_at p v f ∷ valid) q w; slots = slots_with (at_number ring p new q) w; pins = pins_with (at_number ring p new q) w; status = status_of q })
    elsewhere apart =
        let entries = count_cons_no (is_entry q w) (valid_at p v f) valid (and_left (nat_eq p q) (nat_eq v w) (ne_eqb p q apart)) in
        let slots = ap (λ (r : Ring). slots_with r w) (at_number_other ring p new q apart) in
        let pins = ap (λ (r : Ring). pins_with r w) (at_number_other ring p new q apart) in
        subst FitsEntry (λ i. record { mapped = page_by config map q w; entries = sym entries i; slots = sym slots i; pins = sym pins i; status = status_of q }) (fits q w)

    here : FitsEntry (record { mapped = page_by config map p w; entries = entries_at (valid_at p v f ∷ valid) p w; slots = slots_with (at_number ring p new p) w; pins = pins_with (at_number ring p new p) w; status = status_of p })
    here = record {
      once = once (cases_eq v w);
      slots = ap (λ (r : Ring). slots_with r w) (at_number_same ring p new) ∙ (is_placed.vpns w ∙ (ap (λ (n : ℕ). cond (nat_eq v w) 1 0 + n) (fits p w).slots ∙ sym entries));
      coming = λ g coming some own. comes g coming some own (cases_eq v w);
    }
      where
        entries : entries_at (valid_at p v f ∷ valid) p w ≡ cond (nat_eq v w) 1 0 + entries_at valid p w
        entries = count_cons (is_entry p w) (valid_at p v f) valid ∙ ap (λ (b : Bool). cond (b && nat_eq v w) 1 0 + entries_at valid p w) (nat_eq_refl p)

        comes : (g : Page) → status_of p ≡ status.Coming → 0 < entries_at (valid_at p v f ∷ valid) p w → page_by config map p w ≡ Some g → (v ≡ w) ⊎ (v ≡ w → ⊥) → (is_private g ≡ true) ⊎ (0 < pins_with (at_number ring p new p) w)
        comes g coming some own (inl same) = inl (is_own g coming (subst (λ (u : ℕ). page_by config map p u ≡ Some g) (sym same) own))
        comes g coming some own (inr apart) =
            let old = entries ∙ ap (λ (b : Bool). cond b 1 0 + entries_at valid p w) (ne_eqb v w apart) in
            subst (λ (n : ℕ). (is_private g ≡ true) ⊎ (0 < n)) (sym (is_placed.pins w) ∙ sym (ap (λ (r : Ring). pins_with r w) (at_number_same ring p new))) ((fits p w).coming g coming (omega arith) own)

        once : (v ≡ w) ⊎ (v ≡ w → ⊥) → entries_at (valid_at p v f ∷ valid) p w ≤ 1
        once (inl same) =
            let zero : entries_at valid p w ≡ 0 = subst (λ (u : ℕ). entries_at valid p u ≡ 0) same none in
            let one = entries ∙ ap (λ (n : ℕ). cond (nat_eq v w) 1 0 + n) zero in
            one_at_most (nat_eq v w) one
          where
            one_at_most : (b : Bool) → entries_at (valid_at p v f ∷ valid) p w ≡ cond b 1 0 + 0 → entries_at (valid_at p v f ∷ valid) p w ≤ 1
            one_at_most true e = omega arith
            one_at_most false e = omega arith
        once (inr apart) =
            let old = entries ∙ ap (λ (b : Bool). cond b 1 0 + entries_at valid p w) (ne_eqb v w apart) in
            omega (arith, (fits p w).once)

    go : (p ≡ q) ⊎ (p ≡ q → ⊥) → FitsEntry (record { mapped = page_by config map q w; entries = entries_at (valid_at p v f ∷ valid) q w; slots = slots_with (at_number ring p new q) w; pins = pins_with (at_number ring p new q) w; status = status_of q })
    go (inl same) = subst (λ (r : ℕ). FitsEntry (record { mapped = page_by config map r w; entries = entries_at (valid_at p v f ∷ valid) r w; slots = slots_with (at_number ring p new r) w; pins = pins_with (at_number ring p new r) w; status = status_of r })) same here
    go (inr apart) = elsewhere apart

-- ---- the page leaves its slot
pub record IsCleared (old new : Ring) (v : ℕ) : Type 0 where
  pub vpns : (w : ℕ) → slots_with old w ≡ cond (nat_eq v w) 1 0 + slots_with new w
  pub pins : (w : ℕ) → (v ≡ w → ⊥) → pins_with new w ≡ pins_with old w
  pub fewer_pins : (w : ℕ) → pins_with new w ≤ pins_with old w
  pub locks : fixed new.slots ≤ fixed old.slots
  pub pinned : pinned new.slots ≤ pinned old.slots
  pub unpinned : unpinned new.slots ≤ unpinned old.slots
  pub slots : length new.slots ≡ length old.slots
  pub hand : new.hand < length old.slots

pub cleared_process : (x : ProcessView) (new : Ring) (v : ℕ) → IsCleared x.ring new v → FitsProcess x → FitsProcess (record x { ring = new })
cleared_process x new v ring fits =
    record {
      bounds = λ spec found. let old = fits.bounds spec found in
          record { locks = omega (arith, ring.locks, old.locks); pins = omega (arith, ring.pinned, old.pins); least = old.least; most = old.most; slots = ring.slots ∙ old.slots; hand = omega (arith, ring.hand, old.slots) };
      gone = λ gone. omega (arith, ring.unpinned, fits.gone gone);
      none = λ none. ((fits.none none).0, ring.slots ∙ (fits.none none).1);
    }

pub entries_drop : (config : Config) (map : Map) (status_of : ℕ → ProcStatus) (ring : ℕ → Ring) (valid : List Valid) (p v : ℕ) (e : Valid) (new : Ring)
    → IsCleared (ring p) new v → find (is_entry p v) valid ≡ Some e
    → ((q w : ℕ) → FitsEntry (record { mapped = page_by config map q w; entries = entries_at valid q w; slots = slots_with (ring q) w; pins = pins_with (ring q) w; status = status_of q }))
    → (q w : ℕ) → FitsEntry (record { mapped = page_by config map q w; entries = entries_at (without_entry valid p v) q w; slots = slots_with (at_number ring p new q) w; pins = pins_with (at_number ring p new q) w; status = status_of q })
entries_drop config map status_of ring valid p v e new is_cleared found fits q w = go (cases_eq p q)
  where
    is_p : (e.proc ≡ p) × (e.vpn ≡ v)
    is_p = let parts = and_parts (nat_eq e.proc p) (nat_eq e.vpn v) (found_passes (is_entry p v) valid e found) in (eqb-true _ _ parts.0, eqb-true _ _ parts.1)

    removed : (r : ℕ) → entries_at valid r w ≡ cond (nat_eq p r && nat_eq v w) 1 0 + entries_at (without_entry valid p v) r w
    removed r = count_removed (is_entry r w) (is_entry p v) valid e found (fits p v).once
        ∙ ap₂ (λ (s u : ℕ). cond (nat_eq s r && nat_eq u w) 1 0 + entries_at (without_entry valid p v) r w) is_p.0 is_p.1

    elsewhere : (p ≡ q → ⊥) → FitsEntry (record { mapped = page_by config map q w; entries = entries_at (without_entry valid p v) q w; slots = slots_with (at_number ring p new q) w; pins = pins_with (at_number ring p new q) w; status = status_of q })
    elsewhere apart =
        let whole = removed q ∙ ap (λ (b : Bool). cond b 1 0 + entries_at (without_entry valid p v) q w) (and_left (nat_eq p q) (nat_eq v w) (ne_eqb p q apart)) in
        let entries : entries_at (without_entry valid p v) q w ≡ entries_at valid q w = omega arith in
        let slots = ap (λ (r : Ring). slots_with r w) (at_number_other ring p new q apart) in
        let pins = ap (λ (r : Ring). pins_with r w) (at_number_other ring p new q apart) in
        subst FitsEntry (λ i. record { mapped = page_by config map q w; entries = sym entries i; slots = sym slots i; pins = sym pins i; status = status_of q }) (fits q w)

    here : FitsEntry (record { mapped = page_by config map p w; entries = entries_at (without_entry valid p v) p w; slots = slots_with (at_number ring p new p) w; pins = pins_with (at_number ring p new p) w; status = status_of p })
    here =
        let whole = removed p ∙ ap (λ (b : Bool). cond (b && nat_eq v w) 1 0 + entries_at (without_entry valid p v) p w) (nat_eq_refl p) in
        let vpns = is_cleared.vpns w in
        let slots : slots_with new w ≡ entries_at (without_entry valid p v) p w = omega (arith, (fits p w).slots) in
        record {
          once = omega (arith, (fits p w).once);
          slots = ap (λ (r : Ring). slots_with r w) (at_number_same ring p new) ∙ slots;
          coming = λ g coming some own. comes g coming some own (cases_eq v w);
        }
      where
        comes : (g : Page) → status_of p ≡ status.Coming → 0 < entries_at (without_entry valid p v) p w → page_by config map p w ≡ Some g → (v ≡ w) ⊎ (v ≡ w → ⊥) → (is_private g ≡ true) ⊎ (0 < pins_with (at_number ring p new p) w)
        comes g coming some own (inl same) =
            let whole = removed p ∙ ap (λ (b : Bool). cond (b && nat_eq v w) 1 0 + entries_at (without_entry valid p v) p w) (nat_eq_refl p)
            ∙ ap (λ (b : Bool). cond b 1 0 + entries_at (without_entry valid p v) p w) (subst (λ (u : ℕ). nat_eq v u ≡ true) same (nat_eq_refl v)) in
            absurd (omega (arith, (fits p w).once))
        comes g coming some own (inr apart) =
            let whole = removed p ∙ ap (λ (b : Bool). cond (b && nat_eq v w) 1 0 + entries_at (without_entry valid p v) p w) (nat_eq_refl p) in
            subst (λ (n : ℕ). (is_private g ≡ true) ⊎ (0 < n)) (sym (is_cleared.pins w apart) ∙ sym (ap (λ (r : Ring). pins_with r w) (at_number_same ring p new))) ((fits p w).coming g coming (omega arith) own)

    go : (p ≡ q) ⊎ (p ≡ q → ⊥) → FitsEntry (record { mapped = page_by config map q w; entries = entries_at (without_entry valid p v) q w; slots = slots_with (at_number ring p new q) w; pins = pins_with (at_number ring p new q) w; status = status_of q })
    go (inl same) = subst (λ (r : ℕ). FitsEntry (record { mapped = page_by config map r w; entries = entries_at (without_entry valid p v) r w; slots = slots_with (at_number ring p new r) w; pins = pins_with (at_number ring p new r) w; status = status_of r })) same here
    go (inr apart) = elsewhere apart
