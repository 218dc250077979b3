-- What a slot of a working set shows.
use Rattle.std.proofs.Common.{◌≡◌, ℕ, Option, Some, None, refl, sym, ap, subst}
use Rattle.std.proofs.lemmas.Option.{none-some, same_Some}
use Rattle.vm_types.specs.Ring.{Held}
use Rattle.pager_policy.specs.Given.{seen_by, seen_in}
use Rattle.pager_model.specs.Lookups.{entry_of}
use Rattle.pager_model.specs.Pager.{Pager, Valid}
use Rattle.vm_state.specs.ProcessReadings.{slot_by, slot_with}
use Rattle.state_pages.specs.declared.found.Slot.{Slot}

-- an empty slot shows nothing
pub seen_none : (a : Pager) (p : ℕ) (o : Option Held) → None ≡ slot_with a.valid p o → seen_in a p o ≡ None
seen_none a p None is = refl
seen_none a p (Some held) is = by (entry_of a.valid p held.vpn) is
  where
    by : (o : Option Valid) → None ≡ slot_by held o → seen_by a held o ≡ None
    by None is = refl
    by (Some e) is = absurd (none-some _ is)

-- the entry of a page in a slot
pub record IsSlotOf (a : Pager) (p : ℕ) (x : Slot) : Type 0 where
  pub entry : Valid
  pub valid : entry_of a.valid p x.vpn ≡ Some entry
  pub frame : (x.frame).0 ≡ entry.frame

pub slot_entry : (a : Pager) (p : ℕ) (x : Slot) (o : Option Held) → Some x ≡ slot_with a.valid p o → IsSlotOf a p x
slot_entry a p x None is = absurd (none-some _ (sym is))
slot_entry a p x (Some held) is = by (entry_of a.valid p held.vpn) refl is
  where
    by : (o : Option Valid) → entry_of a.valid p held.vpn ≡ o → Some x ≡ slot_by held o → IsSlotOf a p x
    by None at is = absurd (none-some _ (sym is))
    by (Some e) at is =
        let same = same_Some x _ is in
        record { entry = e; valid = subst (λ (v : ℕ). entry_of a.valid p v ≡ Some e) (sym (ap (λ (y : Slot). y.vpn) same)) at; frame = ap (λ (y : Slot). (y.frame).0) same }
