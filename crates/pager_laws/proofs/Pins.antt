-- A frame has at most as many pins as shares.
use Rattle.std.proofs.Common.{◌≡◌, ℕ, ◌≤◌, Bool, true, false, ◌&&◌, List, [], ◌∷◌, count_by, slice_get, nat_eq, refl, ap, arith}
use Rattle.vm_types.specs.Ring.{is_pinned_slot}
use Rattle.pager_model.specs.Lookups.{shares, slot_of, slot_with}
use Rattle.pager_model.specs.Pager.{Pager, Valid}
use Rattle.pager_model.specs.Report.{pins_on}
use Rattle.pager_rules.proofs.Basics.{count_cons_no, count_cons_yes}

fewer_both : {X : Type 0} (p q : X → Bool) (xs : List X) → count_by (λ (x : X). p x && q x) xs ≤ count_by p xs
fewer_both p q [] = omega arith
fewer_both {X} p q (x ∷ xs) = go (p x) (q x) refl refl (fewer_both p q xs)
  where
    go : (b c : Bool) → p x ≡ b → q x ≡ c → count_by (λ (y : X). p y && q y) xs ≤ count_by p xs → count_by (λ (y : X). p y && q y) (x ∷ xs) ≤ count_by p (x ∷ xs)
    go true true first second rest =
        let both = count_cons_yes (λ (y : X). p y && q y) x xs (λ i. first i && second i) in
        let one = count_cons_yes p x xs first in omega (arith, both, one, rest)
    go true false first second rest =
        let both = count_cons_no (λ (y : X). p y && q y) x xs (λ i. first i && second i) in
        let one = count_cons_yes p x xs first in omega (arith, both, one, rest)
    go false c first second rest =
        let both = count_cons_no (λ (y : X). p y && q y) x xs (ap (λ (b : Bool). b && q x) first) in
        let one = count_cons_no p x xs first in omega (arith, both, one, rest)

pub few_pins : (a : Pager) (f : ℕ) → pins_on a f ≤ shares a.valid f
few_pins a f = fewer_both (λ (e : Valid). nat_eq e.frame f) (λ (e : Valid). is_pinned_slot (slot_of (slice_get (a.ring e.proc).slots (slot_with (a.ring e.proc) e.vpn)))) a.valid
