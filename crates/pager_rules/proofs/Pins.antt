-- Pinned slots of a ring, counted beside its other slots.
use Rattle.std.proofs.Common.{[], ◌&&◌, ◌+◌, ◌<◌, ◌||◌, ◌∙◌, ◌∷◌, ◌≡◌, ◌≤◌, Bool, List, None, Option, Some, ℕ, ap, arith, cond, count_by, false, nat_eq, not, refl, slice_get, subst, suc, sym, true, zero}
use Rattle.std.proofs.lemmas.Bool.{and_parts, eqb-true, false≢true}
use Rattle.vm_types.specs.Ring.{Held, Ring, fixed, is_fixed_slot, is_pinned_slot, is_unpinned_slot, pinned, unpinned}
use Rattle.vm_types.specs.declared.names.Page.{Page}
use Rattle.vm_types.specs.declared.names.Page.TheVariants.{Private, Shared}
use Rattle.pager_model.specs.Lookups.{has_pin, has_vpn, pins_with, slots_with}
use Rattle.pager_model.specs.Sound.{pins_of_page}
use Rattle.pager_rules.proofs.Basics.{count_cons, nat_eq_refl}
use Rattle.pager_rules.proofs.Lists.{count_written}

-- a test that passes less counts less
pub count_less : {X : Type 0} (p q : X → Bool) (xs : List X) → ((x : X) → q x ≡ true → p x ≡ true) → count_by q xs ≤ count_by p xs
count_less p q [] less = omega arith
count_less {X} p q (x ∷ xs) less = by (q x) refl (p x) refl (count_less p q xs less)
  where
    by : (b : Bool) → q x ≡ b → (c : Bool) → p x ≡ c → count_by q xs ≤ count_by p xs → count_by q (x ∷ xs) ≤ count_by p (x ∷ xs)
    by true qx true px rest = let left = count_cons q x xs ∙ ap (λ (b : Bool). cond b 1 0 + count_by q xs) qx in let right = count_cons p x xs ∙ ap (λ (b : Bool). cond b 1 0 + count_by p xs) px in omega arith
    by true qx false px rest = absurd (false≢true (sym px ∙ less x qx))
    by false qx c px rest = let left = count_cons q x xs ∙ ap (λ (b : Bool). cond b 1 0 + count_by q xs) qx in let right = count_cons p x xs in omega arith

-- and one less, if an item passes the other alone
pub count_fewer : {X : Type 0} (p q : X → Bool) (xs : List X) (i : ℕ) (x : X) → ((y : X) → q y ≡ true → p y ≡ true) → slice_get xs i ≡ Some x → p x ≡ true → q x ≡ false → count_by q xs + 1 ≤ count_by p xs
count_fewer p q [] i x less at px qx = absurd (cc)
count_fewer {X} p q (y ∷ xs) zero x less at px qx =
    let same : y ≡ x = cc in
    let rest = count_less p q xs less in
    let left = count_cons q y xs ∙ ap (λ (b : Bool). cond b 1 0 + count_by q xs) (ap q same ∙ qx) in
    let right = count_cons p y xs ∙ ap (λ (b : Bool). cond b 1 0 + count_by p xs) (ap p same ∙ px) in
    omega arith
count_fewer {X} p q (y ∷ xs) (suc i) x less at px qx = by (q y) refl (p y) refl (count_fewer p q xs i x less at px qx)
  where
    by : (b : Bool) → q y ≡ b → (c : Bool) → p y ≡ c → count_by q xs + 1 ≤ count_by p xs → count_by q (y ∷ xs) + 1 ≤ count_by p (y ∷ xs)
    by true qy true py rest = let left = count_cons q y xs ∙ ap (λ (b : Bool). cond b 1 0 + count_by q xs) qy in let right = count_cons p y xs ∙ ap (λ (b : Bool). cond b 1 0 + count_by p xs) py in omega arith
    by true qy false py rest = absurd (false≢true (sym py ∙ less y qy))
    by false qy c py rest = let left = count_cons q y xs ∙ ap (λ (b : Bool). cond b 1 0 + count_by q xs) qy in let right = count_cons p y xs in omega arith

pin_has_vpn : (v : ℕ) (o : Option Held) → has_pin v o ≡ true → has_vpn v o ≡ true
pin_has_vpn v None pin = absurd (false≢true pin)
pin_has_vpn v (Some held) pin = (and_parts (nat_eq held.vpn v) held.pinned pin).0

pub pins_few : (ring : Ring) (v : ℕ) → pins_with ring v ≤ slots_with ring v
pins_few ring v = count_less (has_vpn v) (has_pin v) ring.slots (pin_has_vpn v)

and_off : (b : Bool) → (b && false) ≡ false
and_off true = refl
and_off false = refl

-- a page that stands in one slot, and isn't pinned there, isn't pinned
pub unpinned_there : (ring : Ring) (v n : ℕ) (held : Held) → slots_with ring v ≤ 1 → slice_get ring.slots n ≡ Some (Some held) → held.vpn ≡ v → held.pinned ≡ false → pins_with ring v ≡ 0
unpinned_there ring v n held once at same off =
    let one = count_fewer (has_vpn v) (has_pin v) ring.slots n (Some held) (pin_has_vpn v) at (ap (λ (w : ℕ). nat_eq w v) same ∙ nat_eq_refl v) (ap (λ (b : Bool). nat_eq held.vpn v && b) off ∙ and_off (nat_eq held.vpn v)) in
    omega arith

-- where no slot is unpinned, each page is pinned
pub all_pinned : (slots : List (Option Held)) (v : ℕ) → unpinned slots ≡ 0 → count_by (has_vpn v) slots ≡ count_by (has_pin v) slots
all_pinned [] v none = refl
all_pinned (None ∷ slots) v none = all_pinned slots v none
all_pinned (Some held ∷ slots) v none = by held.pinned refl (all_pinned slots v)
  where
    by : (b : Bool) → held.pinned ≡ b → (unpinned slots ≡ 0 → count_by (has_vpn v) slots ≡ count_by (has_pin v) slots) → count_by (has_vpn v) (Some held ∷ slots) ≡ count_by (has_pin v) (Some held ∷ slots)
    by true on later =
        let whole = count_cons is_unpinned_slot (Some held) slots in
        let one = ap (λ (c : Bool). cond {A = ℕ} (not c) 1 0) on in
        let rest = later (omega arith) in
        let left = count_cons (has_vpn v) (Some held) slots in
        let right = count_cons (has_pin v) (Some held) slots in
        let same = ap (λ (c : Bool). cond {A = ℕ} (nat_eq held.vpn v && c) 1 0) on in
        let test = keep (nat_eq held.vpn v) in
        omega arith
      where
        keep : (c : Bool) → cond {A = ℕ} (c && true) 1 0 ≡ cond c 1 0
        keep true = refl
        keep false = refl
    by false off later =
        let whole = count_cons is_unpinned_slot (Some held) slots in
        let one = ap (λ (c : Bool). cond {A = ℕ} (not c) 1 0) off in
        absurd (omega arith)

pub pins_of_less : (g : Page) (old new : Ring) → ((w : ℕ) → pins_with new w ≤ pins_with old w) → pins_of_page old g ≡ 0 → pins_of_page new g ≡ 0
pins_of_less (Private p v) old new less none = omega (arith, less v)
pins_of_less (Shared s i) old new less none = refl

-- a pinned page is fixed
pub pinned_few : (slots : List (Option Held)) → pinned slots ≤ fixed slots
pinned_few slots = count_less is_fixed_slot is_pinned_slot slots fixes
  where
    or_on : (b c : Bool) → c ≡ true → (b || c) ≡ true
    or_on true c on = refl
    or_on false c on = on

    fixes : (o : Option Held) → is_pinned_slot o ≡ true → is_fixed_slot o ≡ true
    fixes None on = absurd (false≢true on)
    fixes (Some held) on = or_on held.locked held.pinned on

-- a filled slot that isn't pinned is counted
pub unpinned_at : (slots : List (Option Held)) (n : ℕ) (held : Held) → slice_get slots n ≡ Some (Some held) → held.pinned ≡ false → 0 < unpinned slots
unpinned_at slots n held at off = omega (arith, count_written is_unpinned_slot slots n (Some held) None at, ap (λ (b : Bool). cond {A = ℕ} (not b) 1 0) off)
