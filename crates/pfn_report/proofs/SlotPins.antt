-- The pinned slots of a process whose entries are for a frame are as many as its pins of that frame.
use Rattle.std.proofs.Common.{◌≡◌, ℕ, suc, ◌+◌, ◌<◌, ◌≤◌, Bool, true, false, cond, List, [], ◌∷◌, Option, Some, None, count_by, nat_eq, not, slice_get, refl, sym, ap, ◌∙◌, arith}
use Rattle.std.specs.Prelude.{◌&&◌, sum_by}
use Rattle.std.specs.List.{AllByRecursion, position_or_len}
use Rattle.std.proofs.lemmas.Bool.{eqb-true}
use Rattle.std.proofs.lemmas.List.Sums.{sum_by-cons}
use Rattle.vm_types.specs.Ring.{Held, is_pinned_slot}
use Rattle.pager_model.specs.Lookups.{entries_at, has_pin, has_vpn, slot_of, slot_with}
use Rattle.pager_model.specs.Pager.{Pager, Valid}
use Rattle.pager_model.specs.Report.{is_pin_on, pins_on}
use Rattle.pager_rules.proofs.Basics.{count_cons, count_cons_no, count_cons_yes}
use Rattle.pager_rules.proofs.Pins.{count_less}
use Rattle.pfn_report.specs.Counts.{is_pinned_for, is_slot_for, pins_below}
use Rattle.pfn_report.proofs.SlotShares.{all_of, fewer_of, hits, is_own_for, more_of, none_of, one, same_either_way, slot_hits}

-- whether the slot has the page of an entry that is for the frame, and is pinned
abbrev pin_hits : ℕ → ℕ → Option Held → Valid → Bool
pin_hits p f None e = false
pin_hits p f (Some held) e = hits p f (Some held) e && held.pinned

pub and_true : (b : Bool) → (b && true) ≡ b
and_true true = refl
and_true false = refl

pub and_false : (b : Bool) → (b && false) ≡ false
and_false true = refl
and_false false = refl

-- ---- a slot, over the entries
slot_pins : (p f : ℕ) (valid : List Valid) (s : Option Held) → ((v : ℕ) → entries_at valid p v ≤ 1) → count_by (pin_hits p f s) valid ≡ one (is_pinned_for valid p f s)
slot_pins p f valid None once = none valid
  where
    none : (xs : List Valid) → count_by (pin_hits p f None) xs ≡ 0
    none [] = refl
    none (e ∷ xs) = count_cons_no (pin_hits p f None) e xs refl ∙ none xs
slot_pins p f valid (Some held) once = go held.pinned refl
  where
    all : (b : Bool) → held.pinned ≡ b → (xs : List Valid) → count_by (pin_hits p f (Some held)) xs ≡ cond b (count_by (hits p f (Some held)) xs) 0
    all true is [] = refl
    all false is [] = refl
    all true is (e ∷ xs) =
        let left = count_cons (pin_hits p f (Some held)) e xs in
        let right = count_cons (hits p f (Some held)) e xs in
        let here : one (hits p f (Some held) e && held.pinned) ≡ one (hits p f (Some held) e) = ap (λ (b : Bool). one (hits p f (Some held) e && b)) is ∙ ap one (and_true (hits p f (Some held) e)) in
        let rest = all true is xs in
        omega (arith, left, right, here, rest)
    all false is (e ∷ xs) = count_cons_no (pin_hits p f (Some held)) e xs (ap (λ (b : Bool). hits p f (Some held) e && b) is ∙ and_false (hits p f (Some held) e)) ∙ all false is xs

    go : (b : Bool) → held.pinned ≡ b → count_by (pin_hits p f (Some held)) valid ≡ one (is_pinned_for valid p f (Some held))
    go true is = all true is valid ∙ (slot_hits p f held valid (once held.vpn) ∙ ap one (sym (ap (λ (b : Bool). is_slot_for valid p f (Some held) && b) is ∙ and_true (is_slot_for valid p f (Some held)))))
    go false is = all false is valid ∙ ap one (sym (ap (λ (b : Bool). is_slot_for valid p f (Some held) && b) is ∙ and_false (is_slot_for valid p f (Some held))))

slots_pin : (p f : ℕ) (valid : List Valid) → ((v : ℕ) → entries_at valid p v ≤ 1) → (slots : List (Option Held))
    → sum_by (λ (s : Option Held). count_by (pin_hits p f s) valid) slots ≡ count_by (is_pinned_for valid p f) slots
slots_pin p f valid once [] = refl
slots_pin p f valid once (s ∷ slots) =
    omega (arith, sum_by-cons (λ (s : Option Held). count_by (pin_hits p f s) valid) s slots, count_cons (is_pinned_for valid p f) s slots, slot_pins p f valid s once, slots_pin p f valid once slots)

-- ---- an entry, over the slots
entry_pin : (p f : ℕ) (e : Valid) (slots : List (Option Held)) → count_by (λ (s : Option Held). pin_hits p f s e) slots ≡ cond (is_own_for p f e) (count_by (has_pin e.vpn) slots) 0
entry_pin p f e [] = none (is_own_for p f e)
  where
    none : (b : Bool) → 0 ≡ cond {A = ℕ} b 0 0
    none true = refl
    none false = refl
entry_pin p f e (s ∷ slots) =
    omega (arith, count_cons (λ (s : Option Held). pin_hits p f s e) s slots, step (is_own_for p f e), at s, entry_pin p f e slots)
  where
    step : (b : Bool) → cond b (count_by (has_pin e.vpn) (s ∷ slots)) 0 ≡ cond b (one (has_pin e.vpn s)) 0 + cond b (count_by (has_pin e.vpn) slots) 0
    step true = count_cons (has_pin e.vpn) s slots
    step false = refl

    by : (a b c d : Bool) → one (((a && b) && c) && d) ≡ cond (a && c) (one (b && d)) 0
    by true true true d = refl
    by true true false d = refl
    by true false true d = refl
    by true false false d = refl
    by false b c d = refl

    at : (s : Option Held) → one (pin_hits p f s e) ≡ cond (is_own_for p f e) (one (has_pin e.vpn s)) 0
    at None = none (is_own_for p f e)
      where
        none : (b : Bool) → 0 ≡ cond {A = ℕ} b 0 0
        none true = refl
        none false = refl
    at (Some held) =
        by (nat_eq e.proc p) (nat_eq e.vpn held.vpn) (nat_eq e.frame f) held.pinned
        ∙ ap (λ (b : Bool). cond (is_own_for p f e) (one (b && held.pinned)) 0) (same_either_way e.vpn held.vpn)

one_more : (p f : ℕ) (e : Valid) (valid : List Valid) (slots : List (Option Held))
    → sum_by (λ (s : Option Held). count_by (pin_hits p f s) (e ∷ valid)) slots ≡ count_by (λ (s : Option Held). pin_hits p f s e) slots + sum_by (λ (s : Option Held). count_by (pin_hits p f s) valid) slots
one_more p f e valid [] = refl
one_more p f e valid (s ∷ slots) =
    omega (
      arith,
      sum_by-cons (λ (s : Option Held). count_by (pin_hits p f s) (e ∷ valid)) s slots,
      sum_by-cons (λ (s : Option Held). count_by (pin_hits p f s) valid) s slots,
      count_cons (pin_hits p f s) e valid,
      count_cons (λ (s : Option Held). pin_hits p f s e) s slots,
      one_more p f e valid slots,
    )

-- the slots behind the first
slot_after : (x : Option Held) (slots : List (Option Held)) (n : ℕ) → slice_get (x ∷ slots) (1 + n) ≡ slice_get slots n
slot_after x slots n = ap (slice_get (x ∷ slots)) next
  where
    next : 1 + n ≡ suc n
    next = omega arith

abbrev pin_in : Option (Option Held) → ℕ
pin_in found = one (is_pinned_slot (slot_of found))

-- one if the slot that is found is pinned, by whether it is the first
abbrev pin_found : Held → List (Option Held) → ℕ → Bool → ℕ
pin_found held slots v first = one (is_pinned_slot (slot_of (slice_get (Some held ∷ slots) (cond (not first) (1 + position_or_len (has_vpn v) slots) 0))))

-- the one slot of a page is pinned, or it isn't
pin_there : (slots : List (Option Held)) (v : ℕ) → count_by (has_vpn v) slots ≤ 1 → count_by (has_pin v) slots ≡ one (is_pinned_slot (slot_of (slice_get slots (position_or_len (has_vpn v) slots))))
pin_there [] v alone = refl
pin_there (None ∷ slots) v alone = pin_there slots v alone ∙ sym (ap pin_in (slot_after None slots (position_or_len (has_vpn v) slots)))
pin_there (Some held ∷ slots) v alone = go (nat_eq held.vpn v) refl (pin_there slots v)
  where
    go : (b : Bool) → nat_eq held.vpn v ≡ b → (count_by (has_vpn v) slots ≤ 1 → count_by (has_pin v) slots ≡ one (is_pinned_slot (slot_of (slice_get slots (position_or_len (has_vpn v) slots)))))
        → count_by (has_pin v) (Some held ∷ slots) ≡ one (is_pinned_slot (slot_of (slice_get (Some held ∷ slots) (position_or_len (has_vpn v) (Some held ∷ slots)))))
    go true is later =
        let whole = count_cons_yes (has_vpn v) (Some held) slots is in
        let few = count_less (has_vpn v) (has_pin v) slots (less v) in
        let here = count_cons (has_pin v) (Some held) slots in
        let same : one (has_pin v (Some held)) ≡ one held.pinned = ap (λ (b : Bool). one (b && held.pinned)) is in
        let first : count_by (has_pin v) (Some held ∷ slots) ≡ one held.pinned = omega (arith, whole, alone, few, here, same) in
        first ∙ sym (ap (pin_found held slots v) is)
      where
        less : (v : ℕ) (o : Option Held) → has_pin v o ≡ true → has_vpn v o ≡ true
        less v None pin = pin
        less v (Some x) pin = both (nat_eq x.vpn v) x.pinned pin
          where
            both : (b c : Bool) → (b && c) ≡ true → b ≡ true
            both true c is = refl
            both false c is = is
    go false is later =
        let whole = count_cons_no (has_vpn v) (Some held) slots is in
        let rest = later (omega (arith, whole, alone)) in
        count_cons_no (has_pin v) (Some held) slots (ap (λ (b : Bool). b && held.pinned) is) ∙ (rest ∙ (sym (ap pin_in (slot_after (Some held) slots (position_or_len (has_vpn v) slots))) ∙ sym (ap (pin_found held slots v) is)))

-- ---- a process
module _ (a : Pager) (p f : ℕ) where
  abbrev slots : List (Option Held)
  slots = (a.ring p).slots

  abbrev pub is_own_pin : Valid → Bool
  is_own_pin e = nat_eq e.proc p && is_pin_on a f e

  owns : (e : Valid) → count_by (has_vpn e.vpn) slots ≤ 1 → cond (is_own_for p f e) (count_by (has_pin e.vpn) slots) 0 ≡ one (is_own_pin e)
  owns e alone = go (nat_eq e.proc p) refl (nat_eq e.frame f)
    where
      go : (b : Bool) → nat_eq e.proc p ≡ b → (c : Bool) → cond (b && c) (count_by (has_pin e.vpn) slots) 0 ≡ one (b && (c && is_pinned_slot (slot_of (slice_get (a.ring e.proc).slots (slot_with (a.ring e.proc) e.vpn)))))
      go false own c = refl
      go true own false = refl
      go true own true = pin_there slots e.vpn alone ∙ ap (λ (q : ℕ). one (is_pinned_slot (slot_of (slice_get (a.ring q).slots (slot_with (a.ring q) e.vpn))))) (sym (eqb-true e.proc p own))

  pins_over : (valid : List Valid) → ((v : ℕ) → count_by (has_vpn v) slots ≤ 1) → sum_by (λ (s : Option Held). count_by (pin_hits p f s) valid) slots ≡ count_by is_own_pin valid
  pins_over [] alone = none slots
    where
      none : (xs : List (Option Held)) → sum_by (λ (s : Option Held). count_by (pin_hits p f s) []) xs ≡ 0
      none [] = refl
      none (s ∷ xs) = let whole = sum_by-cons (λ (s : Option Held). count_by (pin_hits p f s) []) s xs in omega (arith, whole, none xs)
  pins_over (e ∷ valid) alone = omega (arith, one_more p f e valid slots, entry_pin p f e slots, owns e (alone e.vpn), count_cons is_own_pin e valid, pins_over valid alone)

  pub own_pins : ((v : ℕ) → entries_at a.valid p v ≤ 1) → ((v : ℕ) → count_by (has_vpn v) slots ≤ 1) → count_by (is_pinned_for a.valid p f) slots ≡ count_by is_own_pin a.valid
  own_pins once alone = sym (slots_pin p f a.valid once slots) ∙ pins_over a.valid alone

-- ---- the pins of the processes below a number
pub none_pinned : (a : Pager) (f : ℕ) → pins_below a 0 f ≡ 0
none_pinned a f = none_of (is_pin_on a f) a.valid

pub more_pinned : (a : Pager) (p f : ℕ) → pins_below a (p + 1) f ≡ pins_below a p f + count_by (is_own_pin a p f) a.valid
more_pinned a p f = more_of (is_pin_on a f) a.valid p

pub all_pinned : (a : Pager) (n f : ℕ) → AllByRecursion (λ (e : Valid). e.proc < n) a.valid → pins_below a n f ≡ pins_on a f
all_pinned a n f each = all_of (is_pin_on a f) a.valid n each

pub fewer_pinned : (a : Pager) (p f : ℕ) → pins_below a p f ≤ pins_on a f
fewer_pinned a p f = fewer_of (is_pin_on a f) a.valid p
