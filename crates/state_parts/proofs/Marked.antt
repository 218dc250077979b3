-- A ring whose slots are changed one after another.
use Rattle.std.proofs.Common.{◌≡◌, ℕ, zero, suc, ◌+◌, ◌<◌, Bool, true, false, cond, List, [], ◌∷◌, ◌++◌, Option, Some, None, length, get_or, set, take, drop, map, sym, ap, ◌∙◌, refl, add-one, arith}
use Rattle.vm_types.specs.Ring.{Held, Ring}
use Rattle.working_set.specs.Slots.{slot_at, slot_with_lock, slot_with_pin, with_lock, with_pin}
use Rattle.pager_model.specs.Ring.{relocked_slot, repinned_slot, unlocked_slot}
use Rattle.pager_model.specs.Served.{is_slot_in}

-- the ring with the slots before this one changed
abbrev pub changed_before : (Option Held → Option Held) → ℕ → Ring → Ring
changed_before f i ring = record { slots = map f (take i ring.slots) ++ drop i ring.slots; hand = ring.hand }

module _ {X : Type 0} (f : X → X) (d : X) where
  -- one more element is changed
  changed_more : (xs : List X) (i : ℕ) → i < length xs → set (map f (take i xs) ++ drop i xs) i (f (get_or xs i d)) ≡ map f (take (suc i) xs) ++ drop (suc i) xs
  changed_more [] i within = absurd (omega arith)
  changed_more (x ∷ xs) zero within = refl
  changed_more (x ∷ xs) (suc i) within = ap (λ (ys : List X). f x ∷ ys) (changed_more xs i (omega arith))

  -- or stays, if the change leaves it
  changed_none : (xs : List X) (i : ℕ) → i < length xs → f (get_or xs i d) ≡ get_or xs i d → map f (take i xs) ++ drop i xs ≡ map f (take (suc i) xs) ++ drop (suc i) xs
  changed_none [] i within same = absurd (omega arith)
  changed_none (x ∷ xs) zero within same = ap (λ (y : X). y ∷ xs) (sym same)
  changed_none (x ∷ xs) (suc i) within same = ap (λ (ys : List X). f x ∷ ys) (changed_none xs i (omega arith) same)

  -- the element isn't changed before
  unchanged_at : (xs : List X) (i : ℕ) → i < length xs → get_or (map f (take i xs) ++ drop i xs) i d ≡ get_or xs i d
  unchanged_at [] i within = absurd (omega arith)
  unchanged_at (x ∷ xs) zero within = refl
  unchanged_at (x ∷ xs) (suc i) within = unchanged_at xs i (omega arith)

module _ (f : Option Held → Option Held) (old now : Ring) (i : ℕ) (within : i < length old.slots) (before : now ≡ changed_before f i old) where
  pub slot_is : slot_at now i ≡ slot_at old i
  slot_is = ap (λ (ring : Ring). slot_at ring i) before ∙ unchanged_at f None old.slots i within

  -- the slot is marked, or its pin is, as it is to be changed
  edited_next : (edit : Option Held → Option Held) (new : Ring) → new ≡ record now { slots = set now.slots i (edit (slot_at now i)) } → edit (slot_at old i) ≡ f (slot_at old i) → new ≡ changed_before f (i + 1) old
  edited_next edit new marked is =
      let slot : edit (slot_at now i) ≡ f (slot_at old i) = ap edit slot_is ∙ is in
      let slots : set (changed_before f i old).slots i (f (slot_at old i)) ≡ (changed_before f (i + 1) old).slots = rw add-one (changed_more f None old.slots i within) in
      marked ∙ (λ k. record { slots = set (before k).slots i (slot k); hand = (before k).hand }) ∙ ap (λ (s : List (Option Held)). record { slots = s; hand = old.hand }) slots

  pub marked_next : (new : Ring) (lock : Bool) → new ≡ with_lock now i lock → slot_with_lock (slot_at old i) lock ≡ f (slot_at old i) → new ≡ changed_before f (i + 1) old
  marked_next new lock marked is = edited_next (λ slot. slot_with_lock slot lock) new marked is

  pub pinned_next : (new : Ring) (pin : Bool) → new ≡ with_pin now i pin → slot_with_pin (slot_at old i) pin ≡ f (slot_at old i) → new ≡ changed_before f (i + 1) old
  pinned_next new pin pinned is = edited_next (λ slot. slot_with_pin slot pin) new pinned is

  -- the change leaves the slot
  pub left_next : f (slot_at old i) ≡ slot_at old i → now ≡ changed_before f (i + 1) old
  left_next same =
      let slots : (changed_before f i old).slots ≡ (changed_before f (i + 1) old).slots = rw add-one (changed_none f None old.slots i within same) in
      before ∙ ap (λ (s : List (Option Held)). record { slots = s; hand = old.hand }) slots

pub unlocked_is : (slot : Option Held) → slot_with_lock slot false ≡ unlocked_slot slot
unlocked_is None = refl
unlocked_is (Some held) = refl

module _ (lock : Bool) (address pages : ℕ) where
  pub relocked_in : (slot : Option Held) → is_slot_in address pages slot ≡ true → slot_with_lock slot lock ≡ relocked_slot lock address pages slot
  relocked_in None inside = refl
  relocked_in (Some held) inside = ap (λ (b : Bool). Some (record { vpn = held.vpn; locked = cond b lock held.locked; pinned = held.pinned })) (sym inside)

  pub relocked_out : (slot : Option Held) → is_slot_in address pages slot ≡ false → relocked_slot lock address pages slot ≡ slot
  relocked_out None outside = refl
  relocked_out (Some held) outside = ap (λ (b : Bool). Some (record { vpn = held.vpn; locked = cond b lock held.locked; pinned = held.pinned })) outside

module _ (pin : Bool) (address pages : ℕ) where
  pub repinned_in : (slot : Option Held) → is_slot_in address pages slot ≡ true → slot_with_pin slot pin ≡ repinned_slot pin address pages slot
  repinned_in None inside = refl
  repinned_in (Some held) inside = ap (λ (b : Bool). Some (record { vpn = held.vpn; locked = held.locked; pinned = cond b pin held.pinned })) (sym inside)
