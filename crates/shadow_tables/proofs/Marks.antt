-- The slots of a ring with the pages of a range locked, or pinned: how many pages are then locked or pinned, and a
-- slot whose pin changes.
use Rattle.std.proofs.Common.{◌≡◌, ℕ, ◌+◌, Bool, true, false, cond, ◌&&◌, List, [], ◌∷◌, Option, Some, None, count_by, map, refl, arith}
use Rattle.std.specs.Prelude.{◌||◌}
use Rattle.std.specs.Option.{is_some}
use Rattle.vm_types.specs.Ring.{Held, Ring, fixed, is_fixed_slot}
use Rattle.pager_model.specs.FlatService.{in_range}
use Rattle.pager_model.specs.Ring.{range_locked, range_pinned, relocked_slot, repinned_slot}
use Rattle.pager_model.specs.Served.{is_fixed_in, is_slot_in}
use Rattle.pager_rules.proofs.Basics.{count_cons}
use Rattle.state_parts.specs.Repinned.{differ, page_to_pin}

abbrev one : Bool → ℕ
one b = cond b 1 0

module _ (address pages : ℕ) where
  -- a change of the slots that marks those of the range
  module _ (f : Option Held → Option Held) (each : (o : Option Held) → one (is_fixed_slot (f o)) + one (is_fixed_in address pages o) ≡ one (is_fixed_slot o) + one (is_slot_in address pages o)) where
    fixed_more : (slots : List (Option Held)) → count_by is_fixed_slot (map f slots) + count_by (is_fixed_in address pages) slots ≡ count_by is_fixed_slot slots + count_by (is_slot_in address pages) slots
    fixed_more [] = refl
    fixed_more (o ∷ slots) =
        let after = count_cons is_fixed_slot (f o) (map f slots) in
        let both = count_cons (is_fixed_in address pages) o slots in
        let before = count_cons is_fixed_slot o slots in
        let inside = count_cons (is_slot_in address pages) o slots in
        omega (arith, after, both, before, inside, each o, fixed_more slots)

  pub locked_more : (ring : Ring) → fixed (range_locked true address pages ring).slots + count_by (is_fixed_in address pages) ring.slots ≡ fixed ring.slots + count_by (is_slot_in address pages) ring.slots
  locked_more ring = fixed_more (relocked_slot true address pages) each ring.slots
    where
      by : (inside locked pinned : Bool) → one (cond inside true locked || pinned) + one (inside && (locked || pinned)) ≡ one (locked || pinned) + one inside
      by true true pinned = refl
      by true false true = refl
      by true false false = refl
      by false true pinned = refl
      by false false true = refl
      by false false false = refl

      each : (o : Option Held) → one (is_fixed_slot (relocked_slot true address pages o)) + one (is_fixed_in address pages o) ≡ one (is_fixed_slot o) + one (is_slot_in address pages o)
      each None = refl
      each (Some held) = by (in_range address pages held.vpn) held.locked held.pinned

  pub pinned_more : (ring : Ring) → fixed (range_pinned true address pages ring).slots + count_by (is_fixed_in address pages) ring.slots ≡ fixed ring.slots + count_by (is_slot_in address pages) ring.slots
  pinned_more ring = fixed_more (repinned_slot true address pages) each ring.slots
    where
      by : (inside locked pinned : Bool) → one (locked || cond inside true pinned) + one (inside && (locked || pinned)) ≡ one (locked || pinned) + one inside
      by true true pinned = refl
      by true false true = refl
      by true false false = refl
      by false true pinned = refl
      by false false true = refl
      by false false false = refl

      each : (o : Option Held) → one (is_fixed_slot (repinned_slot true address pages o)) + one (is_fixed_in address pages o) ≡ one (is_fixed_slot o) + one (is_slot_in address pages o)
      each None = refl
      each (Some held) = by (in_range address pages held.vpn) held.locked held.pinned

  module _ (pin : Bool) where
    -- a slot whose pin changes has a page of the range
    pub pin_inside : (slot : Option Held) → is_some (page_to_pin pin address pages slot) ≡ true → is_slot_in address pages slot ≡ true
    pin_inside None some = absurd (cc)
    pin_inside (Some held) some = go (in_range address pages held.vpn) some
      where
        go : (inside : Bool) → is_some (cond (inside && differ held.pinned pin) (Some held.vpn) None) ≡ true → inside ≡ true
        go true some = refl
        go false some = absurd (cc)

    -- any other slot stays as it is
    pub pin_stays : (slot : Option Held) → is_some (page_to_pin pin address pages slot) ≡ false → repinned_slot pin address pages slot ≡ slot
    pin_stays None none = refl
    pin_stays (Some held) none = go (in_range address pages held.vpn) held.pinned pin none
      where
        go : (inside was will : Bool) → is_some (cond (inside && differ was will) (Some held.vpn) None) ≡ false → ◌≡◌ {A = Option Held} (Some (record { vpn = held.vpn; locked = held.locked; pinned = cond inside will was })) (Some (record { vpn = held.vpn; locked = held.locked; pinned = was }))
        go false was will none = refl
        go true true true none = refl
        go true false false none = refl
        go true true false none = absurd (cc)
        go true false true none = absurd (cc)
