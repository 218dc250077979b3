-- The slots of a working set ring. Source: Kenah and Bate, "VAX/VMS Internals and Data Structures",
-- paging dynamics, the working set list.
use Rattle.std.specs.Prelude.{◌≡◌, ℕ, Bool, ◌^◌, ◌<◌, Option, Some, None, All, length, slice_index_or, slice_set, option_map, IsSome, IfSome}
use Rattle.vm_types.specs.Ring.{is_locked_slot, Held, Ring, is_pinned_slot}

-- what the slot holds: none where it is empty, or there is no such slot
abbrev pub slot_at : Ring → ℕ → Option Held
slot_at ring slot = slice_index_or ring.slots slot None

-- the number of the page in the slot
abbrev pub page_at : Ring → ℕ → Option ℕ
page_at ring slot = option_map (λ held. held.vpn) (slot_at ring slot)

-- whether the page in the slot is locked
abbrev pub lock_at : Ring → ℕ → Bool
lock_at ring slot = is_locked_slot (slot_at ring slot)

-- whether it is pinned
abbrev pub pin_at : Ring → ℕ → Bool
pin_at ring slot = is_pinned_slot (slot_at ring slot)

-- there is such a slot, and it is empty
pub record IsEmptySlot (ring : Ring) (slot : ℕ) : Type 0 where
  pub exists : slot < length ring.slots
  pub empty : slot_at ring slot ≡ None

-- the slot holds a page
abbrev pub IsFilledSlot : Ring → ℕ → Type 0
IsFilledSlot ring slot = IsSome (slot_at ring slot)

-- what a slot holds, with its page locked, or not locked
abbrev pub slot_with_lock : Option Held → Bool → Option Held
slot_with_lock None lock = None
slot_with_lock (Some held) lock = Some (record held { locked = lock })

-- with its page pinned, or not pinned
abbrev pub slot_with_pin : Option Held → Bool → Option Held
slot_with_pin None pin = None
slot_with_pin (Some held) pin = Some (record held { pinned = pin })

-- the ring with the page in the slot locked, or not locked
abbrev pub with_lock : Ring → ℕ → Bool → Ring
with_lock ring slot lock = record ring { slots = slice_set ring.slots slot (slot_with_lock (slot_at ring slot) lock) }

-- the ring with the page in the slot pinned, or not pinned
abbrev pub with_pin : Ring → ℕ → Bool → Ring
with_pin ring slot pin = record ring { slots = slice_set ring.slots slot (slot_with_pin (slot_at ring slot) pin) }

-- the hand stands on a slot, so there is one, and the numbers fit 32 bits
pub record IsRing (ring : Ring) : Type 0 where
  pub hand : ring.hand < length ring.slots
  pub numbered : length ring.slots < 2 ^ 32
  pub pages : All (λ slot. IfSome slot (λ held. held.vpn < 2 ^ 32)) ring.slots
