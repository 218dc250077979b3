-- Changes of a working set list. Source: Kenah and Bate, "VAX/VMS Internals and Data Structures",
-- working set replacement; that a page comes back to its slot is this project's own.
use Rattle.std.specs.Prelude.{ℕ, Bool, false, ◌+◌, ◌%◌, Option, Some, None, length, map, slice_set, if◌then◌else◌}
use Rattle.vm_types.specs.Ring.{fresh_slot, Ring, Held, choose}
use Rattle.vm_types.specs.declared.ring_choice.Choice.{Choice}
use Rattle.vm_types.specs.declared.ring_choice.Choice.TheVariants.{Empty}
use Rattle.pager_model.specs.FlatService.{in_range}

-- the ring with a page put into the slot that is offered below the limit; the hand goes on
abbrev pub placed_at : Choice → Ring → ℕ → Ring
placed_at (Empty slot) ring v =
    record { slots = slice_set ring.slots slot (fresh_slot v); hand = (slot + 1) % length ring.slots }
placed_at other ring v = ring

abbrev pub placed : Ring → ℕ → ℕ → Ring
placed ring limit v = placed_at (choose ring limit) ring v

-- the ring with a page put into this slot
abbrev pub slotted : Ring → ℕ → ℕ → Ring
slotted ring slot v = record ring { slots = slice_set ring.slots slot (fresh_slot v) }

-- the ring with the slot emptied and the hand on it
abbrev pub cleared : Ring → ℕ → Ring
cleared ring slot = record { slots = slice_set ring.slots slot None; hand = slot }

abbrev pub unlocked_slot : Option Held → Option Held
unlocked_slot None = None
unlocked_slot (Some held) = Some (record held { locked = false })

-- the ring with no slot locked; pins stay
abbrev pub unlocked : Ring → Ring
unlocked ring = record { slots = map unlocked_slot ring.slots; hand = ring.hand }

abbrev pub relocked_slot : Bool → ℕ → ℕ → Option Held → Option Held
relocked_slot lock address pages None = None
relocked_slot lock address pages (Some held) = Some (record held { locked = if in_range address pages held.vpn then lock else held.locked })

-- the ring with the pages of a range locked, or unlocked
abbrev pub range_locked : Bool → ℕ → ℕ → Ring → Ring
range_locked lock address pages ring = record { slots = map (relocked_slot lock address pages) ring.slots; hand = ring.hand }

abbrev pub repinned_slot : Bool → ℕ → ℕ → Option Held → Option Held
repinned_slot pin address pages None = None
repinned_slot pin address pages (Some held) = Some (record held { pinned = if in_range address pages held.vpn then pin else held.pinned })

-- the ring with the pages of a range pinned, or unpinned
abbrev pub range_pinned : Bool → ℕ → ℕ → Ring → Ring
range_pinned pin address pages ring = record { slots = map (repinned_slot pin address pages) ring.slots; hand = ring.hand }
