-- The slot that a working set ring offers, by what is in it and in the slots that the hand passes.
-- Source: Kenah and Bate, "VAX/VMS Internals and Data Structures", paging dynamics, working set
-- replacement; that only the hand's order counts is this project's own.
use Rattle.std.specs.Prelude.{◌≡◌, ℕ, false, ◌+◌, ◌-◌, ◌%◌, ◌<◌, ◌≤◌, Option, All, length, IsTrue, IsSome, IfSome, IsSomeAnd}
use Rattle.vm_types.specs.Ring.{Held, Ring, filled, is_fixed}
use Rattle.vm_types.specs.declared.ring_choice.Choice.{Choice}
use Rattle.vm_types.specs.declared.ring_choice.Choice.TheVariants.{Empty, Victim, AllLocked}
use Rattle.working_set.specs.Slots.{slot_at, IsEmptySlot}

-- how many places the hand goes on, going round, until it stands on the slot
abbrev pub places_to : Ring → ℕ → ℕ
places_to ring slot = (slot + length ring.slots - ring.hand) % length ring.slots

-- each slot that the hand passes before it comes to this one is so
abbrev pub AllBefore : (Option Held → Type 0) → Ring → ℕ → Type 0
AllBefore P ring slot = (k : ℕ) → k < length ring.slots → places_to ring k < places_to ring slot → P (slot_at ring k)

-- a page that is neither locked nor pinned
abbrev pub IsLoose : Option Held → Type 0
IsLoose slot = IsSomeAnd slot (λ held. is_fixed held ≡ false)

-- no page, or one that is locked or pinned
abbrev pub IsEmptyOrFixed : Option Held → Type 0
IsEmptyOrFixed slot = IfSome slot (λ held. IsTrue (is_fixed held))

-- the count is below the limit, and this is the first empty slot that the hand comes to
pub record OffersEmpty (ring : Ring) (limit slot : ℕ) : Type 0 where
  pub below : filled ring.slots < limit
  pub empty : IsEmptySlot ring slot
  pub before : AllBefore IsSome ring slot

-- the count is at the limit or above, and this is the first slot with a page that is
-- neither locked nor pinned that the hand comes to
pub record OffersVictim (ring : Ring) (limit slot : ℕ) : Type 0 where
  pub full : limit ≤ filled ring.slots
  pub exists : slot < length ring.slots
  pub loose : IsLoose (slot_at ring slot)
  pub before : AllBefore IsEmptyOrFixed ring slot

-- the count is at the limit or above, and every page is locked or pinned
pub record OffersNone (ring : Ring) (limit : ℕ) : Type 0 where
  pub full : limit ≤ filled ring.slots
  pub fixed : All IsEmptyOrFixed ring.slots

-- what each choice says of the ring and the limit
abbrev pub Offers : Ring → ℕ → Choice → Type 0
Offers ring limit (Empty slot) = OffersEmpty ring limit slot
Offers ring limit (Victim slot) = OffersVictim ring limit slot
Offers ring limit AllLocked = OffersNone ring limit
