-- References through the ring of a working set, with no lock. Source: Kenah and Bate, "VAX/VMS
-- Internals and Data Structures", paging dynamics, working set replacement.
use Rattle.std.specs.Prelude.{ℕ, Bool, false, ◌+◌, ◌%◌, ◌==◌, List, [], ◌∷◌, Option, Some, None, length, not, replicate, slice_set, if◌then◌else◌}
use Rattle.std.specs.List.{list_any}
use Rattle.vm_types.specs.Ring.{Held, Ring, choose, fresh_slot}
use Rattle.vm_types.specs.declared.ring_choice.Choice.{Choice}
use Rattle.vm_types.specs.declared.ring_choice.Choice.TheVariants.{Empty, Victim, AllLocked}
use Rattle.paging_study.specs.Places.{one_if}

-- whether the slot holds the page
abbrev pub is_held : ℕ → Option Held → Bool
is_held page None = false
is_held page (Some held) = page == held.vpn

-- whether a slot of the ring holds the page
abbrev pub holds : Ring → ℕ → Bool
holds ring page = list_any (is_held page) ring.slots

-- the page in the slot, and the hand on the slot after it
abbrev pub placed : Ring → ℕ → ℕ → Ring
placed ring slot page = record { slots = slice_set ring.slots slot (fresh_slot page); hand = (slot + 1) % length ring.slots }

-- the page in the slot that the ring chose
abbrev pub replaced : Choice → Ring → ℕ → Ring
replaced (Empty slot) ring page = placed ring slot page
replaced (Victim slot) ring page = placed ring slot page
replaced AllLocked ring page = ring

-- the slot that the ring chose, 0 if it chose none
abbrev pub slot_chosen : Choice → ℕ
slot_chosen (Empty slot) = slot
slot_chosen (Victim slot) = slot
slot_chosen AllLocked = 0

-- the ring after a reference: as it was if it holds the page
abbrev pub referenced : ℕ → Ring → ℕ → Ring
referenced limit ring page = if holds ring page then ring else replaced (choose ring limit) ring page

-- how many of the references the ring does not hold
abbrev pub faults_from : ℕ → Ring → List ℕ → ℕ
faults_from limit ring [] = 0
faults_from limit ring (page ∷ pages) = one_if (not (holds ring page)) + faults_from limit (referenced limit ring page) pages

-- from an empty ring of as many slots as the limit
abbrev pub ring_faults : ℕ → List ℕ → ℕ
ring_faults limit pages = faults_from limit (record { slots = replicate limit None; hand = 0 }) pages
