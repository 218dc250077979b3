-- What a ring offers is one of its slots, and the rings of processes at first. This project's own.
use Rattle.std.specs.Prelude.{ℕ, ◌<◌, Some}
use Rattle.vm_types.specs.Ring.{Ring}
use Rattle.vm_types.specs.declared.config.ProcSpec.{ProcSpec}
use Rattle.vm_types.specs.declared.ring_choice.Choice.{Choice}
use Rattle.vm_types.specs.declared.ring_choice.Choice.TheVariants.{Empty, Victim, AllLocked}
use Rattle.pager_model.specs.Opening.{first_ring}

-- the slot, if there is one, is one of so many
abbrev pub IsWithin : ℕ → Choice → Type 0
IsWithin slots (Empty slot) = slot < slots
IsWithin slots (Victim slot) = slot < slots
IsWithin slots AllLocked = Unit {0}

abbrev pub empty_ring : ProcSpec → Ring
empty_ring spec = first_ring (Some spec)
