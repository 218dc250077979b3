-- What the readers of processes and lists show. This project's own.
use Rattle.std.specs.Prelude.{◌≡◌, ℕ, ◌+◌, List, Option, Some, None, length, slice_get, if◌then◌else◌}
use Rattle.vm_types.specs.Adjust.{adjust}
use Rattle.vm_types.specs.Ring.{Held}
use Rattle.vm_types.specs.declared.config.Config.{Config}
use Rattle.vm_types.specs.declared.config.ProcSpec.{ProcSpec}
use Rattle.page_lists.specs.Lists.{count_of}
use Rattle.page_lists.specs.declared.list_name.ListName.{ListName}
use Rattle.pager_model.specs.Maps.{pfn}
use Rattle.pager_model.specs.Lookups.{entry_of, is_pending, slot_of}
use Rattle.pager_model.specs.Pager.{Pager, Valid}
use Rattle.vm_state.specs.Readings.{listed}
use Rattle.state_pages.specs.declared.found.Slot.{Slot}

-- the limit that the adjustment gives, and the faults since the last one
abbrev pub adjusted_for : Config → Pager → ℕ → Option ProcSpec → Option (ℕ × ℕ)
adjusted_for config a p None = None
adjusted_for config a p (Some spec) = Some (adjust config.params spec (a.faults p) (a.limit p) (length a.free), a.faults p)

-- none if no adjustment is pending
abbrev pub pending_in : Config → Pager → ℕ → Option (ℕ × ℕ)
pending_in config a p = if is_pending config (a.references p) then adjusted_for config a p (slice_get config.procs p) else None

-- a page in a slot: its number, the frame of its valid entry, and whether it is locked, and pinned
abbrev pub slot_by : Held → Option Valid → Option Slot
slot_by held None = None
slot_by held (Some e) = Some (record { vpn = held.vpn; frame = pfn e.frame; locked = held.locked; pinned = held.pinned })

abbrev pub slot_with : List Valid → ℕ → Option Held → Option Slot
slot_with valid p None = None
slot_with valid p (Some held) = slot_by held (entry_of valid p held.vpn)

abbrev pub slot_in : Pager → ℕ → ℕ → Option Slot
slot_in a p n = slot_with a.valid p (slot_of (slice_get (a.ring p).slots n))

-- wherever the frame stands on a list, this is what stands in the next place; none if it is the last, or on no list
pub record IsAfter (a : Pager) (f : ℕ) (next : Option ℕ) : Type 0 where
  pub after : (l : ListName) (place : ℕ) → slice_get (listed a l) place ≡ Some f → next ≡ slice_get (listed a l) (place + 1)
  pub alone : count_of a.free f ≡ 0 → count_of a.modified f ≡ 0 → next ≡ None
