-- The ring slot of a page that becomes valid again, and its modify mark. Source: Kenah and Bate, "VAX/VMS
-- Internals and Data Structures", working set lists; the swap block of each slot is this project's own.
use Rattle.std.specs.Prelude.{◌≡◌, ℕ, Bool, true, ◌+◌, ◌^◌, ◌-◌, ◌<◌, ◌≤◌, Some, None, length}
use Rattle.vm_types.specs.declared.limits.TheConstants.{MOST_EXTENT}
use Rattle.vm_types.specs.PagePlaces.{changed_at}
use Rattle.vm_types.specs.Ring.{Held, choose, filled}
use Rattle.vm_types.specs.declared.names.BlockId.TheVariants as block
use Rattle.vm_types.specs.declared.names.Page.TheVariants.{Private}
use Rattle.vm_types.specs.declared.names.Proc.{Proc}
use Rattle.vm_types.specs.declared.names.ProcStatus.{ProcStatus}
use Rattle.vm_types.specs.declared.names.ProcStatus.TheVariants as status
use Rattle.vm_types.specs.declared.ring_choice.Choice.TheVariants.{Empty}
use Rattle.working_set.specs.Slots.{IsEmptySlot}
use Rattle.pager_model.specs.Maps.{proc}
use Rattle.pager_model.specs.Ring.{placed, slotted}
use Rattle.state_parts.specs.ChargedTable.{ChargedTable, IsTableSet, kept_at}
use Rattle.state_parts.specs.SwapTable.{SwapTable, swapped_at}
use Rattle.state_parts.specs.declared.charged_page.ChargedPage.{ChargedPage}
use Rattle.state_parts.specs.declared.process_row.ProcessRow.{ProcessRow}

-- of a resident process: its ring has room
pub record CanFault (x : ProcessRow) : Type 0 where
  pub below : filled x.ring.slots < x.limit
  pub limit : x.limit ≤ length x.ring.slots
  pub few : x.faults < 2 ^ 64 - 1

-- of a process that comes back: the page lies in the swap block of an empty slot
pub record CanComeHome (p v : ℕ) (x : ProcessRow) (pages : ChargedTable) (swaps : SwapTable) : Type 0 where
  pub procs : p < swaps.procs
  pub charged : ChargedPage
  pub kept : kept_at pages (Private (proc p) v) ≡ Some charged
  pub of : Proc
  pub slot : ℕ
  pub lies : charged.lies ≡ Some (block.Swap of slot)
  pub few : slot < MOST_EXTENT
  pub empty : IsEmptySlot x.ring slot

abbrev pub CanTakeSlot : ProcStatus → ℕ → ℕ → ProcessRow → ChargedTable → SwapTable → Type 0
CanTakeSlot status.Coming p v x pages swaps = CanComeHome p v x pages swaps
CanTakeSlot other p v x pages swaps = CanFault x

-- the slot that the ring offers, and one fault more
pub record HasFaulted (v : ℕ) (x x' : ProcessRow) (slot : ℕ) : Type 0 where
  pub offered : choose x.ring x.limit ≡ Empty slot
  pub row : x' ≡ record x { ring = placed x.ring x.limit v; faults = x.faults + 1 }

-- the slot in whose swap block the page lay; no page lies there now
pub record HasComeHome (p v : ℕ) (x x' : ProcessRow) (pages pages' : ChargedTable) (swaps swaps' : SwapTable) (slot : ℕ) : Type 0 where
  pub charged : ChargedPage
  pub kept : kept_at pages (Private (proc p) v) ≡ Some charged
  pub of : Proc
  pub lies : charged.lies ≡ Some (block.Swap of slot)
  pub row : x' ≡ record x { ring = slotted x.ring slot v }
  pub pages_changed : IsTableSet pages pages' (Private (proc p) v) (Some (record charged { lies = None }))
  pub swaps_procs : swaps'.procs ≡ swaps.procs
  pub swaps_changed : (q m : ℕ) → swapped_at swaps' q m ≡ changed_at (swapped_at swaps) p slot None q m

abbrev pub TakesSlot : ProcStatus → ℕ → ℕ → ProcessRow → ProcessRow → ChargedTable → ChargedTable → SwapTable → SwapTable → ℕ → Type 0
TakesSlot status.Coming p v x x' pages pages' swaps swaps' slot = HasComeHome p v x x' pages pages' swaps swaps' slot
TakesSlot other p v x x' pages pages' swaps swaps' slot = HasFaulted v x x' slot × (pages' ≡ pages) × (swaps' ≡ swaps)

-- the modify mark of a page that becomes valid: one that leaves its swap block counts as modified, as no block has it
-- then
abbrev pub mark_back : ProcStatus → Bool → Bool
mark_back status.Coming modify = true
mark_back other modify = modify

-- the page number in a slot, and whether it is locked, and pinned
abbrev pub held_parts : Held → ℕ × Bool × Bool
held_parts held = (held.vpn, held.locked, held.pinned)
