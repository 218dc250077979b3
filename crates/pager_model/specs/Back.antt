-- BACK: a fault takes a page back that is still in a frame, without a transfer. Source: Kenah and Bate,
-- "VAX/VMS Internals and Data Structures", paging dynamics, page faults for pages in transition and for
-- global pages; that a page whose write is in progress becomes valid at once is this project's own.
use Rattle.std.specs.Prelude.{◌≡◌, ◌⊎◌, ℕ, Bool, true, false, ◌+◌, ◌<◌, ◌∷◌, Option, Some, None}
use Rattle.vm_types.specs.Ring.{filled}
use Rattle.vm_types.specs.declared.names.Page.{Page}
use Rattle.vm_types.specs.declared.names.FrameState.{FrameState}
use Rattle.vm_types.specs.declared.names.FrameState.TheVariants as state
use Rattle.vm_types.specs.declared.names.BlockId.{BlockId}
use Rattle.vm_types.specs.declared.names.BlockId.TheVariants as block
use Rattle.vm_types.specs.declared.names.ProcStatus.{ProcStatus}
use Rattle.vm_types.specs.declared.names.ProcStatus.TheVariants as status
use Rattle.vm_types.specs.declared.config.Config.{Config}
use Rattle.page_lists.specs.Lists.{without}
use Rattle.pager_model.specs.Changes.{lies_nowhere, swap_slot, valid_at}
use Rattle.pager_model.specs.Lookups.{entries_at, page_by}
use Rattle.pager_model.specs.Maps.{page_number, proc}
use Rattle.pager_model.specs.Own.{IsResident}
use Rattle.pager_model.specs.Pager.{Pager}
use Rattle.pager_model.specs.Ring.{placed, slotted}
use Rattle.pager_model.specs.Sets.{at_number}

abbrev pub may_come_back : FrameState → Bool
may_come_back state.Bad = false
may_come_back state.Reading = false
may_come_back state.ReadError = false
may_come_back other = true

-- of a resident process, the seat's own, with room below its limit
pub record IsBack (config : Config) (a : Pager) (p address f : ℕ) (from : FrameState) : Type 0 where
  pub own : IsResident config a p
  pub page : Page
  pub mapped : page_by config a.map p (page_number address) ≡ Some page
  pub holds : a.page f ≡ Some page
  pub not_valid : entries_at a.valid p (page_number address) ≡ 0
  pub state : a.state f ≡ from
  pub may : may_come_back from ≡ true
  pub below_limit : filled (a.ring p).slots < a.limit p

-- of a coming process, by any seat, from the free list: the page lies in the swap block of its slot
pub record IsBackComing (config : Config) (a : Pager) (p address f : ℕ) (from : FrameState) : Type 0 where
  pub coming : a.status p ≡ status.Coming
  pub page : Page
  pub mapped : page_by config a.map p (page_number address) ≡ Some page
  pub holds : a.page f ≡ Some page
  pub not_valid : entries_at a.valid p (page_number address) ≡ 0
  pub free : from ≡ state.Free
  pub state : a.state f ≡ from
  pub slot : ℕ
  pub lies : a.lies page ≡ Some (block.Swap (proc p) slot)

abbrev pub IsAnyBack : Config → Pager → ℕ → ℕ → ℕ → ℕ → FrameState → Type 0
IsAnyBack config a seat p address f from = ((p ≡ seat) × IsBack config a p address f from) ⊎ IsBackComing config a p address f from

-- the page's slot, by the block in which it lies
abbrev pub block_slot : Option BlockId → ℕ
block_slot None = 0
block_slot (Some b) = swap_slot b

abbrev pub lies_of : (Page → Option BlockId) → Option Page → Option BlockId
lies_of lies None = None
lies_of lies (Some g) = lies g

-- the frame leaves its list and is active; the entry is valid, in its slot, the modify mark is set, and
-- the page lies nowhere
abbrev pub after_back_coming : Pager → ℕ → ℕ → ℕ → Pager
after_back_coming a p address f =
    let v = page_number address in
    record a {
      state = at_number a.state f state.Active;
      modify = at_number a.modify f true;
      free = without a.free f;
      ring = at_number a.ring p (slotted (a.ring p) (block_slot (lies_of a.lies (a.page f))) v);
      valid = valid_at p v f ∷ a.valid;
      lies = lies_nowhere a.lies (a.page f);
    }

-- the frame leaves its list and is active; the entry is valid, in the ring's place; one more fault
abbrev pub after_back : Pager → ℕ → ℕ → ℕ → Pager
after_back a p address f =
    let v = page_number address in
    record a {
      state = at_number a.state f state.Active;
      free = without a.free f;
      modified = without a.modified f;
      ring = at_number a.ring p (placed (a.ring p) (a.limit p) v);
      faults = at_number a.faults p (a.faults p + 1);
      valid = valid_at p v f ∷ a.valid;
    }

abbrev pub after_any_back : Pager → ProcStatus → ℕ → ℕ → ℕ → Pager
after_any_back a status.Coming p address f = after_back_coming a p address f
after_any_back a other p address f = after_back a p address f
