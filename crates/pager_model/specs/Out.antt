-- OUT: a write begins, to a block that is home: of the page at the modified list's head, or of a leaving
-- process's page. Source: Kenah and Bate, "VAX/VMS Internals and Data Structures", the modified page
-- writer and outswap; that the modify mark is cleared when a write begins, so that it shows a change
-- during the write, is this project's own rule, as is the swap block of each slot.
use Rattle.std.specs.Prelude.{◌≡◌, ◌⊎◌, ℕ, true, false, ◌+◌, ◌<◌, List, ◌∷◌, Option, Some, None, count_by, slice_get, nat_eq, if◌then◌else◌}
use Rattle.vm_types.specs.Ring.{Held}
use Rattle.vm_types.specs.declared.names.Page.{Page}
use Rattle.vm_types.specs.declared.names.FrameState.TheVariants as state
use Rattle.vm_types.specs.declared.names.BlockId.{BlockId}
use Rattle.vm_types.specs.declared.names.BlockId.TheVariants as block
use Rattle.vm_types.specs.declared.names.ProcStatus.TheVariants as status
use Rattle.vm_types.specs.declared.config.Config.{Config}
use Rattle.vm_journal.specs.declared.entry.Entry.{Entry}
use Rattle.page_lists.specs.Lists.{without}
use Rattle.pager_model.specs.Flights.{open_flights}
use Rattle.pager_model.specs.Lookups.{IsHead, block_of, entry_of, is_assigned_to, is_owner}
use Rattle.pager_model.specs.Maps.{is_paged, is_private, proc}
use Rattle.pager_model.specs.Pager.{Assigned, Pager, Valid}
use Rattle.pager_model.specs.Sets.{at_number}
use Rattle.pager_model.specs.Transfers.{IsHome, reads_on, writes_on}

-- the block of a listed page: the section block of a page with a file; a paged page's assigned block or, if none
-- is assigned, a page file block that is free
abbrev pub IsOutBlock : Config → Pager → BlockId → Page → Type 0
IsOutBlock config a b g =
    ((is_paged config g ≡ false) × (a.lies g ≡ Some b))
    ⊎ (((n : ℕ) × (is_paged config g ≡ true) × (block_of a.assigned g ≡ Some n) × (b ≡ block.PageFile n))
    ⊎ ((n : ℕ) × (is_paged config g ≡ true) × (block_of a.assigned g ≡ None) × (b ≡ block.PageFile n) × (n < config.pagefile)
    × (count_by (is_owner (block.PageFile n)) a.assigned ≡ 0)))

-- of the modified list's head
pub record IsOut (config : Config) (past : List Entry) (a : Pager) (f : ℕ) (b : BlockId) : Type 0 where
  pub home : IsHome config b (open_flights past)
  pub head : IsHead a.modified f
  pub page : Page
  pub holds : a.page f ≡ Some page
  pub block : IsOutBlock config a b page

-- of a private page that is valid for a leaving process and not pinned, to its slot's swap block: its frame has
-- no flight, and it doesn't lie there unmodified
pub record IsOutSwap (config : Config) (past : List Entry) (a : Pager) (f : ℕ) (b : BlockId) : Type 0 where
  pub home : IsHome config b (open_flights past)
  pub page : Page
  pub holds : a.page f ≡ Some page
  pub private : is_private page ≡ true
  pub p : ℕ
  pub v : ℕ
  pub slot : ℕ
  pub block : b ≡ block.Swap (proc p) slot
  pub leaving : a.status p ≡ status.Leaving
  pub entry : Valid
  pub valid : entry_of a.valid p v ≡ Some entry
  pub frame : entry.frame ≡ f
  pub held : Held
  pub filled : slice_get (a.ring p).slots slot ≡ Some (Some held)
  pub same : held.vpn ≡ v
  pub unpinned : held.pinned ≡ false
  pub still : reads_on f (open_flights past) + writes_on f (open_flights past) ≡ 0
  pub changed : a.lies page ≡ Some b → a.modify f ≡ false → ⊥

abbrev pub IsAnyOut : Config → List Entry → Pager → ℕ → BlockId → Type 0
IsAnyOut config past a f b = IsOut config past a f b ⊎ IsOutSwap config past a f b

-- a page without an assigned block is assigned this one
abbrev pub assigned_with : List Assigned → Option Page → BlockId → List Assigned
assigned_with assigned None b = assigned
assigned_with assigned (Some g) (block.PageFile n) = if nat_eq (count_by (is_assigned_to g) assigned) 0 then (record { page = g; block = n } ∷ assigned) else assigned
assigned_with assigned (Some g) other = assigned

-- a listed frame leaves the list and is writing; the modify mark is clear
abbrev pub after_out : Pager → ℕ → BlockId → Pager
after_out a f b =
    record a {
      state = at_number a.state f state.Writing;
      modify = at_number a.modify f false;
      modified = without a.modified f;
      assigned = assigned_with a.assigned (a.page f) b;
    }

-- a leaving process's frame stays active
abbrev pub after_any_out : Pager → ℕ → BlockId → Pager
after_any_out a f (block.Swap p n) = record a { modify = at_number a.modify f false }
after_any_out a f other = after_out a f other
