-- Where pages lie, by what was said of those that lie elsewhere than at first. This project's own.
use Rattle.std.specs.Prelude.{◌≡◌, ℕ, ◌<◌, Bool, true, false, List, Option, Some, None, length, slice_get, if◌then◌else◌}
use Rattle.vm_types.specs.Kinds.{is_paged_kind}
use Rattle.vm_types.specs.declared.config.SectionKind.{SectionKind}
use Rattle.vm_types.specs.declared.names.Page.{Page}
use Rattle.vm_types.specs.declared.names.Proc.{Proc}
use Rattle.vm_types.specs.declared.names.BlockId.{BlockId}
use Rattle.vm_types.specs.declared.names.BlockId.TheVariants as block
use Rattle.vm_types.specs.declared.names.Page.TheVariants.{Private, Shared}
use Rattle.shadow_tables.specs.PageTables.{Items, item_of}

abbrev pub is_paged_one : Option SectionKind → Bool
is_paged_one None = false
is_paged_one (Some kind) = is_paged_kind kind

-- where a page lies at first, by the kinds of the sections: a page of a section with a file in its block, another
-- one nowhere
abbrev pub first_by : List SectionKind → Page → Option BlockId
first_by kinds (Private p v) = None
first_by kinds (Shared s i) = if is_paged_one (slice_get kinds s.0) then None else Some (block.Section s i)

abbrev pub said_or : Option BlockId → Option (Option BlockId) → Option BlockId
said_or first None = first
said_or first (Some b) = b

-- the kinds of the sections, and what was said of pages
abbrev pub Said : Type 0
Said = List SectionKind × Items (Option BlockId)

-- the block in which a page lies: what was said of it, else where it lies at first
abbrev pub lies_by : Said → Page → Option BlockId
lies_by said g = said_or (first_by said.0 g) (item_of said.1 g)

abbrev pub is_swap : Option BlockId → Bool
is_swap (Some (block.Swap p n)) = true
is_swap other = false

abbrev pub IsListedIn : Page → List Page → Type 0
IsListedIn g pages = (k : ℕ) × (k < length pages) × (slice_get pages k ≡ Some g)

-- each page that is marked is in the list
abbrev pub AreListed : (Page → Option Bool) → List Page → Type 0
AreListed listed pages = (g : Page) → listed g ≡ Some true → IsListedIn g pages

-- each page that was said to lie in a swap block is marked and in the list
pub record AreSwapped (said : Page → Option (Option BlockId)) (listed : Page → Option Bool) (pages : List Page) : Type 0 where
  pub marked : (g : Page) (p : Proc) (n : ℕ) → said g ≡ Some (Some (block.Swap p n)) → listed g ≡ Some true
  pub within : AreListed listed pages
