-- What the parts of the state show of a page. No contract of a public call names these definitions.
use Rattle.std.specs.Prelude.{◌≡◌, ℕ, ◌<◌, Bool, true, false, not, List, Option, Some, None, slice_get, if◌then◌else◌}
use Rattle.vm_types.specs.Configuration.{section_pages}
use Rattle.vm_types.specs.Kinds.{is_paged_kind}
use Rattle.vm_types.specs.declared.config.Config.{Config}
use Rattle.vm_types.specs.declared.config.Origin.{Origin}
use Rattle.vm_types.specs.declared.config.Section.{Section}
use Rattle.vm_types.specs.declared.names.BlockId.{BlockId}
use Rattle.vm_types.specs.declared.names.BlockId.TheVariants as block
use Rattle.vm_types.specs.declared.names.Page.{Page}
use Rattle.vm_types.specs.declared.names.Page.TheVariants.{Private, Shared}
use Rattle.vm_types.specs.declared.names.Pfn.{Pfn}
use Rattle.vm_types.specs.declared.names.SecId.{SecId}
use Rattle.pte_forms.specs.declared.pte.Place.{Place}
use Rattle.pte_forms.specs.declared.pte.Place.TheVariants as place
use Rattle.pte_forms.specs.declared.pte.Pte.{Pte}
use Rattle.pager_model.specs.Maps.{is_paged, page_behind, proc}
use Rattle.pager_model.specs.OfConfig.{IsMappable}
use Rattle.state_parts.specs.ChargedTable.{ChargedTable, kept_at}
use Rattle.state_parts.specs.declared.charged_page.ChargedPage.{ChargedPage}
use Rattle.state_pages.specs.declared.found.Backing.{Backing}
use Rattle.state_pages.specs.declared.found.Found.{Found}

abbrev pub is_valid : Place → Bool
is_valid (place.Valid modify f) = true
is_valid other = false

-- by what is behind a page, and by its entry
abbrev pub found_shown : Config → ℕ → ℕ → Option Origin → Option Pte → Option Found
found_shown config p v None entry = None
found_shown config p v (Some from) None = None
found_shown config p v (Some from) (Some pte) =
    Some (record { page = page_behind config p v from; from = from; prot = pte.prot; valid = is_valid pte.place })

-- the frame that the entry of a private page names
abbrev pub frame_at : Place → Option Pfn
frame_at (place.Valid modify f) = Some f
frame_at (place.Transition f) = Some f
frame_at other = None

abbrev pub frame_named : Option Pte → Option Pfn
frame_named None = None
frame_named (Some pte) = frame_at pte.place

-- by what is kept of a private page that is charged, and by its entry
abbrev pub own_backing : Option ChargedPage → Option Pte → Backing
own_backing None entry = record { charged = false; lies = None; assigned = None; frame = None }
own_backing (Some row) entry = record { charged = true; lies = row.lies; assigned = row.assigned; frame = frame_named entry }

-- where a shared page lies that isn't charged
abbrev pub shared_home : Config → SecId → ℕ → Option BlockId
shared_home config s i = if is_paged config (Shared s i) then None else Some (block.Section s i)

-- by what is kept of a shared page that is charged, by where it lies else, and by its frame
abbrev pub shared_backing : Option ChargedPage → Option BlockId → Option Pfn → Backing
shared_backing None home frame = record { charged = false; lies = home; assigned = None; frame = frame }
shared_backing (Some row) home frame = record { charged = true; lies = row.lies; assigned = row.assigned; frame = frame }

abbrev pub is_touched_row : Option ChargedPage → Bool
is_touched_row None = false
is_touched_row (Some row) = row.touched

-- whether a page is charged that isn't touched
abbrev pub is_waiting : Option ChargedPage → Bool
is_waiting None = false
is_waiting (Some row) = not row.touched

pub record HasWaiting (table : ChargedTable) : Type 0 where
  pub page : Page
  pub waits : is_waiting (kept_at table page) ≡ true

-- no page of a process waits
abbrev pub NoneWaits : ChargedTable → ℕ → Type 0
NoneWaits table p = (v : ℕ) → IsMappable v → is_waiting (kept_at table (Private (proc p) v)) ≡ false

-- nor of a section in the page file
abbrev pub paged_pages : Section → ℕ
paged_pages section = if is_paged_kind section.kind then section_pages section else 0

abbrev pub NoneShared : ChargedTable → List Section → ℕ → Type 0
NoneShared table sections s = (x : Section) → slice_get sections s ≡ Some x → (i : ℕ) → i < paged_pages x → is_waiting (kept_at table (Shared (record { 0 = s }) i)) ≡ false
