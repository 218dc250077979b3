-- What a page must have before its places move: its number, its entry, its row. This project's own.
use Rattle.std.specs.Prelude.{◌≡◌, ℕ, ◌+◌, ◌^◌, ◌<◌, List, None, length, slice_index}
use Rattle.vm_types.specs.declared.names.Page.{Page}
use Rattle.vm_types.specs.declared.names.Page.TheVariants.{Private, Shared}
use Rattle.global_pages.specs.GlobalPages.{GlobalPages, IsGlobalPage}
use Rattle.page_file.specs.Blocks.{Blocks}
use Rattle.page_tables.specs.PageTables.{IsMapped, PageTables}
use Rattle.state_parts.specs.ChargedTable.{ChargedTable, HasPlace, kept_at}

-- by the numbers of the sections' first pages; a private page has none
abbrev pub number_by : List ℕ → Page → ℕ
number_by firsts (Private p v) = 0
number_by firsts (Shared s i) = slice_index firsts s.0 + i

abbrev pub HasNumber : List ℕ → Page → Type 0
HasNumber firsts (Private p v) = Unit {0}
HasNumber firsts (Shared s i) = (s.0 < length firsts) × (slice_index firsts s.0 + i < 2 ^ 32)

abbrev pub MayHold : PageTables → GlobalPages → ℕ → ℕ → Page → Type 0
MayHold tables globals f number (Private p v) = IsMapped tables p.0 v × (f < 2 ^ 21)
MayHold tables globals f number (Shared s i) = IsGlobalPage globals number

abbrev pub MayCharge : ChargedTable → Blocks → Page → Type 0
MayCharge pages file (Private p v) = HasPlace pages (Private p v) × (kept_at pages (Private p v) ≡ None → file.charged < length file.owners)
MayCharge pages file (Shared s i) = Unit {0}
