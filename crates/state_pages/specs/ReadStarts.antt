-- A read begins: its page, and what a fault counts and charges. Source: Kenah and Bate, "VAX/VMS Internals and Data
-- Structures", paging dynamics, page reads; that a fault charges its page is this project's own.
use Rattle.std.specs.Prelude.{◌≡◌, ◌+◌, ◌-◌, ◌^◌, ◌<◌, List, Option, Some, length, slice_get, slice_set}
use Rattle.std.specs.Option.{option_map}
use Rattle.vm_types.specs.declared.config.Config.{Config}
use Rattle.vm_types.specs.declared.names.Page.{Page}
use Rattle.vm_journal.specs.declared.entry.Role.{Role}
use Rattle.vm_journal.specs.declared.entry.Role.TheVariants as role
use Rattle.page_file.specs.Blocks.{Blocks}
use Rattle.state_pages.specs.Moves.{MayCharge}
use Rattle.section_table.specs.SectionTable.{SectionTable, behind_of}
use Rattle.pager_model.specs.Maps.{page_behind, page_number}
use Rattle.state_parts.specs.ChargedTable.{ChargedTable, IsTableSet, kept_at}
use Rattle.state_parts.specs.declared.process_row.ProcessRow.{ProcessRow}
use Rattle.state_fits.specs.ReadBegins.{charged_in, file_charged}

-- the page that a read brings in, if its process has one there
abbrev pub page_read : Config → SectionTable → Role → Option Page
page_read config sections (role.Fault q a) = option_map (page_behind config q.0 (page_number a.0)) (behind_of sections q.0 (page_number a.0))
page_read config sections (role.Near page) = Some page
page_read config sections (role.Come q a) = option_map (page_behind config q.0 (page_number a.0)) (behind_of sections q.0 (page_number a.0))

-- one fault more may be counted of the process whose fault it is
abbrev pub MayCountFault : Role → List ProcessRow → Type 0
MayCountFault (role.Fault q a) rows = (q.0 < length rows) × ((x : ProcessRow) → slice_get rows q.0 ≡ Some x → x.faults < 2 ^ 64 - 1)
MayCountFault other rows = Unit {0}

abbrev pub CountsFault : Role → List ProcessRow → List ProcessRow → Type 0
CountsFault (role.Fault q a) rows rows' = (x : ProcessRow) × (slice_get rows q.0 ≡ Some x) × (rows' ≡ slice_set rows q.0 (record x { faults = x.faults + 1 }))
CountsFault other rows rows' = rows' ≡ rows

-- a fault charges its page, if it wasn't charged before
abbrev pub MayChargeFault : Role → Page → ChargedTable → Blocks → Type 0
MayChargeFault (role.Fault q a) page pages file = MayCharge pages file page
MayChargeFault other page pages file = Unit {0}

pub record IsCharged (page : Page) (pages pages' : ChargedTable) (file file' : Blocks) : Type 0 where
  pub rows : IsTableSet pages pages' page (charged_in page (kept_at pages page))
  pub charge : file' ≡ file_charged page (kept_at pages page) file

abbrev pub ChargesFault : Role → Page → ChargedTable → ChargedTable → Blocks → Blocks → Type 0
ChargesFault (role.Fault q a) page pages pages' file file' = IsCharged page pages pages' file file'
ChargesFault other page pages pages' file file' = (pages' ≡ pages) × (file' ≡ file)
