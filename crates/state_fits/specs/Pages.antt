-- What is kept of charged pages, as it stands for the pager's state. This project's own.
use Rattle.std.specs.Prelude.{◌≡◌, true, List, Option, Some, None, if◌then◌else◌, length}
use Rattle.vm_types.specs.declared.config.Config.{Config}
use Rattle.vm_types.specs.declared.names.BlockId.{BlockId}
use Rattle.vm_types.specs.declared.names.Page.{Page}
use Rattle.state_parts.specs.ChargedTable.{ChargedTable, HasPagedPlaces, kept_at}
use Rattle.state_parts.specs.declared.charged_page.ChargedPage.{ChargedPage}
use Rattle.pager_model.specs.Lookups.{block_of}
use Rattle.pager_model.specs.Pager.{Assigned}
use Rattle.pager_model.specs.Sets.{has_page}

-- of a page: none if it isn't charged
unfoldable pub charged_row : List Page → List Page → (Page → Option BlockId) → List Assigned → Page → Option ChargedPage
charged_row charged touched lies assigned g =
    if has_page charged g then Some (record { touched = has_page touched g; lies = lies g; assigned = block_of assigned g }) else None

pub record PagesFit (config : Config) (row : Page → Option ChargedPage) (table : ChargedTable) : Type 0 where
  pub procs : table.procs ≡ length config.procs
  pub places : HasPagedPlaces config.sections table
  pub each : (g : Page) → kept_at table g ≡ row g

-- a page is touched
abbrev pub touched_row : Option ChargedPage → Option ChargedPage
touched_row None = None
touched_row (Some row) = Some (record row { touched = true })
