-- The page that a process has at a page number, by what the section table has behind it.
use Rattle.std.proofs.Common.{◌≡◌, ℕ, Option, Some, None, refl, ap, ◌∙◌}
use Rattle.std.specs.Option.{option_map}
use Rattle.vm_types.specs.declared.config.Config.{Config}
use Rattle.section_table.specs.SectionTable.{SectionTable, behind_of}
use Rattle.pager_model.specs.Lookups.{page_at, page_by}
use Rattle.pager_model.specs.Maps.{Map, Mapped, page_behind}
use Rattle.state_fits.specs.Entries.{SectionsFit, origin_of}

pub page_shown : (config : Config) (map : Map) (table : SectionTable) (p v : ℕ) → SectionsFit config (origin_of map) table → option_map (page_behind config p v) (behind_of table p v) ≡ page_by config map p v
page_shown config map table p v fit = ap (option_map (page_behind config p v)) (fit.each p v) ∙ by (map p v)
  where
    by : (o : Option Mapped) → option_map (page_behind config p v) (option_map (λ (m : Mapped). m.origin) o) ≡ page_at config p v o
    by None = refl
    by (Some m) = refl
