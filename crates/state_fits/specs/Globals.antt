-- The global pages as they stand for the pager's state. Source: Kenah and Bate, "VAX/VMS Internals and Data
-- Structures", memory structures, global pages.
use Rattle.std.specs.Prelude.{◌≡◌, ℕ, List, Option, Some, None, length, sum_by}
use Rattle.std.specs.Option.{option_map}
use Rattle.vm_types.specs.Configuration.{IsSectionPage, section_pages}
use Rattle.vm_types.specs.declared.config.Config.{Config}
use Rattle.vm_types.specs.declared.names.Page.{Page}
use Rattle.vm_types.specs.declared.names.Page.TheVariants.{Shared}
use Rattle.vm_types.specs.declared.names.SecId.{SecId}
use Rattle.global_pages.specs.GlobalPages.{GlobalPages, count_of, frame_of}
use Rattle.pager_model.specs.Forget.{holder}
use Rattle.pager_model.specs.Maps.{pfn}
use Rattle.pager_model.specs.Lookups.{shares}
use Rattle.pager_model.specs.Pager.{Valid}
use Rattle.state_fits.specs.Entries.{section_page_number}

-- the valid entries for the frame that holds a page
abbrev pub shares_held : List Valid → Option ℕ → ℕ
shares_held valid None = 0
shares_held valid (Some f) = shares valid f

pub record GlobalsFit (config : Config) (page : ℕ → Option Page) (valid : List Valid) (table : GlobalPages) : Type 0 where
  pub count : length table.frames ≡ sum_by section_pages config.sections
  pub counts : length table.counts ≡ sum_by section_pages config.sections
  pub frames : (s : SecId) (i : ℕ) → IsSectionPage config.sections s.0 i → frame_of table (section_page_number config s.0 i) ≡ option_map pfn (holder config page (Shared s i))
  pub shared : (s : SecId) (i : ℕ) → IsSectionPage config.sections s.0 i → count_of table (section_page_number config s.0 i) ≡ shares_held valid (holder config page (Shared s i))
