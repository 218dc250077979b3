-- What the calls of SERVED's changes require of the parts.
use Rattle.std.proofs.Common.{◌≡◌, ℕ, ◌<◌, List, Option, Some, None, length, is_some, sym, ap, ◌∙◌, subst}
use Rattle.std.specs.Prelude.{IsSome}
use Rattle.std.specs.Option.{option_map}
use Rattle.vm_types.specs.PagePlaces.{region_place}
use Rattle.vm_types.specs.declared.config.Config.{Config}
use Rattle.vm_types.specs.declared.names.Page.{Page}
use Rattle.vm_journal.specs.declared.entry.Entry.{Entry}
use Rattle.page_tables.specs.PageTables.{IsMapped, pte_in, HasPage as HasEntryPage}
use Rattle.section_table.specs.SectionTable.{behind_of, HasPage as HasSectionPage}
use Rattle.pager_model.specs.Forget.{holder}
use Rattle.pager_model.specs.Lookups.{entry_of, page_by}
use Rattle.pager_model.specs.Maps.{Mapped}
use Rattle.pager_model.specs.Pager.{Pager}
use Rattle.state_parts.specs.ChargedTable.{HasPage as HasChargedPage}
use Rattle.pager_laws.proofs.ValidEntries.{mapping_of}
use Rattle.state_fits.specs.Entries.{pte_at, pte_of}
use Rattle.state_fits.specs.Parts.{Parts}
use Rattle.state_fits.specs.PartsFit.{PartsFit}
use Rattle.state_fits.proofs.ShownEntries.{shown}

-- ---- entries
-- ---- a page that is mapped, or isn't, as the parts show it
module _ (config : Config) (past : List Entry) (a : Pager) (parts : Parts) (fit : PartsFit config past a parts) (p v : ℕ) where
  pub mapped_entry : (g : Page) → page_by config a.map p v ≡ Some g → IsMapped parts.tables p v
  mapped_entry g is =
      let found = mapping_of config a.map p v g is in
      ap is_some (fit.tables.each p v ∙ shown config a.map a.valid a.page a.lies p v found.0 found.1)

  pub mapped_behind : (g : Page) → page_by config a.map p v ≡ Some g → IsSome (behind_of parts.sections p v)
  mapped_behind g is =
      let found = mapping_of config a.map p v g is in
      ap is_some (fit.sections.each p v ∙ ap (option_map (λ (m : Mapped). m.origin)) found.1)

  pub unmapped_entry : a.map p v ≡ None → pte_in parts.tables p v ≡ None
  unfolding pte_of
  unmapped_entry none = fit.tables.each p v ∙ ap (λ (o : Option Mapped). pte_at config p v (holder config a.page) a.lies (entry_of a.valid p v) o) none

  pub unmapped_behind : a.map p v ≡ None → behind_of parts.sections p v ≡ None
  unmapped_behind none = fit.sections.each p v ∙ ap (option_map (λ (m : Mapped). m.origin)) none

  -- the tables have a page of a process that may be mapped
  pub has_pages : p < length config.procs → IsSome (region_place v) → HasEntryPage parts.tables p v × HasSectionPage parts.sections p v × HasChargedPage parts.pages p v
  has_pages there place = (
    record { proc = subst (λ (n : ℕ). p < n) (sym fit.tables.procs) there; page = place },
    record { proc = subst (λ (n : ℕ). p < n) (sym fit.sections.procs) there; page = place },
    record { proc = subst (λ (n : ℕ). p < n) (sym fit.pages.procs) there; page = place },
  )
