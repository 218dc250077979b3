-- A page that a frame holds can become valid: what the calls require.
use Rattle.std.proofs.Common.{◌≡◌, ℕ, ◌-◌, ◌^◌, ◌<◌, ◌≤◌, false, List, Option, Some, length, refl, sym, ap, ◌∙◌, subst, arith}
use Rattle.std.specs.Prelude.{IfSome, IsSome}
use Rattle.vm_types.specs.Configuration.{IsWellFormed}
use Rattle.vm_types.specs.declared.config.Config.{Config}
use Rattle.vm_types.specs.declared.names.Page.{Page}
use Rattle.vm_types.specs.declared.names.Page.TheVariants.{Private, Shared}
use Rattle.vm_journal.specs.declared.entry.Entry.{Entry}
use Rattle.global_pages.specs.GlobalPages.{GlobalPages, IsGlobalPage, count_of}
use Rattle.page_tables.specs.PageTables.{IsEntry, IsMapped, pte_in}
use Rattle.pfn_database.specs.Frames.{row_of}
use Rattle.pfn_database.specs.declared.row.Row.{Row}
use Rattle.pte_forms.specs.declared.pte.Place.TheVariants as place
use Rattle.pte_forms.specs.declared.pte.Pte.{Pte}
use Rattle.pager_model.specs.Around.{past_view}
use Rattle.pager_model.specs.Flights.{open_flights}
use Rattle.pager_model.specs.Lookups.{entry_of, is, page_by, shares}
use Rattle.pager_model.specs.OfConfig.{IsOfConfig}
use Rattle.pager_model.specs.Pager.{Pager}
use Rattle.pager_rules.specs.Kept.{IsKept}
use Rattle.pager_laws.proofs.Holders.{holder_there, holds_within}
use Rattle.pager_laws.proofs.SectionNumbers.{number_within}
use Rattle.pager_laws.proofs.EntryPages.{mapped_right}
use Rattle.state_fits.specs.Entries.{section_page_number}
use Rattle.state_fits.specs.Globals.{shares_held}
use Rattle.state_fits.specs.Parts.{Parts}
use Rattle.state_fits.specs.PartsFit.{PartsFit}
use Rattle.state_fits.proofs.FewShares.{few_shares}
use Rattle.state_fits.proofs.FrameRows.{row_read}
use Rattle.state_fits.proofs.GoodEntries.{good_valid}
use Rattle.state_fits.proofs.KnownEntries.{placed_entry, pte_known}

-- a page whose count of valid entries can go up
abbrev pub CanShare : Config → GlobalPages → Page → Type 0
CanShare config table (Private p v) = Unit {0}
CanShare config table (Shared s i) = IsGlobalPage table (section_page_number config s.0 i) × (count_of table (section_page_number config s.0 i) < 2 ^ 32 - 1)

-- a page that frame f holds can become valid at page number v of process p
pub record CanEnter (config : Config) (p v f : ℕ) (parts : Parts) : Type 0 where
  pub below : f < length parts.frames.rows
  pub held : IsSome (row_of parts.frames f).page
  pub page : (g : Page) → (row_of parts.frames f).page ≡ Some g → IfSome (row_of parts.frames f).page (λ (h : Page). h ≡ g)
  pub shares : (row_of parts.frames f).shares < 2 ^ 32 - 1
  pub global : (g : Page) → (row_of parts.frames f).page ≡ Some g → CanShare config parts.globals g
  pub mapped : IsMapped parts.tables p v
  pub entry : (pte : Pte) → pte_in parts.tables p v ≡ Some pte → IsEntry (record pte { place = place.Valid false (record { 0 = f }) })

module _ (config : Config) (past : List Entry) (a : Pager) (p v f : ℕ) (g : Page) (parts : Parts) (formed : IsWellFormed config) (kept : IsKept config (past_view past) a) (right : IsOfConfig config a) (fit : PartsFit config past a parts)
    (own : page_by config a.map p v ≡ Some g) (holds : a.page f ≡ Some g) where
  less : f < config.frames
  less = holds_within config (past_view past) a f g kept holds

  few : shares a.valid f ≤ 2 ^ 26
  few = few_shares config (past_view past) a f formed kept right

  can_share : (h : Page) → a.page f ≡ Some h → CanShare config parts.globals h
  can_share (Private q w) is = tt
  can_share (Shared s i) is =
      let section = (right.held f (Shared s i) is).0 in
      let within = number_within config s.0 i section in
      let shared = fit.globals.shared s i section ∙ ap (shares_held a.valid) (holder_there config (past_view past) a (Shared s i) f kept is) in
      (omega (arith, within, fit.globals.count), omega (arith, shared, few))

  pub can_enter : CanEnter config p v f parts
  can_enter =
      let read = row_read a.state a.page a.modify a.valid a.ring (open_flights past) config.frames a.free a.modified parts.frames f fit.frames in
      let found = mapped_right config a p v g right own in
      let known = fit.tables.each p v ∙ pte_known config a.map a.valid a.page a.lies p v found.0 g found.1 found.2 (entry_of a.valid p v) refl in
      record {
        below = omega (arith, less, fit.frames.count);
        held = subst IsSome (sym (ap (λ (row : Row). row.page) read ∙ holds)) refl;
        page = λ h is. subst (λ (x : Option Page). IfSome x (λ (k : Page). k ≡ h)) (sym is) refl;
        shares = let same = ap (λ (row : Row). row.shares) read in omega (arith, same, few);
        global = λ h is. can_share h (sym (ap (λ (row : Row). row.page) read) ∙ is);
        mapped = subst IsSome (sym known) refl;
        entry = λ pte was. placed_entry pte (found.0).prot _ (place.Valid false (record { 0 = f })) (sym was ∙ known) (good_valid config formed (found.0).prot f (found.3).code less);
      }
