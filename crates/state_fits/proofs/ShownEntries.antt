-- What the tables show of a mapped page, and page table entries and global pages that stay.
use Rattle.std.proofs.Common.{◌≡◌, ℕ, true, false, List, Option, Some, None, refl, sym, ap, ◌∙◌}
use Rattle.std.specs.Option.{option_map}
use Rattle.vm_types.specs.declared.config.Config.{Config}
use Rattle.vm_types.specs.declared.config.Origin.{Origin}
use Rattle.vm_types.specs.declared.names.BlockId.{BlockId}
use Rattle.vm_types.specs.declared.names.Page.{Page}
use Rattle.vm_types.specs.declared.names.Page.TheVariants.{Private, Shared}
use Rattle.vm_types.specs.declared.names.SecId.{SecId}
use Rattle.global_pages.specs.GlobalPages.{GlobalPages}
use Rattle.pte_forms.specs.declared.pte.Pte.{Pte}
use Rattle.page_tables.specs.PageTables.{PageTables, pte_in}
use Rattle.pager_model.specs.Forget.{holder}
use Rattle.pager_model.specs.Maps.{pfn, Map, Mapped, is_private, page_behind}
use Rattle.pager_model.specs.Lookups.{entry_of, page_at, page_by, shares}
use Rattle.pager_model.specs.Pager.{Valid}
use Rattle.state_fits.specs.Entries.{TablesFit, place_away, pte_at, pte_by, pte_of}
use Rattle.state_fits.specs.Globals.{GlobalsFit, shares_held}
use Rattle.pte_forms.specs.declared.pte.Place.TheVariants as place

-- ---- page table entries
-- nothing that the entry shows has changed: the mapping and the valid entry are as they were, and of a private
-- page the frame and the block
module _ (config : Config) (p v : ℕ) (holds holds' : Page → Option ℕ) (lies lies' : Page → Option BlockId) where
  away_stays : (g : Page) (o : Origin) → (is_private g ≡ true → (holds' g ≡ holds g) × (lies' g ≡ lies g)) → place_away config g o (holds' g) (lies' g) ≡ place_away config g o (holds g) (lies g)
  away_stays (Private q w) o same = rw ((same refl).0, (same refl).1) refl
  away_stays (Shared s i) o same = refl

  by_stays : (g : Page) (m : Mapped) (valid : Option Valid) → (is_private g ≡ true → (holds' g ≡ holds g) × (lies' g ≡ lies g)) → pte_by config g m valid (holds' g) (lies' g) ≡ pte_by config g m valid (holds g) (lies g)
  by_stays g m (Some e) same = refl
  by_stays g m None same = rw (away_stays g m.origin same) refl

  pub at_stays : (valid : Option Valid) (mapped : Option Mapped) → ((g : Page) → page_at config p v mapped ≡ Some g → is_private g ≡ true → (holds' g ≡ holds g) × (lies' g ≡ lies g))
      → pte_at config p v holds' lies' valid mapped ≡ pte_at config p v holds lies valid mapped
  at_stays valid None same = refl
  at_stays valid (Some m) same = ap Some (by_stays (page_behind config p v m.origin) m valid (same (page_behind config p v m.origin) refl))

pub pte_stays : (config : Config) (map : Map) (valid valid' : List Valid) (page page' : ℕ → Option Page) (lies lies' : Page → Option BlockId) (p v : ℕ)
    → entry_of valid' p v ≡ entry_of valid p v
    → ((g : Page) → page_by config map p v ≡ Some g → is_private g ≡ true → (holder config page' g ≡ holder config page g) × (lies' g ≡ lies g))
    → pte_of config map valid' page' lies' p v ≡ pte_of config map valid page lies p v
unfolding pte_of
pte_stays config map valid valid' page page' lies lies' p v entries same =
    ap (λ (o : Option Valid). pte_at config p v (holder config page') lies' o (map p v)) entries
    ∙ at_stays config p v (holder config page) (holder config page') lies lies' (entry_of valid p v) (map p v) same

-- ---- what the tables show of a mapped page
pub shown : (config : Config) (map : Map) (valid : List Valid) (page : ℕ → Option Page) (lies : Page → Option BlockId) (p v : ℕ) (m : Mapped) → map p v ≡ Some m
    → pte_of config map valid page lies p v ≡ pte_at config p v (holder config page) lies (entry_of valid p v) (Some m)
unfolding pte_of
shown config map valid page lies p v m is = ap (λ (o : Option Mapped). pte_at config p v (holder config page) lies (entry_of valid p v) o) is

-- its entry has the protection code of the mapping
pub code_kept : (config : Config) (map : Map) (valid : List Valid) (page : ℕ → Option Page) (lies : Page → Option BlockId) (n : ℕ) (tables : PageTables) (p v : ℕ) (m : Mapped) (old : Pte)
    → TablesFit (pte_of config map valid page lies) n tables → map p v ≡ Some m → pte_in tables p v ≡ Some old → old.prot ≡ m.prot
code_kept config map valid page lies n tables p v m old fit is there =
    let both : Some old ≡ pte_at config p v (holder config page) lies (entry_of valid p v) (Some m) = sym there ∙ (fit.each p v ∙ shown config map valid page lies p v m is) in
    let same : old ≡ pte_by config (page_behind config p v m.origin) m (entry_of valid p v) (holder config page (page_behind config p v m.origin)) (lies (page_behind config p v m.origin)) = cc in
    ap (λ (x : Pte). x.prot) same

-- the tables show a valid entry's frame
pub valid_shown : (config : Config) (map : Map) (valid : List Valid) (page : ℕ → Option Page) (lies : Page → Option BlockId) (n : ℕ) (tables : PageTables) (p v : ℕ) (m : Mapped) (e : Valid)
    → TablesFit (pte_of config map valid page lies) n tables → map p v ≡ Some m → entry_of valid p v ≡ Some e → pte_in tables p v ≡ Some (record { prot = m.prot; place = place.Valid false (pfn e.frame) })
valid_shown config map valid page lies n tables p v m e fit is found =
    fit.each p v ∙ (shown config map valid page lies p v m is ∙ ap (λ (o : Option Valid). pte_at config p v (holder config page) lies o (Some m)) found)

-- ---- global pages
-- shared pages are held by the same frames, which the same entries share
pub globals_same : (config : Config) (page page' : ℕ → Option Page) (valid valid' : List Valid) (table : GlobalPages)
    → ((s : SecId) (i : ℕ) → holder config page' (Shared s i) ≡ holder config page (Shared s i))
    → ((s : SecId) (i h : ℕ) → holder config page (Shared s i) ≡ Some h → shares valid' h ≡ shares valid h)
    → GlobalsFit config page valid table → GlobalsFit config page' valid' table
globals_same config page page' valid valid' table held shared fit =
    record {
      count = fit.count;
      counts = fit.counts;
      frames = λ s i real. fit.frames s i real ∙ ap (option_map pfn) (sym (held s i));
      shared = λ s i real. fit.shared s i real ∙ (sym (shares_same (holder config page (Shared s i)) (shared s i)) ∙ ap (shares_held valid') (sym (held s i)));
    }
  where
    shares_same : (o : Option ℕ) → ((h : ℕ) → o ≡ Some h → shares valid' h ≡ shares valid h) → shares_held valid' o ≡ shares_held valid o
    shares_same None same = refl
    shares_same (Some h) same = same h refl
