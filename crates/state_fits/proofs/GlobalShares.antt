-- The global pages after the valid entries of one frame have changed, and after a frame was given up.
use Rattle.std.proofs.Common.{◌≡◌, ◌⊎◌, inl, inr, ℕ, ◌+◌, true, List, Option, Some, None, slice_set, slice_index, refl, sym, ap, ◌∙◌, arith, length-set}
use Rattle.std.proofs.lemmas.Bool.{cases_eq, false≢true}
use Rattle.std.proofs.lemmas.List.{get_or-set_same, get_or-set_other}
use Rattle.vm_types.specs.Configuration.{IsSectionPage}
use Rattle.vm_types.specs.declared.config.Config.{Config}
use Rattle.vm_types.specs.declared.names.Page.{Page}
use Rattle.vm_types.specs.declared.names.Page.TheVariants.{Private, Shared}
use Rattle.vm_types.specs.declared.names.SecId.{SecId}
use Rattle.global_pages.specs.GlobalPages.{GlobalPages, count_of}
use Rattle.pager_model.specs.Around.{PastView}
use Rattle.pager_model.specs.Forget.{holder}
use Rattle.pager_model.specs.Lookups.{shares}
use Rattle.pager_model.specs.Maps.{is_private}
use Rattle.pager_model.specs.OfConfig.{HoldsRight}
use Rattle.pager_model.specs.Pager.{Pager, Valid}
use Rattle.pager_rules.specs.Kept.{IsKept}
use Rattle.pager_laws.proofs.Holders.{holder_holds, holder_there}
use Rattle.pager_laws.proofs.SectionNumbers.{number_within, numbers_differ}
use Rattle.state_fits.specs.Changes.{shared_in, unshared_in}
use Rattle.state_fits.specs.Entries.{section_page_number}
use Rattle.state_fits.specs.Globals.{GlobalsFit, shares_held}

abbrev number_of : Config → Page → ℕ
number_of config (Private p v) = 0
number_of config (Shared s i) = section_page_number config s.0 i

-- of another frame the entries are as they were
module _ (config : Config) (page : ℕ → Option Page) (valid valid' : List Valid) (f : ℕ) (apart : (h : ℕ) → (f ≡ h → ⊥) → shares valid' h ≡ shares valid h) where
  elsewhere : (s : SecId) (i : ℕ) → (page f ≡ Some (Shared s i) → ⊥) → (o : Option ℕ) → holder config page (Shared s i) ≡ o → shares_held valid' o ≡ shares_held valid o
  elsewhere s i other None is = refl
  elsewhere s i other (Some h) is = apart h (λ same. other (ap page same ∙ holder_holds config page (Shared s i) h is))

  pub globals_elsewhere : (table : GlobalPages) → GlobalsFit config page valid table → ((s : SecId) (i : ℕ) → page f ≡ Some (Shared s i) → ⊥) → GlobalsFit config page valid' table
  globals_elsewhere table fit other = record {
    count = fit.count;
    counts = fit.counts;
    frames = fit.frames;
    shared = λ s i there. fit.shared s i there ∙ sym (elsewhere s i (other s i) (holder config page (Shared s i)) refl);
  }

  pub globals_counted : (table : GlobalPages) (s : SecId) (i c : ℕ) → GlobalsFit config page valid table → IsSectionPage config.sections s.0 i → holder config page (Shared s i) ≡ Some f → c ≡ shares valid' f
      → GlobalsFit config page valid' (record table { counts = slice_set table.counts (section_page_number config s.0 i) c })
  globals_counted table s i c fit there held is = record {
    count = fit.count;
    counts = length-set table.counts (section_page_number config s.0 i) c ∙ fit.counts;
    frames = fit.frames;
    shared = λ t j also. by t j also (cases_eq (section_page_number config s.0 i) (section_page_number config t.0 j));
  }
    where
      by : (t : SecId) (j : ℕ) → IsSectionPage config.sections t.0 j → (section_page_number config s.0 i ≡ section_page_number config t.0 j) ⊎ (section_page_number config s.0 i ≡ section_page_number config t.0 j → ⊥)
          → slice_index (slice_set table.counts (section_page_number config s.0 i) c) (section_page_number config t.0 j) ≡ shares_held valid' (holder config page (Shared t j))
      by t j also (inr far) =
          get_or-set_other table.counts (section_page_number config s.0 i) (section_page_number config t.0 j) c 0 (λ e. far (sym e))
          ∙ (fit.shared t j also ∙ sym (elsewhere t j (λ is. far (ap (λ (o : Option Page). numbered o) (sym (holder_holds config page (Shared s i) f held) ∙ is))) (holder config page (Shared t j)) refl))
        where
          numbered : Option Page → ℕ
          numbered None = 0
          numbered (Some g) = number_of config g
      by t j also (inl same) =
          let parts = numbers_differ config s.0 t.0 i j there also same in
          let page_is : Shared s i ≡ Shared t j = λ k. Shared (record { 0 = parts.0 k }) (parts.1 k) in
          ap (λ (n : ℕ). slice_index (slice_set table.counts (section_page_number config s.0 i) c) n) (sym same)
          ∙ (get_or-set_same table.counts (section_page_number config s.0 i) c 0 (let within = number_within config s.0 i there in omega (arith, within, fit.counts))
          ∙ (is ∙ ap (shares_held valid') (sym held ∙ ap (holder config page) page_is)))

-- ---- of the frame that holds a page one valid entry less, or more
module _ (config : Config) (o : PastView) (a : Pager) (valid' : List Valid) (f : ℕ) (g : Page) (table : GlobalPages) (kept : IsKept config o a) (right : HoldsRight config a.page) (holds : a.page f ≡ Some g)
    (apart : (h : ℕ) → (f ≡ h → ⊥) → shares valid' h ≡ shares a.valid h) (fit : GlobalsFit config a.page a.valid table) where
  private_none : is_private g ≡ true → (s : SecId) (i : ℕ) → a.page f ≡ Some (Shared s i) → ⊥
  private_none private s i is = let same : g ≡ Shared s i = cc (holds, is) in false≢true (ap is_private (sym same) ∙ private)

  counted : (s : SecId) (i : ℕ) → g ≡ Shared s i → count_of table (section_page_number config s.0 i) ≡ shares a.valid f
  counted s i same = let page = holds ∙ ap Some same in fit.shared s i (right f (Shared s i) page).0 ∙ ap (shares_held a.valid) (holder_there config o a (Shared s i) f kept page)

  globals_with : (c : ℕ) (s : SecId) (i : ℕ) → g ≡ Shared s i → c ≡ shares valid' f → GlobalsFit config a.page valid' (record table { counts = slice_set table.counts (section_page_number config s.0 i) c })
  globals_with c s i same is = let page = holds ∙ ap Some same in globals_counted config a.page a.valid valid' f apart table s i c fit (right f (Shared s i) page).0 (holder_there config o a (Shared s i) f kept page) is

pub globals_unshared : (config : Config) (o : PastView) (a : Pager) (valid' : List Valid) (f : ℕ) (g : Page) (table : GlobalPages) → IsKept config o a → HoldsRight config a.page → a.page f ≡ Some g
    → ((h : ℕ) → (f ≡ h → ⊥) → shares valid' h ≡ shares a.valid h) → shares a.valid f ≡ 1 + shares valid' f → GlobalsFit config a.page a.valid table → GlobalsFit config a.page valid' (unshared_in config g table)
globals_unshared config o a valid' f (Private p v) table kept right holds apart one fit = globals_elsewhere config a.page a.valid valid' f apart table fit (private_none config o a valid' f (Private p v) table kept right holds apart fit refl)
globals_unshared config o a valid' f (Shared s i) table kept right holds apart one fit =
    globals_with config o a valid' f (Shared s i) table kept right holds apart fit _ s i refl (let was = counted config o a valid' f (Shared s i) table kept right holds apart fit s i refl in omega (arith, was, one))

pub globals_shared : (config : Config) (o : PastView) (a : Pager) (valid' : List Valid) (f : ℕ) (g : Page) (table : GlobalPages) → IsKept config o a → HoldsRight config a.page → a.page f ≡ Some g
    → ((h : ℕ) → (f ≡ h → ⊥) → shares valid' h ≡ shares a.valid h) → shares valid' f ≡ 1 + shares a.valid f → GlobalsFit config a.page a.valid table → GlobalsFit config a.page valid' (shared_in config g table)
globals_shared config o a valid' f (Private p v) table kept right holds apart one fit = globals_elsewhere config a.page a.valid valid' f apart table fit (private_none config o a valid' f (Private p v) table kept right holds apart fit refl)
globals_shared config o a valid' f (Shared s i) table kept right holds apart one fit =
    globals_with config o a valid' f (Shared s i) table kept right holds apart fit _ s i refl (let was = counted config o a valid' f (Shared s i) table kept right holds apart fit s i refl in omega (arith, was, one))
