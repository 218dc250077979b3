-- An empty frame holds a page that no frame held: which frames hold the other pages, and the global pages.
use Rattle.std.proofs.Common.{◌≡◌, ◌⊎◌, inl, inr, ℕ, false, Option, Some, None, slice_set, slice_index, slice_index_or, refl, sym, ap, ◌∙◌, subst, arith, length-set}
use Rattle.std.specs.Option.{option_map}
use Rattle.std.proofs.lemmas.Bool.{cases_eq}
use Rattle.std.proofs.lemmas.List.{get_or-set_same, get_or-set_other}
use Rattle.vm_types.specs.Configuration.{IsSectionPage}
use Rattle.vm_types.specs.Same.{same_page}
use Rattle.vm_types.specs.declared.config.Config.{Config}
use Rattle.vm_types.specs.declared.names.Page.{Page}
use Rattle.vm_types.specs.declared.names.Page.TheVariants.{Private, Shared}
use Rattle.vm_types.specs.declared.names.SecId.{SecId}
use Rattle.global_pages.specs.GlobalPages.{GlobalPages}
use Rattle.pager_model.specs.Forget.{holder, holds_page}
use Rattle.pager_model.specs.Maps.{pfn}
use Rattle.pager_model.specs.Lookups.{shares}
use Rattle.pager_model.specs.Pager.{Pager}
use Rattle.pager_model.specs.Sets.{at_number}
use Rattle.pager_rules.proofs.Put.{page_apart}
use Rattle.pager_laws.proofs.Holders.{holder_elsewhere, holder_none}
use Rattle.pager_laws.proofs.SectionNumbers.{number_within, numbers_differ}
use Rattle.state_fits.specs.Entries.{section_page_number}
use Rattle.state_fits.specs.Globals.{GlobalsFit, shares_held}
use Rattle.state_fits.specs.ReadBegins.{held_in}

module _ (config : Config) (a : Pager) (f : ℕ) (x : Page) (empty : a.page f ≡ None) (out : (h : ℕ) → a.page h ≡ Some x → ⊥) where
  abbrev page' : ℕ → Option Page
  page' = at_number a.page f (Some x)

  pub holder_stays : (h : Page) → same_page x h ≡ false → holder config page' h ≡ holder config a.page h
  holder_stays h apart = holder_elsewhere config a.page f (Some x) h (ap (holds_page h) empty) apart

  pub globals_held : shares a.valid f ≡ 0 → holder config page' x ≡ Some f → ((s : SecId) (i : ℕ) → x ≡ Shared s i → IsSectionPage config.sections s.0 i) → (table : GlobalPages)
      → GlobalsFit config a.page a.valid table → GlobalsFit config page' a.valid (held_in config x f table)
  globals_held unshared held section table fit = by x refl
    where
      by : (g : Page) → x ≡ g → GlobalsFit config page' a.valid (held_in config g f table)
      by (Private p v) is = record {
        count = fit.count;
        counts = fit.counts;
        frames = λ t j there. fit.frames t j there ∙ ap (option_map pfn) (sym (holder_stays (Shared t j) (ap (λ (g : Page). same_page g (Shared t j)) is)));
        shared = λ t j there. fit.shared t j there ∙ ap (shares_held a.valid) (sym (holder_stays (Shared t j) (ap (λ (g : Page). same_page g (Shared t j)) is)));
      }
      by (Shared s i) is = record {
        count = length-set table.frames n (Some (pfn f)) ∙ fit.count;
        counts = fit.counts;
        frames = λ t j there. frame t j there (cases_eq n (section_page_number config t.0 j));
        shared = λ t j there. shared t j there (cases_eq n (section_page_number config t.0 j));
      }
        where
          n : ℕ
          n = section_page_number config s.0 i

          same : (t : SecId) (j : ℕ) → IsSectionPage config.sections t.0 j → n ≡ section_page_number config t.0 j → x ≡ Shared t j
          same t j there e =
              let parts = numbers_differ config s.0 t.0 i j (section s i is) there e in
              is ∙ (λ k. Shared (record { 0 = parts.0 k }) (parts.1 k))

          other : (t : SecId) (j : ℕ) → (n ≡ section_page_number config t.0 j → ⊥) → same_page x (Shared t j) ≡ false
          other t j apart = page_apart x (Shared t j) (λ e. apart (ap numbered (sym is ∙ e)))
            where
              numbered : Page → ℕ
              numbered (Private p v) = 0
              numbered (Shared u k) = section_page_number config u.0 k

          frame : (t : SecId) (j : ℕ) → IsSectionPage config.sections t.0 j → (n ≡ section_page_number config t.0 j) ⊎ (n ≡ section_page_number config t.0 j → ⊥)
              → slice_index_or (slice_set table.frames n (Some (pfn f))) (section_page_number config t.0 j) None ≡ option_map pfn (holder config page' (Shared t j))
          frame t j there (inl e) =
              ap (λ (m : ℕ). slice_index_or (slice_set table.frames n (Some (pfn f))) m None) (sym e)
              ∙ (get_or-set_same table.frames n (Some (pfn f)) None (let within = number_within config s.0 i (section s i is) in omega (arith, within, fit.count))
              ∙ ap (option_map pfn) (sym (subst (λ (g : Page). holder config page' g ≡ Some f) (same t j there e) held)))
          frame t j there (inr apart) =
              get_or-set_other table.frames n (section_page_number config t.0 j) (Some (pfn f)) None (λ e. apart (sym e))
              ∙ (fit.frames t j there ∙ ap (option_map pfn) (sym (holder_stays (Shared t j) (other t j apart))))

          shared : (t : SecId) (j : ℕ) → IsSectionPage config.sections t.0 j → (n ≡ section_page_number config t.0 j) ⊎ (n ≡ section_page_number config t.0 j → ⊥)
              → slice_index table.counts (section_page_number config t.0 j) ≡ shares_held a.valid (holder config page' (Shared t j))
          shared t j there (inl e) =
              fit.shared t j there
              ∙ (ap (shares_held a.valid) (subst (λ (g : Page). holder config a.page g ≡ None) (same t j there e) (holder_none config a.page x out))
              ∙ (sym unshared ∙ ap (shares_held a.valid) (sym (subst (λ (g : Page). holder config page' g ≡ Some f) (same t j there e) held))))
          shared t j there (inr apart) = fit.shared t j there ∙ ap (shares_held a.valid) (sym (holder_stays (Shared t j) (other t j apart)))
