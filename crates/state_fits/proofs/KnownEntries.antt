-- The page table entry of a mapped page, by where the page is.
use Rattle.std.proofs.Common.{◌≡◌, ℕ, false, List, Option, Some, None, refl, sym, ap, ◌∙◌, subst}
use Rattle.vm_types.specs.declared.config.Config.{Config}
use Rattle.vm_types.specs.declared.names.BlockId.{BlockId}
use Rattle.vm_types.specs.declared.names.Page.{Page}
use Rattle.vm_types.specs.declared.names.Page.TheVariants.{Private, Shared}
use Rattle.page_tables.specs.PageTables.{IsEntry}
use Rattle.pte_forms.specs.declared.pte.Place.{Place}
use Rattle.pte_forms.specs.declared.pte.Place.TheVariants as place
use Rattle.pte_forms.specs.declared.pte.Pte.{Pte}
use Rattle.pager_model.specs.Forget.{holder}
use Rattle.pager_model.specs.Maps.{pfn, Map, Mapped, page_behind}
use Rattle.pager_model.specs.Lookups.{entry_of}
use Rattle.pager_model.specs.Pager.{Valid}
use Rattle.state_fits.specs.Changes.{place_left}
use Rattle.state_fits.specs.Entries.{place_by, pte_of}

module _ (config : Config) (map : Map) (valid : List Valid) (page : ℕ → Option Page) (lies : Page → Option BlockId) (p v : ℕ) (m : Mapped) (g : Page) (mapped : map p v ≡ Some m) (behind : page_behind config p v m.origin ≡ g) where
  pub pte_known : (o : Option Valid) → entry_of valid p v ≡ o → pte_of config map valid page lies p v ≡ Some (record { prot = m.prot; place = place_by config g m.origin o (holder config page g) (lies g) })
  unfolding pte_of
  pte_known o is = rw (mapped, is, behind) refl

  pub pte_valid : (e : Valid) → entry_of valid p v ≡ Some e → pte_of config map valid page lies p v ≡ Some (record { prot = m.prot; place = place.Valid false (pfn e.frame) })
  pte_valid e is = pte_known (Some e) is

  pub pte_left : (f : ℕ) → entry_of valid p v ≡ None → holder config page g ≡ Some f → pte_of config map valid page lies p v ≡ Some (record { prot = m.prot; place = place_left config f g })
  pte_left f is held = pte_known None is ∙ ap (λ (x : Place). Some (record { prot = m.prot; place = x })) (by g held)
    where
      by : (h : Page) → holder config page h ≡ Some f → place_by config h m.origin None (holder config page h) (lies h) ≡ place_left config f h
      by (Private q w) held = rw held refl
      by (Shared s i) held = refl

-- an entry that was read, with another place
pub placed_at : (pte : Pte) (prot : ℕ) (was now : Place) → Some pte ≡ Some (record { prot = prot; place = was }) → ◌≡◌ {A = Option Pte} (Some (record pte { place = now })) (Some (record { prot = prot; place = now }))
placed_at pte prot was now is = ap (λ (o : Option Pte). with_place o) is
  where
    with_place : Option Pte → Option Pte
    with_place None = None
    with_place (Some x) = Some (record x { place = now })

pub placed_entry : (pte : Pte) (prot : ℕ) (was now : Place) → Some pte ≡ Some (record { prot = prot; place = was }) → IsEntry (record { prot = prot; place = now }) → IsEntry (record pte { place = now })
placed_entry pte prot was now is good = let same : pte ≡ record { prot = prot; place = was } = cc in subst (λ (x : Pte). IsEntry (record x { place = now })) (sym same) good
