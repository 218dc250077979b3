-- Valid page table entries: the page and the frame of one, and the entries with one more and with one less.
use Rattle.std.proofs.Common.{◌≡◌, ℕ, Bool, true, false, cond, not, ◌&&◌, List, [], ◌∷◌, Option, Some, None, nat_eq, count_by, find, refl, sym, ap, ap₂, ◌∙◌, subst₂}
use Rattle.std.specs.List.{AllByRecursion}
use Rattle.std.proofs.lemmas.Bool.{eqb-true, eq-eqb, ne_eqb, and_parts, and_from, false≢true}
use Rattle.std.proofs.lemmas.Option.{none-some}
use Rattle.vm_types.specs.declared.config.Config.{Config}
use Rattle.vm_types.specs.declared.names.Page.{Page}
use Rattle.vm_types.specs.declared.names.Page.TheVariants.{Private, Shared}
use Rattle.pager_model.specs.Around.{PastView}
use Rattle.pager_model.specs.Changes.{without_entry}
use Rattle.pager_model.specs.Lookups.{entry_of, is_entry, page_at, page_by, shares}
use Rattle.pager_model.specs.Maps.{Map, Mapped, is_private, page_behind, proc}
use Rattle.pager_model.specs.OfConfig.{IsMappedRight, IsOfConfig}
use Rattle.pager_model.specs.Pager.{Pager, Valid}
use Rattle.pager_rules.proofs.Basics.{count_cons_no}
use Rattle.pager_rules.proofs.Lists.{all_found, found_passes}
use Rattle.pager_rules.proofs.Pages.{own_is}
use Rattle.pager_rules.specs.Kept.{IsForItsPage, IsKept}

-- ---- a page number that has a page is mapped
pub mapped_there : (config : Config) (map : Map) (p v : ℕ) (g : Page) → page_by config map p v ≡ Some g → (m : Mapped) × (map p v ≡ Some m) × (page_behind config p v m.origin ≡ g)
mapped_there config map p v g is = go (map p v) refl is
  where
    go : (o : Option Mapped) → map p v ≡ o → page_at config p v o ≡ Some g → (m : Mapped) × (map p v ≡ Some m) × (page_behind config p v m.origin ≡ g)
    go None e is = absurd (none-some g is)
    go (Some m) e is = (m, e, cc)

pub mapped_right : (config : Config) (a : Pager) (p v : ℕ) (g : Page) → IsOfConfig config a → page_by config a.map p v ≡ Some g → (m : Mapped) × (a.map p v ≡ Some m) × (page_behind config p v m.origin ≡ g) × IsMappedRight config p v m
mapped_right config a p v g right is = let found = mapped_there config a.map p v g is in (found.0, found.1, found.2, right.mapped p v found.0 found.1)

-- ---- the page of a valid entry
entry_own : (valid : List Valid) (p v : ℕ) (e : Valid) → entry_of valid p v ≡ Some e → (e.proc ≡ p) × (e.vpn ≡ v)
entry_own valid p v e is = let parts = and_parts (nat_eq e.proc p) (nat_eq e.vpn v) (found_passes (is_entry p v) valid e is) in (eqb-true _ _ parts.0, eqb-true _ _ parts.1)

pub entry_page : (config : Config) (o : PastView) (a : Pager) (p v : ℕ) (e : Valid) → IsKept config o a → entry_of a.valid p v ≡ Some e → (g : Page) × (page_by config a.map p v ≡ Some g) × (a.page e.frame ≡ Some g)
entry_page config o a p v e kept is =
    let fits = all_found (IsForItsPage config a.map a.page) (is_entry p v) a.valid e kept.valid is in
    let own = entry_own a.valid p v e is in
    (fits.0, subst₂ (λ (q w : ℕ). page_by config a.map q w ≡ Some fits.0) own.0 own.1 fits.1, fits.2)

-- a process's own page that a frame holds is the page that the process has there
pub own_frame : (config : Config) (o : PastView) (a : Pager) (p v f g : ℕ) (x : Page) → IsKept config o a → page_by config a.map p v ≡ Some x → a.page f ≡ Some x → a.page g ≡ Some (Private (proc p) v) → f ≡ g
own_frame config o a p v f g x kept own holds also =
    let mapped = (kept.pages (Private (proc p) v)).mapped (kept.held_charged g (Private (proc p) v) refl also) refl in
    let same : x ≡ Private (proc p) v = cc (own, mapped) in
    kept.held_once f g x holds (also ∙ ap Some (sym same))

-- ---- without one entry
pub gone_here : (valid : List Valid) (p v : ℕ) → entry_of (without_entry valid p v) p v ≡ None
gone_here [] p v = refl
gone_here (x ∷ valid) p v = by (is_entry p v x) refl (gone_here valid p v)
  where
    by : (b : Bool) → is_entry p v x ≡ b → entry_of (without_entry valid p v) p v ≡ None → find (is_entry p v) (cond (not b) (x ∷ without_entry valid p v) (without_entry valid p v)) ≡ None
    by true e rest = rest
    by false e rest = rw e rest

pub gone_there : (valid : List Valid) (p v q w : ℕ) → (nat_eq p q && nat_eq v w) ≡ false → entry_of (without_entry valid p v) q w ≡ entry_of valid q w
gone_there [] p v q w apart = refl
gone_there (x ∷ valid) p v q w apart = by (is_entry p v x) refl (gone_there valid p v q w apart)
  where
    other : is_entry p v x ≡ true → is_entry q w x ≡ false
    other e =
        let parts = and_parts (nat_eq x.proc p) (nat_eq x.vpn v) e in
        ap₂ (λ (r u : ℕ). nat_eq r q && nat_eq u w) (eqb-true _ _ parts.0) (eqb-true _ _ parts.1) ∙ apart

    by : (b : Bool) → is_entry p v x ≡ b → entry_of (without_entry valid p v) q w ≡ entry_of valid q w
        → find (is_entry q w) (cond (not b) (x ∷ without_entry valid p v) (without_entry valid p v)) ≡ entry_of (x ∷ valid) q w
    by true e rest = rw (other e) rest
    by false e rest = rw rest refl

-- a private page has one entry at most
abbrev owner_of : Page → ℕ
owner_of (Private p v) = p.0
owner_of (Shared s i) = 0

abbrev number_of : Page → ℕ
number_of (Private p v) = v
number_of (Shared s i) = 0

pub only_entry : (config : Config) (map : Map) (page : ℕ → Option Page) (valid : List Valid) (p v f : ℕ) → page f ≡ Some (Private (proc p) v) → AllByRecursion (IsForItsPage config map page) valid → shares (without_entry valid p v) f ≡ 0
only_entry config map page [] p v f holds all = refl
only_entry config map page (x ∷ xs) p v f holds all = by (is_entry p v x) refl (only_entry config map page xs p v f holds all.1)
  where
    by : (b : Bool) → is_entry p v x ≡ b → shares (without_entry xs p v) f ≡ 0 → count_by (λ (e : Valid). nat_eq e.frame f) (cond (not b) (x ∷ without_entry xs p v) (without_entry xs p v)) ≡ 0
    by true e rest = rest
    by false e rest = count_cons_no (λ (e : Valid). nat_eq e.frame f) x (without_entry xs p v) (ne_eqb x.frame f other) ∙ rest
      where
        other : x.frame ≡ f → ⊥
        other same =
            let here : page x.frame ≡ Some all.0.0 = all.0.2 in
            let is : all.0.0 ≡ Private (proc p) v = let there = ap page same ∙ holds in cc (here, there) in
            let own = own_is config map x.proc x.vpn all.0.0 all.0.1 (ap is_private is) in
            let both : Private (proc x.proc) x.vpn ≡ Private (proc p) v = sym own ∙ is in
            false≢true (sym e ∙ and_from _ _ (eq-eqb _ _ (ap owner_of both)) (eq-eqb _ _ (ap number_of both)))
