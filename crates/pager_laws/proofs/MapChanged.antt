-- A resident process's map changes.
use Rattle.pager_rules.proofs.Quiet.{none_failed}
use Rattle.std.proofs.Common.{◌≡◌, ◌⊎◌, ℕ, ◌<◌, Bool, true, false, cond, ◌&&◌, List, Option, Some, None, nat_eq, count_by, refl, sym, ap, ◌∙◌, subst, inl, inr, arith}
use Rattle.std.specs.Option.{option_map}
use Rattle.std.specs.List.{AllByRecursion}
use Rattle.std.proofs.lemmas.Bool.{cases_eq, ne_eqb, eqb-true, and_from}
use Rattle.std.proofs.lemmas.Option.{none-some}
use Rattle.vm_types.specs.declared.names.Page.{Page}
use Rattle.vm_types.specs.declared.names.Page.TheVariants.{Private, Shared}
use Rattle.vm_types.specs.declared.names.ProcStatus.TheVariants as status
use Rattle.vm_types.specs.declared.config.Config.{Config}
use Rattle.pager_model.specs.Around.{entry_view, page_view, quiet}
use Rattle.pager_model.specs.FlatService.{demand_zero, in_range, map_range, with_prot}
use Rattle.pager_model.specs.Flights.{Flight, is_busy}
use Rattle.pager_model.specs.Forget.{remapped}
use Rattle.pager_model.specs.Lookups.{count_page, entries_at, is_entry, page_at, page_by, pins_with, section_at}
use Rattle.pager_model.specs.Maps.{Map, Mapped, is_private}
use Rattle.pager_model.specs.Pager.{Pager, Valid}
use Rattle.pager_rules.proofs.Basics.{nat_eq_refl}
use Rattle.pager_rules.proofs.Lists.{all_step}
use Rattle.pager_rules.proofs.Transfers.{IsApart, alike, transfers_idle}
use Rattle.pager_rules.specs.Kept.{FitsEntry, FitsPage, IsForItsPage, IsKept, views}
use Rattle.pager_rules.proofs.Pages.{private_is_paged}

-- the page stays mapped as it was, or nothing rests on it
abbrev pub Stays : Config → Pager → ℕ → ℕ → Page → Option Mapped → Type 0
Stays config a q w g m = (page_at config q w m ≡ Some g) × (section_at m ≡ section_at (a.map q w))

abbrev pub Drops : Pager → ℕ → ℕ → Page → Type 0
Drops a q w g = (entries_at a.valid q w ≡ 0) × (is_private g ≡ true → count_page a.charged g ≡ 0)

pub record IsRemapped (config : Config) (a : Pager) (p : ℕ) (new : Map) : Type 0 where
  pub page : (q w : ℕ) (g : Page) → page_by config a.map q w ≡ Some g → Stays config a q w g (new q w) ⊎ Drops a q w g
  pub other : (q w : ℕ) → (p ≡ q → ⊥) → new q w ≡ a.map q w

module _ (config : Config) (a : Pager) (flights : List Flight) (p : ℕ) (new : Map) (kept : IsKept config (quiet flights) a)
    (resident : a.status p ≡ status.Resident) (idle : is_busy p flights ≡ false) (is : IsRemapped config a p new) where
  abbrev b : Pager
  b = record a { map = new }

  entries : (q w : ℕ) → FitsEntry (entry_view config b q w)
  entries q w = record {
    once = (kept.entries q w).once;
    slots = (kept.entries q w).slots;
    coming = λ g coming some mapped. go g coming some mapped (cases_eq p q);
  }
    where
      go : (g : Page) → a.status q ≡ status.Coming → 0 < entries_at a.valid q w → page_by config new q w ≡ Some g → (p ≡ q) ⊎ (p ≡ q → ⊥) → (is_private g ≡ true) ⊎ (0 < pins_with (a.ring q) w)
      go g coming some mapped (inl same) = absurd (let here = ap a.status same ∙ coming in cc)
      go g coming some mapped (inr apart) = (kept.entries q w).coming g coming some (sym (ap (page_at config q w) (is.other q w apart)) ∙ mapped)

  valid : AllByRecursion (IsForItsPage config new a.page) a.valid
  valid = all_step (IsForItsPage config a.map a.page) (IsForItsPage config new a.page) a.valid (λ e counts fits. (fits.0, go e counts fits.0 (is.page e.proc e.vpn fits.0 fits.1), fits.2)) kept.valid
    where
      go : (e : Valid) → ((t : Valid → Bool) → t e ≡ true → 0 < count_by t a.valid) → (g : Page) → Stays config a e.proc e.vpn g (new e.proc e.vpn) ⊎ Drops a e.proc e.vpn g → page_by config new e.proc e.vpn ≡ Some g
      go e counts g (inl stays) = stays.0
      go e counts g (inr drops) = absurd (omega (arith, counts (is_entry e.proc e.vpn) (and_from _ _ (nat_eq_refl e.proc) (nat_eq_refl e.vpn)), drops.0))

  -- what is around a charged page is as it was
  same_page_view : (g : Page) → (is_private g ≡ true → 0 < count_page a.charged g) → page_view config b g ≡ page_view config a g
  same_page_view (Shared s i) charged = refl
  same_page_view (Private q w) charged = go (is.page q.0 w (Private q w) owned)
    where
      owned : page_by config a.map q.0 w ≡ Some (Private q w)
      owned = (kept.pages (Private q w)).mapped (charged refl) refl

      go : Stays config a q.0 w (Private q w) (new q.0 w) ⊎ Drops a q.0 w (Private q w) → page_view config b (Private q w) ≡ page_view config a (Private q w)
      go (inl stays) = let mapped_is = stays.0 ∙ sym owned in let behind_is = stays.1 in cc
      go (inr drops) = absurd (omega (arith, charged refl, drops.1 refl))

  pages : (g : Page) → FitsPage g (page_view config b g)
  pages g = let old = kept.pages g in record {
    paged = old.paged;
    charged = old.charged;
    touched = old.touched;
    blocks = old.blocks;
    mapped = λ some private. subst (λ (o : Option Page). o ≡ Some g) (sym (λ i. (same_page_view g (λ own. some) i).mapped)) (old.mapped some private);
    lying = old.lying;
    in_file = old.in_file;
    not_in_section = old.not_in_section;
    shared = old.shared;
  }

  apart : IsApart (views config a) (views config b) p
  apart = record {
    not_leaving = λ leaving. cc resident;
    status = λ q. refl;
    process = λ q far. refl;
    entries = λ q w far. refl;
    mapped = λ q w coming. ap (page_at config q w) (is.other q w (λ same. let here = coming same in let there = sym (ap a.status same) ∙ resident in cc));
  }

  pub map_changed : IsKept config (quiet flights) b
  map_changed = record {
    frames = kept.frames;
    processes = kept.processes;
    entries = entries;
    valid = valid;
    pages = pages;
    blocks = kept.blocks;
    fit = kept.fit;
    held_once = kept.held_once;
    held_charged = kept.held_charged;
    unsaved = kept.unsaved;
    swapped = kept.swapped;
    coming_once = kept.coming_once;
    transfers = transfers_idle (views config a) (views config b) p apart flights idle
        (λ x counts fits. (refl, λ g holds. alike _ _ _ (same_page_view g (λ private. kept.held_charged x.frame g (private_is_paged config g private) holds)))) kept.transfers;
    one_fault = kept.one_fault;
    failed = none_failed _ _;
  }

-- ---- of a range
pub of_range : (config : Config) (a : Pager) (p address pages : ℕ) (change : Option Mapped → Option Mapped)
    → ((w : ℕ) (g : Page) → in_range address pages w ≡ true → page_by config a.map p w ≡ Some g → Stays config a p w g (change (a.map p w)) ⊎ Drops a p w g)
    → IsRemapped config a p (map_range change p address pages a.map)
of_range config a p address pages change step = record {
  page = λ q w g own. go q w g own (nat_eq p q) refl (in_range address pages w) refl;
  other = λ q w apart. ap (λ (c : Bool). cond (c && in_range address pages w) (change (a.map q w)) (a.map q w)) (ne_eqb p q apart);
}
  where
    go : (q w : ℕ) (g : Page) → page_by config a.map q w ≡ Some g → (c : Bool) → nat_eq p q ≡ c → (d : Bool) → in_range address pages w ≡ d → Stays config a q w g (cond (c && d) (change (a.map q w)) (a.map q w)) ⊎ Drops a q w g
    go q w g own false far d is = inl (own, refl)
    go q w g own true same false is = inl (own, refl)
    go q w g own true same true is = subst (λ (r : ℕ). page_by config a.map r w ≡ Some g → Stays config a r w g (change (a.map r w)) ⊎ Drops a r w g) (eqb-true p q same) (step w g is) own

-- creation and change of protection
pub created : (config : Config) (a : Pager) (flights : List Flight) (p address pages prot : ℕ) → IsKept config (quiet flights) a → a.status p ≡ status.Resident → is_busy p flights ≡ false
    → ((v : ℕ) → in_range address pages v ≡ true → a.map p v ≡ None) → IsKept config (quiet flights) (remapped (λ (old : Option Mapped). Some (demand_zero prot)) p address pages a)
created config a flights p address pages prot kept resident idle unmapped =
    map_changed config a flights p (map_range (λ (old : Option Mapped). Some (demand_zero prot)) p address pages a.map) kept resident idle
    (of_range config a p address pages (λ (old : Option Mapped). Some (demand_zero prot)) (λ w g inside own. absurd (none-some g (sym (ap (page_at config p w) (unmapped w inside)) ∙ own))))

pub protected : (config : Config) (a : Pager) (flights : List Flight) (p address pages prot : ℕ) → IsKept config (quiet flights) a → a.status p ≡ status.Resident → is_busy p flights ≡ false
    → IsKept config (quiet flights) (remapped (option_map (with_prot prot)) p address pages a)
protected config a flights p address pages prot kept resident idle =
    map_changed config a flights p (map_range (option_map (with_prot prot)) p address pages a.map) kept resident idle
    (of_range config a p address pages (option_map (with_prot prot)) (λ w g inside own. inl (go w (a.map p w) ∙ own, behind (a.map p w))))
  where
    go : (w : ℕ) (m : Option Mapped) → page_at config p w (option_map (with_prot prot) m) ≡ page_at config p w m
    go w None = refl
    go w (Some m) = refl

    behind : (m : Option Mapped) → section_at (option_map (with_prot prot) m) ≡ section_at m
    behind None = refl
    behind (Some m) = refl
