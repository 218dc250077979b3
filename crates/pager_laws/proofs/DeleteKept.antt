-- SERVED Delete: the fold of forgetting, and the unmapping of the range.
use Rattle.std.proofs.Common.{◌≡◌, ◌⊎◌, ℕ, zero, suc, ◌+◌, ◌<◌, ◌≤◌, Bool, true, false, cond, not, List, [], ◌∷◌, Option, Some, None, nat_eq, nat_le, nat_lt, refl, sym, ap, ◌∙◌, subst, inl, inr, arith}
use Rattle.std.specs.List.{AllByRecursion, range_with_len}
use Rattle.std.proofs.lemmas.Bool.{cases_eq, ne_eqb, eqb-true, eq-eqb, and_from, and_parts, leb-true, ltb-true, le-leb, lt-ltb}
use Rattle.vm_types.specs.Same.{same_page}
use Rattle.vm_types.specs.declared.names.Page.{Page}
use Rattle.vm_types.specs.declared.names.Page.TheVariants.{Private}
use Rattle.vm_types.specs.declared.names.Proc.{Proc}
use Rattle.vm_types.specs.declared.names.ProcStatus.{ProcStatus}
use Rattle.vm_types.specs.declared.config.Config.{Config}
use Rattle.vm_journal.specs.declared.entry.Entry.{Entry}
use Rattle.page_lists.specs.Lists.{count_of}
use Rattle.pager_laws.proofs.MapChanged.{map_changed, of_range}
use Rattle.pager_laws.proofs.OpeningKept.{in_range as range_counts}
use Rattle.pager_laws.proofs.PageForgotten.{IsEmptied, IsIdlePage, dropped_own, emptied, is_holder, page_forgotten}
use Rattle.pager_model.specs.Around.{quiet}
use Rattle.pager_model.specs.FlatService.{in_range, map_range}
use Rattle.pager_model.specs.Flights.{Flight, is_busy, open_flights}
use Rattle.pager_model.specs.Forget.{after_delete, forget_all, forgotten, holder, own_pages, range_of, with_private}
use Rattle.pager_model.specs.Lookups.{count_page, entries_at, is_entry, page_by, shares}
use Rattle.pager_model.specs.Maps.{Map, Mapped, is_private, page_number, proc}
use Rattle.pager_model.specs.Own.{IsResident}
use Rattle.pager_model.specs.Pager.{Pager, Valid}
use Rattle.pager_model.specs.Served.{IsDelete}
use Rattle.pager_rules.proofs.Basics.{count_cons, count_cons_no, count_cons_yes, each_weaker, nat_eq_refl, pages_equal, same_page_refl}
use Rattle.pager_rules.proofs.Lists.{all_found, count_filter_le, count_found, found_one, found_passes}
use Rattle.pager_rules.proofs.Pages.{own_is}
use Rattle.pager_rules.specs.Kept.{IsForItsPage, IsKept}

-- ---- the fold
all_forgotten : (config : Config) (flights : List Flight) (pages : List Page) (a : Pager) → IsKept config (quiet flights) a → AllByRecursion (IsIdlePage a.page a.valid flights) pages
    → IsKept config (quiet flights) (forget_all config pages a)
all_forgotten config flights [] a kept idle = kept
all_forgotten config flights (g ∷ pages) a kept idle =
    let empty : IsEmptied config flights a (forgotten config a g) g = emptied config flights a g (holder config a.page g) kept idle.0 (is_holder config a flights g kept) in
    all_forgotten config flights pages (forgotten config a g) (page_forgotten config flights a g (holder config a.page g) kept idle.0 empty)
    (each_weaker (IsIdlePage a.page a.valid flights) (IsIdlePage (forgotten config a g).page a.valid flights)
    (λ h is. record { private = is.private; unshared = λ f held. is.unshared f (empty.held f h held); still = λ f held. is.still f (empty.held f h held) }) pages idle.1)

-- what a forgetting leaves alone, all of them do
pub untouched : {X : Type 0} (config : Config) (field : Pager → X) → ((a : Pager) (g : Page) → field (forgotten config a g) ≡ field a) → (pages : List Page) (a : Pager) → field (forget_all config pages a) ≡ field a
untouched config field same [] a = refl
untouched config field same (g ∷ pages) a = untouched config field same pages (forgotten config a g) ∙ same a g

charged_less : (config : Config) (pages : List Page) (a : Pager) (h : Page) → count_page (forget_all config pages a).charged h ≤ count_page a.charged h
charged_less config [] a h = omega arith
charged_less config (g ∷ pages) a h = omega (arith, charged_less config pages (forgotten config a g) h, count_filter_le (same_page h) (λ (x : Page). not (same_page g x)) a.charged)

pub charged_none : (config : Config) (pages : List Page) (a : Pager) (h : Page) → 0 < count_page pages h → count_page (forget_all config pages a).charged h ≡ 0
charged_none config [] a h some = absurd (omega arith)
charged_none config (g ∷ pages) a h some = go (same_page h g) refl (charged_none config pages (forgotten config a g) h)
  where
    go : (c : Bool) → same_page h g ≡ c → (0 < count_page pages h → count_page (forget_all config pages (forgotten config a g)).charged h ≡ 0) → count_page (forget_all config pages (forgotten config a g)).charged h ≡ 0
    go true same rest =
        let none : count_page (forgotten config a g).charged h ≡ 0 = subst (λ (x : Page). count_page (forgotten config a g).charged x ≡ 0) (sym (pages_equal h g same)) (dropped_own (same_page g) a.charged) in
        omega (arith, charged_less config pages (forgotten config a g) h)
    go false apart rest = rest (omega (arith, count_cons_no (same_page h) g pages apart))

-- ---- the private pages of the range
pub own_all : (P : Page → Type 0) (config : Config) (map : Map) (p : ℕ) (numbers : List ℕ) → ((v : ℕ) (g : Page) → 0 < count_of numbers v → page_by config map p v ≡ Some g → is_private g ≡ true → P g)
    → AllByRecursion P (own_pages config map p numbers)
own_all P config map p [] step = tt
own_all P config map p (v ∷ numbers) step = go (page_by config map p v) refl (own_all P config map p numbers (λ w g some. step w g (omega (arith, count_cons (λ (y : ℕ). nat_eq y w) v numbers))))
  where
    rest : List Page
    rest = own_pages config map p numbers

    go : (o : Option Page) → page_by config map p v ≡ o → AllByRecursion P rest → AllByRecursion P (with_private o rest)
    go None is all = all
    go (Some g) is all = by (is_private g) refl
      where
        by : (c : Bool) → is_private g ≡ c → AllByRecursion P (cond c (g ∷ rest) rest)
        by true private = (step v g (omega (arith, count_cons_yes (λ (y : ℕ). nat_eq y v) v numbers (nat_eq_refl v))) is private, all)
        by false shared = all

pub own_has : (config : Config) (map : Map) (p : ℕ) (numbers : List ℕ) (v : ℕ) (g : Page) → 0 < count_of numbers v → page_by config map p v ≡ Some g → is_private g ≡ true → 0 < count_page (own_pages config map p numbers) g
own_has config map p [] v g some is private = absurd (omega arith)
own_has config map p (w ∷ numbers) v g some is private = go (cases_eq w v) (λ later. own_has config map p numbers v g later is private)
  where
    rest : List Page
    rest = own_pages config map p numbers

    more : (o : Option Page) → count_page rest g ≤ count_page (with_private o rest) g
    more None = omega arith
    more (Some h) = by (is_private h)
      where
        by : (c : Bool) → count_page rest g ≤ count_page (cond c (h ∷ rest) rest) g
        by true = omega (arith, count_cons (same_page g) h rest)
        by false = omega arith

    go : (w ≡ v) ⊎ (w ≡ v → ⊥) → (0 < count_of numbers v → 0 < count_page rest g) → 0 < count_page (with_private (page_by config map p w) rest) g
    go (inl same) later =
        subst (λ (o : Option Page). 0 < count_page (with_private o rest) g) (sym (ap (page_by config map p) same ∙ is))
        (subst (λ (c : Bool). 0 < count_page (cond c (g ∷ rest) rest) g) (sym private) (omega (arith, count_cons_yes (same_page g) g rest (same_page_refl g))))
    go (inr apart) later = omega (arith, later (omega (arith, count_cons_no (λ (y : ℕ). nat_eq y v) w numbers (ne_eqb w v apart))), more (page_by config map p w))

range_has : (a n v : ℕ) → 0 < count_of (range_with_len a n) v → (a ≤ v) × (v < a + n)
range_has a zero v some = absurd (omega arith)
range_has a (suc n) v some = go (cases_eq a v) (range_has (a + 1) n v)
  where
    go : (a ≡ v) ⊎ (a ≡ v → ⊥) → (0 < count_of (range_with_len (a + 1) n) v → (a + 1 ≤ v) × (v < a + 1 + n)) → (a ≤ v) × (v < a + suc n)
    go (inl same) rest = (omega arith, omega arith)
    go (inr apart) rest = let later = rest (omega (arith, count_cons_no (λ (y : ℕ). nat_eq y v) a (range_with_len (a + 1) n) (ne_eqb a v apart))) in (omega (arith, later.0), omega (arith, later.1))

pub inside_from : (address pages v : ℕ) → 0 < count_of (range_of address pages) v → in_range address pages v ≡ true
inside_from address pages v some = let bounds = range_has (page_number address) pages v some in and_from _ _ (le-leb _ _ bounds.0) (lt-ltb _ _ bounds.1)

pub inside_to : (address pages v : ℕ) → in_range address pages v ≡ true → 0 < count_of (range_of address pages) v
inside_to address pages v is =
    let parts = and_parts (nat_le (page_number address) v) (nat_lt v (page_number address + pages)) is in
    omega (arith, range_counts (page_number address) pages v (leb-true _ _ parts.0) (ltb-true _ _ parts.1))

-- a frame that holds a page of p without a valid entry isn't shared
pub unshared : (config : Config) (a : Pager) (flights : List Flight) (p v f : ℕ) → IsKept config (quiet flights) a → entries_at a.valid p v ≡ 0 → a.page f ≡ Some (Private (proc p) v) → shares a.valid f ≡ 0
unshared config a flights p v f kept none holds = go (shares a.valid f) refl
  where
    go : (n : ℕ) → shares a.valid f ≡ n → shares a.valid f ≡ 0
    go zero is = is
    go (suc n) is =
        let found = found_one (λ (y : Valid). nat_eq y.frame f) a.valid (omega arith) in
        let e = found.0 in
        let fits = all_found (IsForItsPage config a.map a.page) (λ (y : Valid). nat_eq y.frame f) a.valid e kept.valid found.1 in
        let there : a.page f ≡ Some fits.0 = subst (λ (h : ℕ). a.page h ≡ Some fits.0) (eqb-true _ _ (found_passes (λ (y : Valid). nat_eq y.frame f) a.valid e found.1)) fits.2 in
        let page : fits.0 ≡ Private (proc p) v = cc in
        let own : fits.0 ≡ Private (proc e.proc) e.vpn = own_is config a.map e.proc e.vpn fits.0 fits.1 (ap is_private page) in
        let same : Private (proc e.proc) e.vpn ≡ Private (proc p) v = sym own ∙ page in
        let proc_is : proc e.proc ≡ proc p = cc in
        let vpn_is : e.vpn ≡ v = cc in
        let some = count_found (is_entry p v) (λ (y : Valid). nat_eq y.frame f) a.valid e found.1 (and_from _ _ (eq-eqb _ _ (ap (λ (z : Proc). z.0) proc_is)) (eq-eqb _ _ vpn_is)) in
        absurd (omega arith)

pub deleted : (config : Config) (past : List Entry) (a : Pager) (p address pages : ℕ) → IsKept config (quiet (open_flights past)) a → IsResident config a p → is_busy p (open_flights past) ≡ false → IsDelete config past a p address pages
    → IsKept config (quiet (open_flights past)) (after_delete config a p address pages)
deleted config past a p address pages kept own still legal =
    map_changed config b (open_flights past) p (map_range (λ (old : Option Mapped). None) p address pages b.map) kept_b
    (ap (λ (s : ℕ → ProcStatus). s p) (untouched config (λ (x : Pager). x.status) (λ x g. refl) gone a) ∙ own.resident) still
    (of_range config b p address pages (λ (old : Option Mapped). None) (λ w g inside mapped. inr (
      ap (λ (xs : List Valid). entries_at xs p w) (untouched config (λ (x : Pager). x.valid) (λ x g. refl) gone a) ∙ legal.not_valid w inside,
      λ private. charged_none config gone a g (own_has config a.map p (range_of address pages) w g (inside_to address pages w inside)
          (subst (λ (m : Map). page_by config m p w ≡ Some g) (untouched config (λ (x : Pager). x.map) (λ x g. refl) gone a) mapped) private),
    )))
  where
    gone : List Page
    gone = own_pages config a.map p (range_of address pages)

    b : Pager
    b = forget_all config gone a

    idle : AllByRecursion (IsIdlePage a.page a.valid (open_flights past)) gone
    idle = own_all (IsIdlePage a.page a.valid (open_flights past)) config a.map p (range_of address pages) (λ v g some mapped private.
        let inside = inside_from address pages v some in
        let g_is = own_is config a.map p v g mapped private in
        record {
          private = private;
          unshared = λ f held. unshared config a (open_flights past) p v f kept (legal.not_valid v inside) (held ∙ ap Some g_is);
          still = λ f held. legal.not_in_flight v f inside (held ∙ ap Some g_is);
        })

    kept_b : IsKept config (quiet (open_flights past)) b
    kept_b = all_forgotten config (open_flights past) gone a kept idle
