-- SERVED Delete changes the map and the touched pages as the flat machine does.
use Rattle.std.proofs.Common.{◌≡◌, ℕ, ◌<◌, Bool, true, false, cond, not, ◌||◌, List, [], ◌∷◌, Option, Some, None, filter, nat_eq, refl, sym, ap, ◌∙◌, subst, arith}
use Rattle.std.specs.List.{AllByRecursion, list_any}
use Rattle.std.proofs.lemmas.Bool.{false≢true, and_from, and_parts, eqb-true}
use Rattle.vm_types.specs.Same.{same_page}
use Rattle.vm_types.specs.declared.names.Page.{Page}
use Rattle.vm_types.specs.declared.names.Page.TheVariants.{Private, Shared}
use Rattle.vm_types.specs.declared.config.Config.{Config}
use Rattle.vm_journal.specs.declared.entry.Entry.{Entry}
use Rattle.pager_laws.proofs.DeleteKept.{inside_from, inside_to, own_all, own_has, untouched}
use Rattle.pager_model.specs.Around.{quiet}
use Rattle.pager_model.specs.FlatService.{in_range, is_private_in, map_range}
use Rattle.pager_model.specs.Flights.{open_flights}
use Rattle.pager_model.specs.Forget.{after_delete, forget_all, forgotten, own_pages, range_of}
use Rattle.pager_model.specs.Lookups.{count_page, page_by}
use Rattle.pager_model.specs.Maps.{Mapped}
use Rattle.pager_model.specs.Pager.{Pager}
use Rattle.pager_rules.proofs.Basics.{count_cons, count_cons_no, count_cons_yes, nat_eq_refl, pages_equal, same_from_equal, same_page_refl}
use Rattle.pager_rules.proofs.Pages.{own_is}
use Rattle.pager_rules.proofs.Put.{page_apart}
use Rattle.pager_rules.specs.Kept.{IsKept}

abbrev among : List Page → Page → Bool
among pages x = list_any (λ (g : Page). same_page g x) pages

filter_every : (xs : List Page) → filter (λ (x : Page). true) xs ≡ xs
filter_every [] = refl
filter_every (x ∷ xs) = ap (λ (ys : List Page). x ∷ ys) (filter_every xs)

filter_twice : (t u : Page → Bool) (xs : List Page) → filter (λ (x : Page). not (u x)) (filter (λ (x : Page). not (t x)) xs) ≡ filter (λ (x : Page). not (t x || u x)) xs
filter_twice t u [] = refl
filter_twice t u (x ∷ xs) = go (t x) (u x) refl (filter_twice t u xs)
  where
    first : List Page
    first = filter (λ (y : Page). not (t y)) xs

    both : List Page
    both = filter (λ (y : Page). not (t y || u y)) xs

    go : (b c : Bool) → u x ≡ c → filter (λ (y : Page). not (u y)) first ≡ both → filter (λ (y : Page). not (u y)) (cond (not b) (x ∷ first) first) ≡ cond (not (b || c)) (x ∷ both) both
    go true c is same = same
    go false c is same = ap (λ (d : Bool). cond (not d) (x ∷ filter (λ (y : Page). not (u y)) first) (filter (λ (y : Page). not (u y)) first)) is ∙ ap (λ (ys : List Page). cond (not c) (x ∷ ys) ys) same

filter_same : (t u : Page → Bool) (xs : List Page) → ((x : Page) → 0 < count_page xs x → t x ≡ u x) → filter t xs ≡ filter u xs
filter_same t u [] same = refl
filter_same t u (x ∷ xs) same = go (filter_same t u xs (λ y some. same y (omega (arith, count_cons (same_page y) x xs)))) (same x (omega (arith, count_cons_yes (same_page x) x xs (same_page_refl x))))
  where
    go : filter t xs ≡ filter u xs → t x ≡ u x → cond (t x) (x ∷ filter t xs) (filter t xs) ≡ cond (u x) (x ∷ filter u xs) (filter u xs)
    go rest here = ap (λ (b : Bool). cond b (x ∷ filter t xs) (filter t xs)) here ∙ ap (λ (ys : List Page). cond (u x) (x ∷ ys) ys) rest

-- the fold of forgettings is one filter
touched_is : (config : Config) (pages : List Page) (a : Pager) → (forget_all config pages a).touched ≡ filter (λ (x : Page). not (among pages x)) a.touched
touched_is config [] a = sym (filter_every a.touched)
touched_is config (g ∷ pages) a = touched_is config pages (forgotten config a g) ∙ filter_twice (same_page g) (among pages) a.touched

among_meets : (P : Page → Type 0) (pages : List Page) (x : Page) → AllByRecursion P pages → among pages x ≡ true → P x
among_meets P [] x all is = absurd (false≢true is)
among_meets P (g ∷ pages) x all is = go (same_page g x) refl is (among_meets P pages x all.1)
  where
    go : (c : Bool) → same_page g x ≡ c → (c || among pages x) ≡ true → (among pages x ≡ true → P x) → P x
    go true same known rest = subst P (pages_equal g x same) all.0
    go false apart later rest = rest later

among_counts : (pages : List Page) (x : Page) → 0 < count_page pages x → among pages x ≡ true
among_counts [] x some = absurd (omega arith)
among_counts (g ∷ pages) x some = go (same_page g x) refl (among_counts pages x)
  where
    go : (c : Bool) → same_page g x ≡ c → (0 < count_page pages x → among pages x ≡ true) → (c || among pages x) ≡ true
    go true same rest = refl
    go false apart rest = rest (omega (arith, count_cons_no (same_page x) g pages (page_apart x g (λ same. false≢true (sym apart ∙ same_from_equal g x (sym same))))))

pub touched_deleted : (config : Config) (past : List Entry) (a : Pager) (p address pages : ℕ) → IsKept config (quiet (open_flights past)) a
    → (after_delete config a p address pages).touched ≡ filter (λ (x : Page). not (is_private_in p address pages x)) a.touched
touched_deleted config past a p address pages kept =
    touched_is config gone a ∙ filter_same (λ (x : Page). not (among gone x)) (λ (x : Page). not (is_private_in p address pages x)) a.touched (λ x some. ap not (same x (omega (arith, (kept.pages x).touched))))
  where
    gone : List Page
    gone = own_pages config a.map p (range_of address pages)

    own : AllByRecursion (λ (g : Page). is_private_in p address pages g ≡ true) gone
    own = own_all (λ (g : Page). is_private_in p address pages g ≡ true) config a.map p (range_of address pages)
        (λ v g some mapped private. ap (is_private_in p address pages) (own_is config a.map p v g mapped private) ∙ and_from _ _ (nat_eq_refl p) (inside_from address pages v some))

    same : (x : Page) → 0 < count_page a.charged x → among gone x ≡ is_private_in p address pages x
    same (Shared s i) some = go (among gone (Shared s i)) refl
      where
        go : (c : Bool) → among gone (Shared s i) ≡ c → among gone (Shared s i) ≡ false
        go true is = absurd (false≢true (among_meets (λ (g : Page). is_private_in p address pages g ≡ true) gone (Shared s i) own is))
        go false is = is
    same (Private q w) some = go (is_private_in p address pages (Private q w)) refl (among gone (Private q w)) refl
      where
        go : (c : Bool) → is_private_in p address pages (Private q w) ≡ c → (d : Bool) → among gone (Private q w) ≡ d → d ≡ c
        go true inside true is = refl
        go false outside false is = refl
        go false outside true is = absurd (false≢true (sym outside ∙ among_meets (λ (g : Page). is_private_in p address pages g ≡ true) gone (Private q w) own is))
        go true inside false is =
            let parts = and_parts (nat_eq p q.0) (in_range address pages w) inside in
            let mapped : page_by config a.map p w ≡ Some (Private q w) = subst (λ (r : ℕ). page_by config a.map r w ≡ Some (Private q w)) (sym (eqb-true p q.0 parts.0)) ((kept.pages (Private q w)).mapped some refl) in
            absurd (false≢true (sym is ∙ among_counts gone (Private q w) (own_has config a.map p (range_of address pages) w (Private q w) (inside_to address pages w parts.1) mapped refl)))

pub map_deleted : (config : Config) (a : Pager) (p address pages : ℕ) → (after_delete config a p address pages).map ≡ map_range (λ (old : Option Mapped). None) p address pages a.map
map_deleted config a p address pages =
    ap (map_range (λ (old : Option Mapped). None) p address pages) (untouched config (λ (x : Pager). x.map) (λ x g. refl) (own_pages config a.map p (range_of address pages)) a)
