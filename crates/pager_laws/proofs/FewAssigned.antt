-- Fewer blocks are assigned than are charged while a charged page has none.
use Rattle.std.proofs.Common.{◌≡◌, ◌+◌, ◌<◌, ◌≤◌, Bool, true, false, cond, not, List, [], ◌∷◌, length, count_by, refl, sym, subst, arith}
use Rattle.vm_types.specs.Same.{same_page}
use Rattle.vm_types.specs.declared.config.Config.{Config}
use Rattle.vm_types.specs.declared.names.Page.{Page}
use Rattle.pager_model.specs.Around.{PastView}
use Rattle.pager_model.specs.Changes.{without_page}
use Rattle.pager_model.specs.Lookups.{count_page, is_assigned_to}
use Rattle.pager_model.specs.Pager.{Assigned, Pager}
use Rattle.pager_rules.proofs.Basics.{count_cons_no, count_cons_yes, pages_equal, same_page_refl}
use Rattle.pager_rules.proofs.Lists.{count_removed_no, found_one, found_passes}
use Rattle.pager_rules.specs.Kept.{IsKept}

length_without : (g : Page) (pages : List Page) → length pages ≡ count_page pages g + length (without_page pages g)
length_without g [] = refl
length_without g (x ∷ pages) = go (same_page g x) refl (length_without g pages)
  where
    go : (b : Bool) → same_page g x ≡ b → length pages ≡ count_page pages g + length (without_page pages g) → length (x ∷ pages) ≡ count_page (x ∷ pages) g + length (cond (not b) (x ∷ without_page pages g) (without_page pages g))
    go true is old = let step = count_cons_yes (same_page g) x pages is in omega (arith, step, old)
    go false is old = let step = count_cons_no (same_page g) x pages is in omega (arith, step, old)

-- another page is as often in the rest
others_stay : (g h : Page) (pages : List Page) → count_page pages g ≡ 1 → same_page h g ≡ false → count_page (without_page pages g) h ≡ count_page pages h
others_stay g h pages one apart =
    let found = found_one (same_page g) pages (omega (arith, one)) in
    let same : g ≡ found.0 = pages_equal g found.0 (found_passes (same_page g) pages found.0 found.1) in
    count_removed_no (same_page h) (same_page g) pages found.0 found.1 (omega (arith, one)) (subst (λ (x : Page). same_page h x ≡ false) same apart)

few : (assigned : List Assigned) (pages : List Page) → ((g : Page) → count_by (is_assigned_to g) assigned ≤ count_page pages g) → ((g : Page) → count_page pages g ≤ 1) → length assigned ≤ length pages
few [] pages least once = omega arith
few (x ∷ assigned) pages least once =
    let one : count_page pages x.page ≡ 1 = omega (arith, count_cons_yes (is_assigned_to x.page) x assigned (same_page_refl x.page), least x.page, once x.page) in
    let rest = few assigned (without_page pages x.page) (λ g. each g (same_page g x.page) refl one) (λ g. each_once g (same_page g x.page) refl one) in
    omega (arith, length_without x.page pages, one, rest)
  where
    each : (g : Page) (b : Bool) → same_page g x.page ≡ b → count_page pages x.page ≡ 1 → count_by (is_assigned_to g) assigned ≤ count_page (without_page pages x.page) g
    each g true is one = omega (arith, count_cons_yes (is_assigned_to g) x assigned is, least g, once g)
    each g false is one = omega (arith, count_cons_no (is_assigned_to g) x assigned is, least g, others_stay x.page g pages one is)

    gone : (g : Page) → same_page g x.page ≡ true → count_page pages x.page ≡ 1 → count_page (without_page pages x.page) g ≤ 1
    gone g is one =
        let same = pages_equal g x.page is in
        subst (λ (y : Page). count_page (without_page pages x.page) y ≤ 1) (sym same) (none pages)
      where
        none : (pages : List Page) → count_page (without_page pages x.page) x.page ≤ 1
        none [] = omega arith
        none (y ∷ pages) = by (same_page x.page y) refl (none pages)
          where
            by : (b : Bool) → same_page x.page y ≡ b → count_page (without_page pages x.page) x.page ≤ 1 → count_page (cond (not b) (y ∷ without_page pages x.page) (without_page pages x.page)) x.page ≤ 1
            by true is old = old
            by false is old = omega (arith, count_cons_no (same_page x.page) y (without_page pages x.page) is, old)

    each_once : (g : Page) (b : Bool) → same_page g x.page ≡ b → count_page pages x.page ≡ 1 → count_page (without_page pages x.page) g ≤ 1
    each_once g true is one = gone g is one
    each_once g false is one = omega (arith, once g, others_stay x.page g pages one is)

pub one_unassigned : (config : Config) (o : PastView) (a : Pager) (g : Page) → IsKept config o a → 0 < count_page a.charged g → count_by (is_assigned_to g) a.assigned ≡ 0 → length a.assigned < length a.charged
one_unassigned config o a g kept some none = few (now ∷ a.assigned) a.charged (λ h. each h (same_page h g) refl) (λ h. (kept.pages h).charged)
  where
    now : Assigned
    now = record { page = g; block = 0 }

    each : (h : Page) (b : Bool) → same_page h g ≡ b → count_by (is_assigned_to h) (now ∷ a.assigned) ≤ count_page a.charged h
    each h true is =
        let same = pages_equal h g is in
        subst (λ (y : Page). count_by (is_assigned_to y) (now ∷ a.assigned) ≤ count_page a.charged y) (sym same) (omega (arith, count_cons_yes (is_assigned_to g) now a.assigned (same_page_refl g), none, some))
    each h false is = let blocks = (kept.pages h).blocks in omega (arith, count_cons_no (is_assigned_to h) now a.assigned is, blocks)
