-- The page file after the block of a page, if it has one, was released, and the page is no longer charged.
use Rattle.std.proofs.Common.{◌≡◌, ℕ, zero, suc, ◌+◌, ◌<◌, ◌≤◌, Bool, true, false, cond, not, List, [], ◌∷◌, Option, Some, None, filter, find, length, count_by, slice_get, slice_set, slice_index_or, refl, sym, ap, ◌∙◌, subst, arith, length-set}
use Rattle.std.specs.Prelude.{◌&&◌, is_some}
use Rattle.std.specs.Option.{option_map}
use Rattle.std.proofs.lemmas.Bool.{and_from, ne_eqb, eq-eqb}
use Rattle.std.proofs.lemmas.List.{get_or-set_same, get_or-set_other}
use Rattle.std.proofs.lemmas.List.Filters.{length-filter_both}
use Rattle.std.proofs.lemmas.List.Sums.{length-filter}
use Rattle.std.proofs.lemmas.Option.{none-some, slice_get_within}
use Rattle.vm_types.specs.declared.names.Page.{Page}
use Rattle.page_file.specs.Blocks.{Blocks, IsAssignedBlock, assigned_blocks}
use Rattle.pager_laws.proofs.PageForgotten.{dropped_own}
use Rattle.pager_model.specs.Changes.{without_assigned}
use Rattle.pager_model.specs.Lookups.{block_of, is_assigned_to}
use Rattle.pager_model.specs.Pager.{Assigned}
use Rattle.pager_rules.proofs.Basics.{count_cons_no, count_cons_yes, find_cons_no, find_cons_yes, find_none_from_count}
use Rattle.pager_rules.proofs.Lists.{count_found, count_removed_no, count_removed_yes, count_written, filter_all, found_one, found_passes}
use Rattle.pager_rules.proofs.Put.{no_blocks}
use Rattle.state_fits.specs.File.{FileFits, has_block, owner_in}
use Rattle.state_fits.specs.Forgetting.{released_block}
use Rattle.state_fits.proofs.OnePlace.{at_each}

-- ---- a list without what passes q
pub length_without : {X : Type 0} (q : X → Bool) (xs : List X) → length (filter (λ (x : X). not (q x)) xs) + count_by q xs ≡ length xs
length_without {X} q xs = let both = length-filter_both q (λ (x : X). not (q x)) (λ x. refl) xs in let counted = length-filter q xs in omega (arith, both, counted)

none_both : {X : Type 0} (p q : X → Bool) (xs : List X) → count_by q xs ≡ 0 → count_by (λ (x : X). q x && p x) xs ≡ 0
none_both p q [] none = refl
none_both {X} p q (x ∷ xs) none = go (q x) refl (none_both p q xs)
  where
    go : (c : Bool) → q x ≡ c → (count_by q xs ≡ 0 → count_by (λ (y : X). q y && p y) xs ≡ 0) → count_by (λ (y : X). q y && p y) (x ∷ xs) ≡ 0
    go true is rest = let some = count_cons_yes q x xs is in absurd (omega (arith, some, none))
    go false is rest = count_cons_no (λ (y : X). q y && p y) x xs (rw is refl) ∙ rest (sym (count_cons_no q x xs is) ∙ none)

-- what is found isn't dropped, since nothing that passes p passes q
find_left : {X : Type 0} (p q : X → Bool) (xs : List X) → count_by (λ (x : X). q x && p x) xs ≡ 0 → find p (filter (λ (x : X). not (q x)) xs) ≡ find p xs
find_left p q [] none = refl
find_left {X} p q (x ∷ xs) none = go (q x) refl (p x) refl (find_left p q xs)
  where
    both : X → Bool
    both y = q y && p y

    rest : List X
    rest = filter (λ (y : X). not (q y)) xs

    go : (c : Bool) → q x ≡ c → (d : Bool) → p x ≡ d → (count_by both xs ≡ 0 → find p rest ≡ find p xs) → find p (cond (not c) (x ∷ rest) rest) ≡ find p (x ∷ xs)
    go true is true is_p step = let some = count_cons_yes both x xs (and_from _ _ is is_p) in absurd (omega (arith, some, none))
    go true is false is_p step = step (sym (count_cons_no both x xs (rw (is, is_p) refl)) ∙ none) ∙ sym (find_cons_no p x xs is_p)
    go false is true is_p step = find_cons_yes p x rest is_p ∙ sym (find_cons_yes p x xs is_p)
    go false is false is_p step = find_cons_no p x rest is_p ∙ (step (sym (count_cons_no both x xs (rw is refl)) ∙ none) ∙ sym (find_cons_no p x xs is_p))

-- ---- owners
owner_there : {X : Type 0} (xs : List (Option X)) (i : ℕ) (x : X) → slice_index_or xs i None ≡ Some x → slice_get xs i ≡ Some (Some x)
owner_there [] i x is = absurd (none-some x is)
owner_there (y ∷ xs) zero x is = ap Some is
owner_there (y ∷ xs) (suc i) x is = owner_there xs i x is

module _ (assigned : List Assigned) (g : Page) (once : count_by (is_assigned_to g) assigned ≤ 1) (alone : (b : ℕ) → count_by (has_block b) assigned ≤ 1) where
  abbrev of_page : Assigned → Bool
  of_page = is_assigned_to g

  abbrev left : List Assigned
  left = without_assigned assigned g

  assigned_of : (b : ℕ) → block_of assigned g ≡ Some b → (x : Assigned) × (find of_page assigned ≡ Some x) × (x.block ≡ b)
  assigned_of b is = go (find of_page assigned) refl is
    where
      go : (o : Option Assigned) → find of_page assigned ≡ o → option_map (λ (x : Assigned). x.block) o ≡ Some b → (x : Assigned) × (find of_page assigned ≡ Some x) × (x.block ≡ b)
      go None found none = absurd (none-some b none)
      go (Some x) found some = (x, found, cc)

  module _ (b : ℕ) (x : Assigned) (found : find of_page assigned ≡ Some x) (is : x.block ≡ b) where
    block_gone : find (has_block b) left ≡ None
    block_gone =
        let fewer = count_removed_yes (has_block b) of_page assigned x found once (eq-eqb x.block b is) in
        find_none_from_count (has_block b) left (omega (arith, fewer, alone b))

    block_stays : (c : ℕ) → (b ≡ c → ⊥) → find (has_block c) left ≡ find (has_block c) assigned
    block_stays c apart =
        let removed = count_removed_no (λ (y : Assigned). of_page y && has_block c y) of_page assigned x found once not_c in
        find_left (has_block c) of_page assigned (sym removed ∙ none_both (has_block c) of_page left (dropped_own of_page assigned))
      where
        not_c : (of_page x && has_block c x) ≡ false
        not_c = rw (found_passes of_page assigned x found, ne_eqb x.block c (λ same. apart (sym is ∙ same))) refl

    owner : (y : Assigned) × (find (has_block b) assigned ≡ Some y)
    owner = found_one (has_block b) assigned (count_found (has_block b) of_page assigned x found (eq-eqb x.block b is))

    released_some : (charged n : ℕ) (file : Blocks) → FileFits charged (length assigned) (owner_in assigned) n file → FileFits charged (length left) (owner_in left) n (record file { owners = slice_set file.owners b None })
    released_some charged n file fit =
        let there = owner_there file.owners b (owner.0).page (fit.owners b ∙ ap (option_map (λ (y : Assigned). y.page)) owner.1) in
        let counted : assigned_blocks (record file { owners = slice_set file.owners b None }) + 1 ≡ assigned_blocks file + 0 = count_written is_some file.owners b (Some (owner.0).page) None there in
        let some : 0 < count_by of_page assigned = count_found of_page of_page assigned x found (found_passes of_page assigned x found) in
        let fewer : length left + count_by of_page assigned ≡ length assigned = length_without of_page assigned in
        let blocks = fit.blocks in
        record {
          count = length-set file.owners b None ∙ fit.count;
          charges = fit.charges;
          blocks = omega (arith, counted, some, fewer, once, blocks);
          owners = at_each (λ c. slice_index_or (slice_set file.owners b None) c None ≡ owner_in left c) b
              (get_or-set_same file.owners b None None (slice_get_within file.owners b (Some (owner.0).page) there) ∙ ap (option_map (λ (y : Assigned). y.page)) (sym block_gone))
              (λ c apart. get_or-set_other file.owners b c None None (λ e. apart (sym e)) ∙ (fit.owners c ∙ ap (option_map (λ (y : Assigned). y.page)) (sym (block_stays c apart))));
        }

  pub released : (charged n : ℕ) (file : Blocks) (o : Option ℕ) → block_of assigned g ≡ o → FileFits charged (length assigned) (owner_in assigned) n file → FileFits charged (length left) (owner_in left) n (released_block o file)
  released charged n file None none fit = subst (λ (xs : List Assigned). FileFits charged (length xs) (owner_in xs) n file) (sym (filter_all of_page assigned (no_blocks assigned g none))) fit
  released charged n file (Some b) some fit = let at = assigned_of b some in released_some b at.0 at.1 at.2 charged n file fit

  -- the block of a page is assigned
  pub assigned_there : (charged n : ℕ) (file : Blocks) (b : ℕ) → block_of assigned g ≡ Some b → FileFits charged (length assigned) (owner_in assigned) n file → IsAssignedBlock file b
  assigned_there charged n file b some fit = let at = assigned_of b some in ap is_some (fit.owners b ∙ ap (option_map (λ (y : Assigned). y.page)) (owner b at.0 at.1 at.2).1)

pub released_charged : (o : Option ℕ) (file : Blocks) → (released_block o file).charged ≡ file.charged
released_charged None file = refl
released_charged (Some b) file = refl
