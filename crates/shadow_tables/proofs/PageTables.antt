-- A table of items by page, after one page got another item.
use Rattle.std.proofs.Common.{◌≡◌, inl, inr, ℕ, zero, suc, ◌<◌, ◌≤◌, Bool, true, false, cond, List, [], ◌∷◌, Option, Some, None, refl, sym, ap, ◌∙◌, subst, length, slice_index_or, slice_set, arith}
use Rattle.std.specs.Prelude.{map, replicate, option_and_then}
use Rattle.std.specs.Prelude.{slice_get}
use Rattle.std.proofs.Math.Path.{fun_ext}
use Rattle.std.proofs.lemmas.Option.{get_or_from_slice_get, none-some}
use Rattle.std.proofs.lemmas.Bool.Decides.{eqb_tells}
use Rattle.std.proofs.lemmas.List.{get_or-set_other, get_or-set_same, get_or_past, get_or_read}
use Rattle.vm_types.proofs.Places.{item_at-set}
use Rattle.vm_types.specs.PagePlaces.{page_place}
use Rattle.vm_types.specs.declared.config.Section.{Section}
use Rattle.vm_types.specs.declared.names.Page.TheVariants.{Private, Shared}
use Rattle.vm_types.specs.declared.names.Proc.{Proc}
use Rattle.vm_types.specs.declared.names.SecId.{SecId}
use Rattle.vm_types.specs.declared.names.Page.{Page}
use Rattle.pager_model.specs.Sets.{at_page}
use Rattle.shadow_tables.specs.PageTables.{IsRowSet, IsTableSet, Items, first_rows, item_of}

-- the page of a place gets another item, and each other page keeps its own
pub own_put : {X : Type 0} (rows : List (Option X)) (k : ℕ) (x : Option X) → k < length rows → (sections : List (List (Option X))) (p : Proc) (v : ℕ) → page_place p.0 v ≡ Some k
    → item_of (slice_set rows k x, sections) ≡ at_page (item_of (rows, sections)) (Private p v) x
unfolding item_of
own_put rows k x within sections p v is_place = fun_ext each
  where
    each : (h : Page) → item_of (slice_set rows k x, sections) h ≡ at_page (item_of (rows, sections)) (Private p v) x h
    each (Private q w) = item_at-set rows x p.0 v k is_place within q.0 w
    each (Shared s i) = refl

-- and a page of a section
module _ {X : Type 0} (sections : List (List (Option X))) (s : SecId) (i : ℕ) (x : Option X) (there : s.0 < length sections) (within : i < length (slice_index_or sections s.0 [])) where
  abbrev rows : List (Option X)
  rows = slice_index_or sections s.0 []

  abbrev all : List (List (Option X))
  all = slice_set sections s.0 (slice_set rows i x)

  here : slice_index_or all s.0 [] ≡ slice_set rows i x
  here = get_or-set_same sections s.0 (slice_set rows i x) [] there

  pub section_put : (own : List (Option X)) → item_of (own, all) ≡ at_page (item_of (own, sections)) (Shared s i) x
  unfolding item_of
  section_put own = fun_ext each
    where
      each : (h : Page) → item_of (own, all) h ≡ at_page (item_of (own, sections)) (Shared s i) x h
      each (Private q w) = refl
      each (Shared t j) =
          elim (eqb_tells s.0 t.0) [
            | inr apart ↦ rw apart.0 (ap (λ (ys : List (Option X)). slice_index_or ys j None) (get_or-set_other sections s.0 t.0 (slice_set rows i x) [] (λ same. apart.1 (sym same))))
            | inl same ↦ elim (eqb_tells i j) [
              | inr pages ↦ rw (same.0, pages.0)
                  (ap (λ (n : ℕ). slice_index_or (slice_index_or all n []) j None) (sym same.1)
                  ∙ ap (λ (ys : List (Option X)). slice_index_or ys j None) here
                  ∙ get_or-set_other rows i j x None (λ e. pages.1 (sym e))
                  ∙ ap (λ (n : ℕ). slice_index_or (slice_index_or sections n []) j None) same.1)
              | inl pages ↦ rw (same.0, pages.0)
                  (ap (λ (n : ℕ). slice_index_or (slice_index_or all n []) j None) (sym same.1)
                  ∙ ap (λ (ys : List (Option X)). slice_index_or ys j None) here
                  ∙ ap (λ (n : ℕ). slice_index_or (slice_set rows i x) n None) (sym pages.1)
                  ∙ get_or-set_same rows i x None within)
            ]
          ]

-- ---- one write
set_own : {X : Type 0} (xs : List X) (i : ℕ) (d : X) → i < length xs → slice_set xs i (slice_index_or xs i d) ≡ xs
set_own [] i d within = absurd (omega (arith, within))
set_own (x ∷ xs) zero d within = refl
set_own {X} (x ∷ xs) (suc i) d within = ap (λ (ys : List X). x ∷ ys) (set_own xs i d (omega (arith, within)))

nothing_past : {X : Type 0} (own : List (Option X)) (sections : List (List (Option X))) (k : ℕ) (p : Proc) (v : ℕ) → page_place p.0 v ≡ Some k → length own ≤ k → item_of (own, sections) (Private p v) ≡ None
unfolding item_of
nothing_past own sections k p v at past = ap (option_and_then (λ (j : ℕ). slice_index_or own j None)) at ∙ get_or_past own k None past

-- a page without a place has no item
pub no_place : {X : Type 0} (items : Items X) (p : Proc) (v : ℕ) → page_place p.0 v ≡ None → item_of items (Private p v) ≡ None
unfolding item_of
no_place {X} items p v none = ap (option_and_then (λ (j : ℕ). slice_index_or items.0 j None)) none

pub no_section : {X : Type 0} (own : List (Option X)) (sections : List (List (Option X))) (s : SecId) (i : ℕ) → length sections ≤ s.0 → item_of (own, sections) (Shared s i) ≡ None
unfolding item_of
no_section {X} own sections s i past = ap (λ (ys : List (Option X)). slice_index_or ys i None) (get_or_past sections s.0 [] past)

pub own_told : {X : Type 0} (own next : List (Option X)) (sections : List (List (Option X))) (k : ℕ) (x : Option X) (p : Proc) (v : ℕ) → page_place p.0 v ≡ Some k
    → (b : Bool) → IsRowSet own next k x b → IsTableSet (own, sections) (next, sections) (Private p v) x b
own_told {X} own next sections k x p v at true is = ap (λ (ys : List (Option X)). item_of (ys, sections)) is.1 ∙ own_put own k x is.0 sections p v at
own_told {X} own next sections k x p v at false is = (nothing_past own sections k p v at is.0, ap (λ (ys : List (Option X)). (ys, sections)) is.1)

nothing_in : {X : Type 0} (own : List (Option X)) (sections : List (List (Option X))) (row : List (Option X)) (s : SecId) (i : ℕ) → row ≡ slice_index_or sections s.0 [] → length row ≤ i → item_of (own, sections) (Shared s i) ≡ None
unfolding item_of
nothing_in {X} own sections row s i at past = ap (λ (ys : List (Option X)). slice_index_or ys i None) (sym at) ∙ get_or_past row i None past

pub section_told : {X : Type 0} (own : List (Option X)) (sections : List (List (Option X))) (row next : List (Option X)) (s : SecId) (i : ℕ) (x : Option X) → s.0 < length sections → row ≡ slice_index_or sections s.0 row
    → (b : Bool) → IsRowSet row next i x b → IsTableSet (own, sections) (own, slice_set sections s.0 next) (Shared s i) x b
section_told {X} own sections row next s i x there is true set =
    let at : row ≡ slice_index_or sections s.0 [] = get_or_read sections s.0 row there is [] in
    ap (λ (ys : List (Option X)). item_of (own, slice_set sections s.0 ys)) (set.1 ∙ ap (λ (ys : List (Option X)). slice_set ys i x) at)
    ∙ section_put sections s i x there (subst (λ (ys : List (Option X)). i < length ys) at set.0) own
section_told {X} own sections row next s i x there is false same = (
  nothing_in own sections row s i (get_or_read sections s.0 row there is []) same.0,
  ap (λ (ys : List (Option X)). (own, slice_set sections s.0 ys)) (same.1 ∙ get_or_read sections s.0 row there is [])
      ∙ ap (λ (zs : List (List (Option X))). (own, zs)) (set_own sections s.0 [] there),
)

-- ---- one read
pub row_there : {X : Type 0} (sections : List (List (Option X))) (s i : ℕ) (row : List (Option X)) → slice_get sections s ≡ Some row → slice_index_or row i None ≡ slice_index_or (slice_index_or sections s []) i None
row_there {X} sections s i row is = ap (λ (ys : List (Option X)). slice_index_or ys i None) (sym (get_or_from_slice_get sections s row [] is))

pub no_row : {X : Type 0} (sections : List (List (Option X))) (s i : ℕ) → slice_get sections s ≡ None → None ≡ slice_index_or (slice_index_or sections s []) i None
no_row [] s i is = refl
no_row (row ∷ sections) zero i is = absurd (none-some row (sym is))
no_row (row ∷ sections) (suc s) i is = no_row sections s i is

-- ---- a table without items
abbrev without_items : {X : Type 0} → ℕ → List (Option X)
without_items n = replicate n None

nothing_at : {X : Type 0} (n j : ℕ) → slice_index_or (without_items {X = X} n) j None ≡ None
nothing_at zero j = refl
nothing_at (suc n) zero = refl
nothing_at (suc n) (suc j) = nothing_at n j

no_rows : {X : Type 0} (sections : List Section) (s j : ℕ) → slice_index_or (slice_index_or (first_rows {X = X} sections) s []) j None ≡ None
no_rows [] s j = refl
no_rows (section ∷ sections) zero j = nothing_at _ j
no_rows (section ∷ sections) (suc s) j = no_rows sections s j

pub no_items : {X : Type 0} (n : ℕ) (sections : List Section) (g : Page) → item_of (without_items {X = X} n, first_rows sections) g ≡ None
unfolding item_of
no_items {X} n sections (Private p v) = go (page_place p.0 v)
  where
    go : (o : Option ℕ) → option_and_then (λ place. slice_index_or (without_items {X = X} n) place None) o ≡ None
    go None = refl
    go (Some k) = nothing_at n k
no_items n sections (Shared s i) = no_rows sections s.0 i
