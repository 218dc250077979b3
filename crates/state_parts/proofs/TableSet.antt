-- A table of charged pages: which pages have a place, and the table after one page's row was set.
use Rattle.std.proofs.Common.{◌≡◌, ◌⊎◌, inl, inr, ℕ, zero, suc, ◌+◌, ◌*◌, ◌/◌, ◌<◌, ◌≤◌, Bool, true, false, cond, ◌&&◌, List, [], ◌∷◌, Option, Some, None, length, map, replicate, nat_eq, slice_get, slice_set, slice_index_or, unwrap_or, refl, sym, ap, ◌∙◌, subst, arith, length-set}
use Rattle.std.specs.Prelude.{IsSome, is_some}
use Rattle.std.specs.Option.{option_and_then, option_map}
use Rattle.std.proofs.lemmas.Bool.{cases_lt, eqb-false, eqb-true, false≢true}
use Rattle.std.proofs.lemmas.List.{get_or_read, get_or-replicate, get_or-set_other, get_or-set_same, length-replicate}
use Rattle.std.proofs.lemmas.Option.{none-some, slice_get_past, slice_get_within, unwrap_or-slice_get}
use Rattle.vm_types.specs.declared.limits.TheConstants.{PRIVATE_PAGES}
use Rattle.vm_types.specs.Configuration.{section_pages}
use Rattle.vm_types.specs.Kinds.{is_paged_kind, paged_of}
use Rattle.vm_types.specs.PagePlaces.{changed_at, item_at, page_place, region_place}
use Rattle.vm_types.specs.declared.config.Section.{Section}
use Rattle.vm_types.specs.declared.names.Page.{Page}
use Rattle.vm_types.specs.declared.names.Page.TheVariants.{Private, Shared}
use Rattle.vm_types.specs.declared.names.Proc.{Proc}
use Rattle.vm_types.specs.declared.names.SecId.{SecId}
use Rattle.pager_model.specs.Sets.{at_page}
use Rattle.state_parts.specs.ChargedTable.{ChargedTable, HasPage, HasPagedPlaces, HasPlace, IsTableSet, charged_at, first_rows, kept_at, rows_of, section_runs}
use Rattle.state_parts.specs.declared.charged_page.ChargedPage.{ChargedPage}

-- ---- lists
replicated : {X : Type 0} (n i : ℕ) (x : X) → slice_index_or (replicate n x) i x ≡ x
replicated n i x = go (cases_lt i n)
  where
    go : (i < n) ⊎ (n ≤ i) → slice_index_or (replicate n x) i x ≡ x
    go (inl below) = get_or-replicate n i x x below
    go (inr past) =
        sym (unwrap_or-slice_get (replicate n x) i x)
        ∙ ap (λ o. unwrap_or o x) (slice_get_past (replicate n x) i (let count = length-replicate n x in omega (arith, count, past)))

-- ---- places
item_there : {X : Type 0} (xs : List (Option X)) (i : ℕ) (x : X) → slice_index_or xs i None ≡ Some x → slice_get xs i ≡ Some (Some x)
item_there [] i x is = absurd (none-some x is)
item_there (y ∷ xs) zero x is = ap Some is
item_there (y ∷ xs) (suc i) x is = item_there xs i x is

item_within : {X : Type 0} (xs : List (Option X)) (i : ℕ) → IsSome (slice_index_or xs i None) → i < length xs
item_within {X} xs i some = go (slice_index_or xs i None) refl some
  where
    go : (o : Option X) → slice_index_or xs i None ≡ o → IsSome o → i < length xs
    go None is none = absurd (false≢true none)
    go (Some x) is there = slice_get_within xs i (Some x) (item_there xs i x is)

own_place : (t : ChargedTable) (p v : ℕ) → length t.pages ≡ t.procs * PRIVATE_PAGES → IsSome (charged_at t p v) → HasPage t p v
own_place t p v count some = go (region_place v) refl some
  where
    go : (o : Option ℕ) → region_place v ≡ o → IsSome (option_and_then (λ k. slice_index_or t.pages k None) (option_map (λ k. PRIVATE_PAGES * p + k) o)) → HasPage t p v
    go None is none = absurd (false≢true none)
    go (Some k) is there = record {
      proc = let within = item_within t.pages (PRIVATE_PAGES * p + k) there in omega (arith, within, count);
      page = ap is_some is;
    }

-- a page of which something is kept has a place
pub kept_place : (t : ChargedTable) → length t.pages ≡ t.procs * PRIVATE_PAGES → (g : Page) → IsSome (kept_at t g) → HasPlace t g
kept_place t count (Private p v) some = own_place t p.0 v count some
kept_place t count (Shared s i) some = item_within (rows_of t s.0) i some

-- ---- one page's row is set
pub own_set : (old new : ChargedTable) (p : Proc) (v : ℕ) (x : Option ChargedPage) → new.procs ≡ old.procs → new.shared ≡ old.shared
    → ((q w : ℕ) → charged_at new q w ≡ changed_at (charged_at old) p.0 v x q w) → IsTableSet old new (Private p v) x
own_set old new p v x procs shared changed = record {
  procs = procs;
  places = λ s. ap (λ (xs : List (List (Option ChargedPage))). length (slice_index_or xs s [])) shared;
  each = each;
}
  where
    each : (h : Page) → kept_at new h ≡ at_page (kept_at old) (Private p v) x h
    each (Private q w) = changed q.0 w
    each (Shared s i) = ap (λ (xs : List (List (Option ChargedPage))). slice_index_or (slice_index_or xs s.0 []) i None) shared

rows_within : (t : ChargedTable) (s i : ℕ) → i < length (rows_of t s) → s < length t.shared
rows_within t s i inside = go (slice_get t.shared s) refl
  where
    go : (o : Option (List (Option ChargedPage))) → slice_get t.shared s ≡ o → s < length t.shared
    go None none =
        let empty : rows_of t s ≡ [] = sym (unwrap_or-slice_get t.shared s []) ∙ ap (λ (o : Option (List (Option ChargedPage))). unwrap_or o []) none in
        let zero : length (rows_of t s) ≡ 0 = ap (λ (xs : List (Option ChargedPage)). length xs) empty in
        absurd (omega (arith, inside, zero))
    go (Some rows) is = slice_get_within t.shared s rows is

shared_set : (old new : ChargedTable) (s : SecId) (i : ℕ) (x : Option ChargedPage) → new.procs ≡ old.procs → new.pages ≡ old.pages → i < length (rows_of old s.0)
    → new.shared ≡ slice_set old.shared s.0 (slice_set (rows_of old s.0) i x) → IsTableSet old new (Shared s i) x
shared_set old new s i x procs pages inside shared = record {
  procs = procs;
  places = λ t. ap (λ (xs : List (List (Option ChargedPage))). length (slice_index_or xs t [])) shared ∙ places t (nat_eq s.0 t) refl;
  each = each;
}
  where
    rows : List (Option ChargedPage)
    rows = rows_of old s.0

    all : List (List (Option ChargedPage))
    all = slice_set old.shared s.0 (slice_set rows i x)

    here : slice_index_or all s.0 [] ≡ slice_set rows i x
    here = get_or-set_same old.shared s.0 (slice_set rows i x) [] (rows_within old s.0 i inside)

    there : (t : ℕ) → (s.0 ≡ t → ⊥) → slice_index_or all t [] ≡ rows_of old t
    there t apart = get_or-set_other old.shared s.0 t (slice_set rows i x) [] (λ e. apart (sym e))

    places : (t : ℕ) (b : Bool) → nat_eq s.0 t ≡ b → length (slice_index_or all t []) ≡ length (rows_of old t)
    places t true e =
        subst (λ (u : ℕ). length (slice_index_or all u []) ≡ length (rows_of old u)) (eqb-true s.0 t e)
        (ap (λ (xs : List (Option ChargedPage)). length xs) here ∙ length-set rows i x)
    places t false e = ap (λ (xs : List (Option ChargedPage)). length xs) (there t (eqb-false s.0 t e))

    own : (j : ℕ) (b : Bool) → nat_eq i j ≡ b → slice_index_or (slice_set rows i x) j None ≡ cond b x (slice_index_or rows j None)
    own j true e = subst (λ (k : ℕ). slice_index_or (slice_set rows i x) k None ≡ x) (eqb-true i j e) (get_or-set_same rows i x None inside)
    own j false e = get_or-set_other rows i j x None (λ same. eqb-false i j e (sym same))

    item : (t j : ℕ) (b : Bool) → nat_eq s.0 t ≡ b → slice_index_or (slice_index_or all t []) j None ≡ cond (b && nat_eq i j) x (slice_index_or (rows_of old t) j None)
    item t j true e =
        subst (λ (u : ℕ). slice_index_or (slice_index_or all u []) j None ≡ cond (nat_eq i j) x (slice_index_or (rows_of old u) j None)) (eqb-true s.0 t e)
        (ap (λ (xs : List (Option ChargedPage)). slice_index_or xs j None) here ∙ own j (nat_eq i j) refl)
    item t j false e = ap (λ (xs : List (Option ChargedPage)). slice_index_or xs j None) (there t (eqb-false s.0 t e))

    each : (h : Page) → kept_at new h ≡ at_page (kept_at old) (Shared s i) x h
    each (Private q w) = ap (λ (xs : List (Option ChargedPage)). item_at xs q.0 w) pages
    each (Shared t j) = ap (λ (xs : List (List (Option ChargedPage))). slice_index_or (slice_index_or xs t.0 []) j None) shared ∙ item t.0 j (nat_eq s.0 t.0) refl

-- as a method knows it: by the rows of the section, as they were read and as they are now
pub shared_set_at : (old new : ChargedTable) (g : Page) (x : Option ChargedPage) (s : SecId) (i : ℕ) → g ≡ Shared s i → HasPlace old g → new.procs ≡ old.procs → new.pages ≡ old.pages
    → (all : List (List (Option ChargedPage))) → all ≡ old.shared → (row row' : List (Option ChargedPage)) → row ≡ slice_index_or all s.0 row → row' ≡ slice_set row i x → new.shared ≡ slice_set all s.0 row' → IsTableSet old new g x
shared_set_at old new g x s i is place procs pages all all_is row row' read set now =
    subst (λ (h : Page). IsTableSet old new h x) (sym is) (shared_set old new s i x procs pages inside
    (now ∙ (λ k. slice_set (all_is k) s.0 (whole k))))
  where
    inside : i < length (rows_of old s.0)
    inside = subst (HasPlace old) is place

    read_row : row ≡ rows_of old s.0
    read_row =
        get_or_read all s.0 row (subst (λ (xs : List (List (Option ChargedPage))). s.0 < length xs) (sym all_is) (rows_within old s.0 i inside)) read []
        ∙ ap (λ (xs : List (List (Option ChargedPage))). slice_index_or xs s.0 []) all_is

    whole : row' ≡ slice_set (rows_of old s.0) i x
    whole = set ∙ ap (λ (xs : List (Option ChargedPage)). slice_set xs i x) read_row

-- ---- before the first charge
first_none : (section : Section) (i : ℕ) → slice_index_or (first_rows section) i None ≡ None
first_none section i = replicated {X = Option ChargedPage} (section_runs section * 64) i None

replicated_rows : (sections : List Section) (s i : ℕ) → slice_index_or (slice_index_or (map first_rows sections) s []) i None ≡ None
replicated_rows [] s i = refl
replicated_rows (x ∷ sections) zero i = first_none x i
replicated_rows (x ∷ sections) (suc s) i = replicated_rows sections s i

abbrev none_row : Option ChargedPage
none_row = None

item_none : (n p v : ℕ) → item_at (replicate n none_row) p v ≡ none_row
item_none n p v = go (page_place p v)
  where
    go : (o : Option ℕ) → option_and_then (λ k. slice_index_or (replicate n none_row) k None) o ≡ none_row
    go None = refl
    go (Some k) = replicated {X = Option ChargedPage} n k None

-- nothing is kept of any page
pub none_kept : (t : ChargedTable) (n : ℕ) (sections : List Section) → t.pages ≡ replicate n None → t.shared ≡ map first_rows sections → (g : Page) → kept_at t g ≡ None
none_kept t n sections pages shared (Private p v) = ap (λ (xs : List (Option ChargedPage)). item_at xs p.0 v) pages ∙ item_none n p.0 v
none_kept t n sections pages shared (Shared s i) = ap (λ (xs : List (List (Option ChargedPage))). slice_index_or (slice_index_or xs s.0 []) i None) shared ∙ replicated_rows sections s.0 i

first_many : (section : Section) (i : ℕ) → is_paged_kind section.kind ≡ true → i < section_pages section → i < length (first_rows section)
first_many section i paged inside =
    let count : length (first_rows section) ≡ section_runs section * 64 = length-replicate {A = Option ChargedPage} (section_runs section * 64) None in
    let runs : section_runs section ≡ section_pages section / 64 + 1 = ap (λ (b : Bool). cond b (section_pages section / 64 + 1) 0) paged in
    omega (arith, count, runs, inside)

first_places : (sections : List Section) (s i : ℕ) (x : Section) → slice_get sections s ≡ Some x → is_paged_kind x.kind ≡ true → i < section_pages x → i < length (slice_index_or (map first_rows sections) s [])
first_places [] s i x is paged inside = absurd (none-some x is)
first_places (y ∷ sections) zero i x is paged inside = let same : y ≡ x = cc in subst (λ (z : Section). i < length (first_rows z)) (sym same) (first_many x i paged inside)
first_places (y ∷ sections) (suc s) i x is paged inside = first_places sections s i x is paged inside

-- and each page of a section in the page file has a place
pub places_first : (t : ChargedTable) (sections : List Section) → t.shared ≡ map first_rows sections → HasPagedPlaces sections t
places_first t sections shared s i page paged =
    subst (λ (xs : List (List (Option ChargedPage))). i < length (slice_index_or xs s [])) (sym shared)
    (first_places sections s i page.0 page.1 (sym (ap paged_of page.1) ∙ paged) page.2)
