-- What a search finds, and what the tables of a well-formed configuration have.
use Rattle.std.proofs.Common.{◌≡◌, ℕ, ◌+◌, ◌-◌, ◌*◌, ◌<◌, ◌≤◌, Bool, true, false, cond, List, [], ◌∷◌, Option, Some, None, length, find, refl, sym, ap, ◌∙◌, subst, arith, lit<, lit≤}
use Rattle.std.specs.Prelude.{sum_by, slice_get, slice_index_or, All}
use Rattle.std.specs.List.{position_or_len}
use Rattle.std.proofs.lemmas.Bool.{and_parts, leb-true, ltb-true}
use Rattle.std.proofs.lemmas.List.Folds.{find_at}
use Rattle.std.proofs.lemmas.List.Sums.{sum_by_more_le}
use Rattle.std.proofs.lemmas.Option.{get_or_from_slice_get, slice_get_within}
use Rattle.vm_types.specs.Configuration.{IsWellFormed, IsMapping, HasPages, section_pages, IsSectionPage}
use Rattle.vm_types.specs.declared.config.Config.{Config}
use Rattle.vm_types.specs.declared.config.Mapping.{Mapping}
use Rattle.vm_types.specs.declared.config.Origin.{Origin}
use Rattle.vm_types.specs.declared.config.Origin.TheVariants as origin
use Rattle.vm_types.specs.declared.config.Section.{Section}
use Rattle.pager_model.specs.Maps.{covers, page_number}
use Rattle.std.specs.Option.{option_map}
use Rattle.vm_types.specs.declared.limits.TheConstants.{MOST_SECTION_PAGES, PRIVATE_PAGES}
use Rattle.vm_types.specs.Behind.{FitsPages, origin_after}
use Rattle.flat_model.specs.Behind.{behind_by}
use Rattle.vm_types.specs.Laying.{CanLay}
use Rattle.flat_model.specs.Usable.{IsUsable, IsOrigin, pages_of, end_of, limit_of}

pub found_passes : {X : Type 0} (p : X → Bool) (xs : List X) (x : X) → find p xs ≡ Some x → p x ≡ true
found_passes p [] x e = absurd (cc)
found_passes {X} p (y ∷ ys) x e = go (p y) refl e (found_passes p ys x)
  where
    go : (b : Bool) → p y ≡ b → cond b (Some y) (find p ys) ≡ Some x → (find p ys ≡ Some x → p x ≡ true) → p x ≡ true
    go true passes found rest =
        let same : y ≡ x = cc in
        subst (λ (z : X). p z ≡ true) same passes
    go false fails found rest = rest found

pub found_has : {X : Type 0} (P : X → Type 0) (p : X → Bool) (xs : List X) (x : X) → find p xs ≡ Some x → All P xs → P x
found_has P p xs x e h =
    let there : slice_get xs (position_or_len p xs) ≡ Some x = sym (find_at p xs) ∙ e in
    subst P (get_or_from_slice_get xs _ x x there) (h _ x (slice_get_within xs _ x there))

-- a page that a mapping covers lies in its range
pub in_range : (p v : ℕ) (m : Mapping) → covers p v m ≡ true → (page_number (m.at).0 ≤ v) × (v < page_number (m.at).0 + m.pages)
in_range p v m e =
    let range = (and_parts _ _ (and_parts _ _ e).1) in
    (leb-true _ _ range.0, ltb-true _ _ range.1)

pub section_page : (sections : List Section) (s page : ℕ) → page < pages_of (slice_get sections s) → IsSectionPage sections s page
section_page sections s page h = go (slice_get sections s) refl h
  where
    go : (o : Option Section) → slice_get sections s ≡ o → page < pages_of o → IsSectionPage sections s page
    go None e less = absurd (omega arith)
    go (Some section) e less = (section, e, less)

-- what lies in a section is one of its pages
pub origin_there : (sections : List Section) (o : Origin) → end_of o ≤ limit_of sections o → IsOrigin sections o
origin_there sections origin.Zero h = tt
origin_there sections (origin.Section s page) h = section_page sections s.0 page (omega (arith, h))

-- what a mapping says of one of its pages
inside : (sections : List Section) (from : Origin) (pages n : ℕ) → HasPages sections from pages → n < pages → end_of (origin_after from n) ≤ limit_of sections (origin_after from n)
inside sections origin.Zero pages n has less = omega arith
inside sections (origin.Section s first) pages n has less =
    let limit : pages_of (slice_get sections s.0) ≡ section_pages has.0 = ap pages_of has.1 in
    omega (arith, limit, has.2, less)

found_usable : (procs : ℕ) (sections : List Section) (p v : ℕ) (m : Mapping) → IsMapping procs sections m → covers p v m ≡ true → IsUsable sections (Some (behind_by v m))
found_usable procs sections p v m h e =
    let range = in_range p v m e in
    (h.code.small, inside sections m.from m.pages (v - page_number (m.at).0) h.origin (omega (arith, range.0, range.1)))

-- each page of a well-formed configuration is mapped to what lies in its section
pub first_usable : (config : Config) → IsWellFormed config → (sections : List Section) → sections ≡ config.sections → (p v : ℕ) → IsUsable sections (option_map (behind_by v) (find (covers p v) config.maps))
first_usable config formed sections same p v =
    subst (λ (ss : List Section). IsUsable ss (option_map (behind_by v) (find (covers p v) config.maps))) (sym same) (go (find (covers p v) config.maps) refl)
  where
    go : (o : Option Mapping) → find (covers p v) config.maps ≡ o → IsUsable config.sections (option_map (behind_by v) o)
    go None e = (lit< tt, lit≤ tt)
    go (Some m) e =
        found_usable (length config.procs) config.sections p v m
        (found_has (IsMapping (length config.procs) config.sections) (covers p v) config.maps m e formed.maps) (found_passes (covers p v) config.maps m e)

-- the tables of a well-formed configuration have a place for each page of its mappings
one_of_sum : {X : Type 0} (f : X → ℕ) (xs : List X) (k : ℕ) (x : X) → slice_get xs k ≡ Some x → f x ≤ sum_by f xs
one_of_sum f xs k x e =
    let part = sum_by_more_le f xs k x (slice_get_within xs k x e) in
    let same = ap f (get_or_from_slice_get xs k x x e) in
    omega arith

fits_sections : (sections : List Section) (from : Origin) (pages : ℕ) → sum_by section_pages sections ≤ MOST_SECTION_PAGES → HasPages sections from pages → FitsPages from pages
fits_sections sections origin.Zero pages few has = tt
fits_sections sections (origin.Section s first) pages few has =
    let part = one_of_sum section_pages sections s.0 has.0 has.1 in
    omega (arith, part, few, has.2)

pub can_lay_all : (config : Config) → IsWellFormed config → (places : ℕ) → places ≡ length config.procs * PRIVATE_PAGES → All (CanLay places) config.maps
can_lay_all config formed places is k d below =
    let h = formed.maps k d below in
    record { range = h.range; room = omega (arith, h.proc, is); fits = fits_sections config.sections (slice_index_or config.maps k d).from (slice_index_or config.maps k d).pages formed.sections.pages h.origin }
