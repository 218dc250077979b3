-- Lists with one more, and lists of sections with other bytes.
use Rattle.std.proofs.Common.{◌≡◌, ℕ, zero, suc, ◌+◌, ◌/◌, ◌<◌, ◌≤◌, Bool, true, false, not, ◌||◌, List, [], ◌∷◌, ◌++◌, length, get_or, take, drop, All, Some, refl, sym, ap, ◌∙◌, subst, arith}
use Rattle.std.specs.Prelude.{sum_by, slice_get}
use Rattle.std.specs.List.{list_any, AllByRecursion}
use Rattle.std.proofs.lemmas.Bool.{false≢true}
use Rattle.std.proofs.lemmas.List.{length-append, length-take-le, length-drop}
use Rattle.std.proofs.lemmas.List.Sums.{sum_by-cons}
use Rattle.std.proofs.lemmas.List.Elements.{All-from_recursion}
use Rattle.vm_types.specs.declared.limits.TheConstants.{PAGE_BYTES}
use Rattle.vm_types.specs.Configuration.{section_pages}
use Rattle.vm_types.specs.Kinds.{is_paged_kind}
use Rattle.vm_types.specs.declared.config.Section.{Section}
use Rattle.trace_lines.specs.Lookups.{bytes_at, has_file}
use Rattle.trace_reader.specs.Changes.{overwritten, with_bytes}

-- an element of a list is one of a longer list
pub get_append : {X : Type 0} (xs ys : List X) (k : ℕ) (x : X) → slice_get xs k ≡ Some x → slice_get (xs ++ ys) k ≡ Some x
get_append [] ys k x e = absurd cc
get_append (z ∷ xs) ys zero x e = e
get_append (z ∷ xs) ys (suc k) x e = get_append xs ys k x e

or_none : (a b : Bool) → (a || b) ≡ false → (a ≡ false) × (b ≡ false)
or_none false b e = (refl, e)
or_none true b e = absurd (same e) where
  same : true ≡ false → ⊥
  same e = cc

none_by : {X : Type 0} (p : X → Bool) (xs : List X) → list_any p xs ≡ false → AllByRecursion (λ x. p x ≡ false) xs
none_by p [] e = tt
none_by p (x ∷ xs) e = let both = or_none (p x) (list_any p xs) e in (both.0, none_by p xs both.1)

-- what no element passes, each one doesn't
pub none_passes : {X : Type 0} (p : X → Bool) (xs : List X) → list_any p xs ≡ false → All (λ x. p x ≡ false) xs
none_passes {X} p xs e = All-from_recursion (λ (x : X). p x ≡ false) xs (none_by p xs e)

-- sections with other bytes in one of them

pub length_overwritten : (bytes : List ℕ) (at : ℕ) (new : List ℕ) → at + length new ≤ length bytes → length (overwritten bytes at new) ≡ length bytes
length_overwritten bytes at new inside =
    let front : length (take at bytes) ≡ at = length-take-le at bytes (omega arith) in
    let joined = length-append (take at bytes) (new ++ drop (at + length new) bytes) in
    simp (length-append, length-drop) (omega (arith, front))

-- the same sections but for their bytes, which stay in the page file
pub record IsSame (x y : Section) : Type 0 where
  pub name : y.name ≡ x.name
  pub kind : y.kind ≡ x.kind
  pub count : length y.bytes ≡ length x.bytes
  pub zeros : is_paged_kind x.kind ≡ true → y.bytes ≡ x.bytes

abbrev pub AreSame : List Section → List Section → Type 0
AreSame [] [] = Unit {0}
AreSame [] (y ∷ ys) = ⊥
AreSame (x ∷ xs) [] = ⊥
AreSame (x ∷ xs) (y ∷ ys) = IsSame x y × AreSame xs ys

same_all : (xs : List Section) → AreSame xs xs
same_all [] = tt
same_all (x ∷ xs) = (record { name = refl; kind = refl; count = refl; zeros = λ paged. refl }, same_all xs)

pub same_with_bytes : (sections : List Section) (s at : ℕ) (new : List ℕ) → at + length new ≤ bytes_at sections s → has_file sections s ≡ true → AreSame sections (with_bytes sections s at new)
same_with_bytes [] s at new inside file = tt
same_with_bytes (x ∷ sections) zero at new inside file = (record { name = refl; kind = refl; count = length_overwritten x.bytes at new inside; zeros = λ paged. absurd (false≢true (sym (ap not paged) ∙ file)) }, same_all sections)
same_with_bytes (x ∷ sections) (suc s) at new inside file = (record { name = refl; kind = refl; count = refl; zeros = λ paged. refl }, same_with_bytes sections s at new inside file)

pub same_length : (xs ys : List Section) → AreSame xs ys → length ys ≡ length xs
same_length [] [] h = refl
same_length [] (y ∷ ys) h = absurd h
same_length (x ∷ xs) [] h = absurd h
same_length (x ∷ xs) (y ∷ ys) h = ap suc (same_length xs ys h.1)

pub same_pages : (x y : Section) → IsSame x y → section_pages y ≡ section_pages x
same_pages x y h = ap (λ (n : ℕ). n / PAGE_BYTES) h.count

pub same_sum : (xs ys : List Section) → AreSame xs ys → sum_by section_pages ys ≡ sum_by section_pages xs
same_sum [] [] h = refl
same_sum [] (y ∷ ys) h = absurd h
same_sum (x ∷ xs) [] h = absurd h
same_sum (x ∷ xs) (y ∷ ys) h =
    let a = sum_by-cons section_pages x xs in
    let b = sum_by-cons section_pages y ys in
    let here = same_pages x y h.0 in
    let rest = same_sum xs ys h.1 in
    omega (arith, a, b, here, rest)

pub same_get : (xs ys : List Section) (k : ℕ) (x : Section) → AreSame xs ys → slice_get xs k ≡ Some x → (y : Section) × (slice_get ys k ≡ Some y) × IsSame x y
same_get [] ys k x h e = absurd cc
same_get (a ∷ xs) [] k x h e = absurd h
same_get (a ∷ xs) (b ∷ ys) zero x h e = (b, refl, subst (λ (z : Section). IsSame z b) (some_inside a x e) h.0) where
  some_inside : (a x : Section) → slice_get (a ∷ xs) 0 ≡ Some x → a ≡ x
  some_inside a x e = cc
same_get (a ∷ xs) (b ∷ ys) (suc k) x h e = same_get xs ys k x h.1 e

pub same_get_or : (xs ys : List Section) (k : ℕ) (d : Section) → AreSame xs ys → k < length xs → IsSame (get_or xs k d) (get_or ys k d)
same_get_or [] ys k d h lt = absurd (omega (arith, lt))
same_get_or (x ∷ xs) [] k d h lt = absurd h
same_get_or (x ∷ xs) (y ∷ ys) zero d h lt = h.0
same_get_or (x ∷ xs) (y ∷ ys) (suc k) d h lt = same_get_or xs ys k d h.1 (omega arith)

-- a section has at most the pages of all
pub page_of_all : (sections : List Section) (k : ℕ) (x : Section) → slice_get sections k ≡ Some x → section_pages x ≤ sum_by section_pages sections
page_of_all [] k x e = absurd cc
page_of_all (y ∷ sections) zero x e =
    let same : y ≡ x = cc in
    let total = sum_by-cons section_pages y sections in
    subst (λ (z : Section). section_pages z ≤ sum_by section_pages (y ∷ sections)) same (omega (arith, total))
page_of_all (y ∷ sections) (suc k) x e =
    let total = sum_by-cons section_pages y sections in
    let rest = page_of_all sections k x e in
    omega (arith, total, rest)
