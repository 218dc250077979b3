-- Mappings overlap exactly if they have a page in common.
use Rattle.std.proofs.Common.{◌≡◌, ℕ, ◌+◌, ◌-◌, ◌*◌, ◌/◌, ◌%◌, ◌<◌, ◌≤◌, Bool, true, false, eqb, ltb, leb, ◌&&◌, ◌||◌, List, [], ◌∷◌, All, refl, sym, ◌∙◌, arith, eq-eqb}
use Rattle.std.specs.List.{list_any, AllByRecursion}
use Rattle.std.proofs.lemmas.Bool.{and_parts, leb-true, ltb-true, eqb-true, le-leb, lt-ltb}
use Rattle.std.proofs.lemmas.List.Elements.{recursion_from_All}
use Rattle.vm_types.specs.declared.config.Mapping.{Mapping}
use Rattle.std.specs.Prelude.{MatchBool}
use Rattle.vm_types.specs.declared.limits.TheConstants.{PAGE_BYTES}
use Rattle.trace_lines.specs.Lookups.{is_inside}
use Rattle.trace_lines.specs.Mappings.{overlaps}
use Rattle.trace_lines.specs.Seen.{covers, is_mapped, IsPaged}

-- the numbers of a mapping that covers a page
covers_parts : (b : Mapping) (p page : ℕ) → covers b p page ≡ true → ((b.proc).0 ≡ p) × ((b.at).0 ≤ PAGE_BYTES * page) × (PAGE_BYTES * page < (b.at).0 + PAGE_BYTES * b.pages)
covers_parts b p page e =
    let ab = and_parts (eqb (b.proc).0 p && leb (b.at).0 (PAGE_BYTES * page)) (ltb (PAGE_BYTES * page) ((b.at).0 + PAGE_BYTES * b.pages)) e in
    let a_b = and_parts (eqb (b.proc).0 p) (leb (b.at).0 (PAGE_BYTES * page)) ab.0 in
    (eqb-true (b.proc).0 p a_b.0, leb-true (b.at).0 (PAGE_BYTES * page) a_b.1, ltb-true (PAGE_BYTES * page) ((b.at).0 + PAGE_BYTES * b.pages) ab.1)

overlap_parts : (b m : Mapping) → overlaps b m ≡ true → ((b.proc).0 ≡ (m.proc).0) × ((b.at).0 < (m.at).0 + PAGE_BYTES * m.pages) × ((m.at).0 < (b.at).0 + PAGE_BYTES * b.pages)
overlap_parts b m e =
    let x = eqb (b.proc).0 (m.proc).0 in
    let y = ltb (b.at).0 ((m.at).0 + PAGE_BYTES * m.pages) in
    let z = ltb (m.at).0 ((b.at).0 + PAGE_BYTES * b.pages) in
    let ab = and_parts (x && y) z e in
    let a_b = and_parts x y ab.0 in
    (eqb-true (b.proc).0 (m.proc).0 a_b.0, ltb-true (b.at).0 ((m.at).0 + PAGE_BYTES * m.pages) a_b.1, ltb-true (m.at).0 ((b.at).0 + PAGE_BYTES * b.pages) ab.1)

-- a page of both
shared : (b m : Mapping) (first k : ℕ) → (m.at).0 ≡ PAGE_BYTES * first → k < m.pages → covers b (m.proc).0 (first + k) ≡ true → overlaps b m ≡ true
shared b m first k at lt e =
    let parts = covers_parts b (m.proc).0 (first + k) e in
    let below : (b.at).0 < (m.at).0 + PAGE_BYTES * m.pages = omega (arith, parts.1) in
    let above : (m.at).0 < (b.at).0 + PAGE_BYTES * b.pages = omega (arith, parts.2) in
    rw (eq-eqb (b.proc).0 (m.proc).0 parts.0, lt-ltb (b.at).0 ((m.at).0 + PAGE_BYTES * m.pages) below, lt-ltb (m.at).0 ((b.at).0 + PAGE_BYTES * b.pages) above) refl

or_true : (c : Bool) → (c || true) ≡ true
or_true true = refl
or_true false = refl

by_first : (b : Mapping) (maps : List Mapping) (m : Mapping) (first k : ℕ) → (m.at).0 ≡ PAGE_BYTES * first → k < m.pages → is_mapped (b ∷ maps) (m.proc).0 (first + k) ≡ true
    → (is_mapped maps (m.proc).0 (first + k) ≡ true → list_any (λ b. overlaps b m) maps ≡ true)
    → (c : Bool) → covers b (m.proc).0 (first + k) ≡ c → list_any (λ b. overlaps b m) (b ∷ maps) ≡ true
by_first b maps m first k at lt e rest true here = rw (shared b m first k at lt here) refl
by_first b maps m first k at lt e rest false here = let there : is_mapped maps (m.proc).0 (first + k) ≡ true = rw here at e in rw (rest there) (or_true (overlaps b m))

shared_by_some : (maps : List Mapping) (m : Mapping) (first k : ℕ) → (m.at).0 ≡ PAGE_BYTES * first → k < m.pages → is_mapped maps (m.proc).0 (first + k) ≡ true → list_any (λ b. overlaps b m) maps ≡ true
shared_by_some [] m first k at lt e = e
shared_by_some (b ∷ maps) m first k at lt e =
    by_first b maps m first k at lt e (λ there. shared_by_some maps m first k at lt there) (covers b (m.proc).0 (first + k)) refl

-- the first page of both
common : (b m : Mapping) (first q : ℕ) → (m.at).0 ≡ PAGE_BYTES * first → (b.at).0 ≡ PAGE_BYTES * q → 1 ≤ b.pages → 1 ≤ m.pages → overlaps b m ≡ true → (k : ℕ) × (k < m.pages) × (covers b (m.proc).0 (first + k) ≡ true)
common b m first q at bat some own e =
    let parts = overlap_parts b m e in
    let below : PAGE_BYTES * q < PAGE_BYTES * first + PAGE_BYTES * m.pages = omega (arith, parts.1) in
    let above : PAGE_BYTES * first < PAGE_BYTES * q + PAGE_BYTES * b.pages = omega (arith, parts.2) in (
      q - first,
      omega arith,
      rw (eq-eqb (b.proc).0 (m.proc).0 parts.0, le-leb (b.at).0 (PAGE_BYTES * (first + (q - first))) (omega arith), lt-ltb (PAGE_BYTES * (first + (q - first))) ((b.at).0 + PAGE_BYTES * b.pages) (omega arith)) refl,
    )

pub whole : (at : ℕ) → at % PAGE_BYTES ≡ 0 → at ≡ PAGE_BYTES * (at / PAGE_BYTES)
whole at e = omega arith

apart : (b m : Mapping) (first : ℕ) → (m.at).0 ≡ PAGE_BYTES * first → 1 ≤ m.pages → IsPaged b → ((k : ℕ) → k < m.pages → covers b (m.proc).0 (first + k) ≡ false) → overlaps b m ≡ false
apart b m first at own paged none = by_case (overlaps b m) refl where
  by_case : (c : Bool) → overlaps b m ≡ c → c ≡ false
  by_case false e = refl
  by_case true e =
      let page = common b m first ((b.at).0 / PAGE_BYTES) at (whole (b.at).0 paged.0) paged.1 own e in
      sym page.2 ∙ none page.0 page.1

or_false : (a c : Bool) → (a || c) ≡ false → (a ≡ false) × (c ≡ false)
or_false false c e = (refl, e)
or_false true c e = absurd (no e) where
  no : true ≡ false → ⊥
  no e = cc

apart_from_all : (maps : List Mapping) (m : Mapping) (first : ℕ) → (m.at).0 ≡ PAGE_BYTES * first → 1 ≤ m.pages → AllByRecursion IsPaged maps → ((k : ℕ) → k < m.pages → is_mapped maps (m.proc).0 (first + k) ≡ false) → list_any (λ b. overlaps b m) maps ≡ false
apart_from_all [] m first at own paged none = refl
apart_from_all (b ∷ maps) m first at own paged none =
    let here = apart b m first at own paged.0 (λ k lt. (or_false (covers b (m.proc).0 (first + k)) (is_mapped maps (m.proc).0 (first + k)) (none k lt)).0) in
    let there = apart_from_all maps m first at own paged.1 (λ k lt. (or_false (covers b (m.proc).0 (first + k)) (is_mapped maps (m.proc).0 (first + k)) (none k lt)).1) in
    rw (here, there) refl

apart_from : (maps : List Mapping) (m : Mapping) (first : ℕ) → (m.at).0 ≡ PAGE_BYTES * first → 1 ≤ m.pages → All IsPaged maps → ((k : ℕ) → k < m.pages → is_mapped maps (m.proc).0 (first + k) ≡ false) → list_any (λ b. overlaps b m) maps ≡ false
apart_from maps m first at own paged none = apart_from_all maps m first at own (recursion_from_All IsPaged maps paged) none

-- the answer that the pages give
pub answered : (maps : List Mapping) (m : Mapping) (first : ℕ) (r : Bool) → (m.at).0 ≡ PAGE_BYTES * first → 1 ≤ m.pages → All IsPaged maps
    → MatchBool r ((k : ℕ) × (k < m.pages) × (is_mapped maps (m.proc).0 (first + k) ≡ true)) ((k : ℕ) → k < m.pages → is_mapped maps (m.proc).0 (first + k) ≡ false)
    → r ≡ list_any (λ b. overlaps b m) maps
answered maps m first true at own paged found = sym (shared_by_some maps m first found.0 at found.1 found.2)
answered maps m first false at own paged none = sym (apart_from maps m first at own paged none)

-- the same, by what the pages are kept under
pub kept_answer : (maps : List Mapping) (m : Mapping) (first : ℕ) (r : Bool) (kept : ℕ → Bool) → (m.at).0 ≡ PAGE_BYTES * first → 1 ≤ m.pages → All IsPaged maps
    → ((k : ℕ) → k < m.pages → kept (first + k) ≡ is_mapped maps (m.proc).0 (first + k))
    → MatchBool r ((k : ℕ) × (k < m.pages) × (kept (first + k) ≡ true)) ((k : ℕ) → k < m.pages → kept (first + k) ≡ false)
    → r ≡ list_any (λ b. overlaps b m) maps
kept_answer maps m first true kept at own paged same found = answered maps m first true at own paged (found.0, found.1, sym (same found.0 found.1) ∙ found.2)
kept_answer maps m first false kept at own paged same none = answered maps m first false at own paged (λ k lt. sym (same k lt) ∙ none k lt)

-- a page inside the regions has a number below 2^23
pub small_page : (at pages k : ℕ) → is_inside at pages ≡ true → k < pages → at / PAGE_BYTES + k < 8388608
small_page at pages k e lt = grind (arith, e)
