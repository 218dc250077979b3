-- What holds of the value of each step, and of words.
use Rattle.std.proofs.Common.{◌≡◌, ℕ, suc, ◌+◌, ◌*◌, ◌%◌, ◌^◌, ◌<◌, ◌≤◌, ◌-◌, ◌⊎◌, Bool, true, false, eqb, leb, ltb, ◌&&◌, ◌||◌, cond, List, [], ◌∷◌, length, All, Option, Some, None, Result, Ok, Err, refl, ap, ◌∙◌, arith, lit<, inl, inr}
use native.Mathlib.Numerals.{unary_clauses}
use Rattle.std.specs.Prelude.{IfOk, IfSome, slice_get, slice_index, bytes_eq}
use Rattle.std.specs.List.{list_all, position, position_or_len}
use Rattle.std.specs.Option.{option_map_or}
use Rattle.std.proofs.Math.Nat.{mul-le-mul_right, pow-le-pow_right}
use Rattle.std.proofs.lemmas.Bool.{and_parts, leb-true, ltb-true, eqb-true}
use Rattle.std.proofs.lemmas.List.Elements.{All-nil, All-cons}
use Rattle.vm_types.specs.declared.limits.TheConstants.{P0_PAGES, P1_PAGES, PAGE_BYTES}
use Rattle.vm_types.specs.Configuration.{IsLetter, IsNameByte, IsName, IsSectionPage, HasPages, section_pages}
use Rattle.vm_types.specs.Kinds.{is_paged_kind, paged_of}
use Rattle.vm_types.specs.WellFormed.{IsRange, IsCode}
use Rattle.vm_types.specs.SectionBlocks.{section_block_count}
use Rattle.vm_types.specs.declared.config.Origin.TheVariants as origin
use Rattle.vm_types.specs.declared.config.ProcSpec.{ProcSpec}
use Rattle.vm_types.specs.declared.config.Section.{Section}
use Rattle.trace_words.specs.declared.cause.Cause.{Cause}
use Rattle.trace_words.specs.Judged.{◌>>=◌, owed}
use Rattle.trace_words.specs.Letter.{letter}
use Rattle.trace_words.specs.Name.{is_capital, is_name_byte, is_name}
use Rattle.trace_words.specs.Number.{decimal, within, decimal_within, hexadecimal, hexadecimal_digit, decimal_digit, spelled, has_length}
use Rattle.trace_words.specs.Protection.{protection}
use Rattle.trace_words.proofs.Codes.{IsNamed, protection_named}
use Rattle.trace_lines.specs.declared.breach.Bound.{Bound}
use Rattle.trace_lines.specs.declared.breach.Breach.{Breach}
use Rattle.trace_lines.specs.Breaches.{marked}
use Rattle.trace_lines.specs.Lookups.{process, number_named, section, or_none, pages_at, blocks_at, aligned, is_inside}

pub owed_gives : {A E : Type 0} (test : Bool) (wrong : E) (value : Result A E) (P : A → Type 0) → (test ≡ true → IfOk value P) → IfOk (owed test wrong value) P
owed_gives true wrong value P h = h refl
owed_gives false wrong value P h = tt

pub bind_gives : {A B E : Type 0} (r : Result A E) (f : A → Result B E) (P : A → Type 0) (Q : B → Type 0) → IfOk r P → ((x : A) → P x → IfOk (f x) Q) → IfOk (r >>= f) Q
bind_gives (Ok x) f P Q p h = h x p
bind_gives (Err wrong) f P Q p h = tt

pub then_gives : {A B E : Type 0} (r : Result A E) (f : A → Result B E) (Q : B → Type 0) → ((x : A) → IfOk (f x) Q) → IfOk (r >>= f) Q
then_gives (Ok x) f Q h = h x
then_gives (Err wrong) f Q h = tt

-- a step over the word of some number
pub step_gives : {A B : Type 0} (word : ℕ) (bound : Bound) (r : Result A Cause) (f : A → Result B Breach) (P : A → Type 0) (Q : B → Type 0) → IfOk r P → ((x : A) → P x → IfOk (f x) Q) → IfOk (marked word bound r >>= f) Q
step_gives word bound (Ok x) f P Q p h = h x p
step_gives word bound (Err cause) f P Q p h = tt

pub pass_gives : {A B : Type 0} (word : ℕ) (bound : Bound) (r : Result A Cause) (f : A → Result B Breach) (Q : B → Type 0) → ((x : A) → IfOk (f x) Q) → IfOk (marked word bound r >>= f) Q
pass_gives word bound (Ok x) f Q h = h x
pass_gives word bound (Err cause) f Q h = tt

pub if_gives : {A E : Type 0} (test : Bool) (a b : Result A E) (P : A → Type 0) → IfOk a P → IfOk b P → IfOk (cond test a b) P
if_gives true a b P p q = p
if_gives false a b P p q = q

pub weaker : {A E : Type 0} (r : Result A E) (P Q : A → Type 0) → IfOk r P → ((x : A) → P x → Q x) → IfOk r Q
weaker (Ok x) P Q p h = h x p
weaker (Err wrong) P Q p h = tt

-- numbers

abbrev pub InRange : ℕ → ℕ → ℕ → Type 0
InRange low high n = (low ≤ n) × (n ≤ high)

pub within_gives : (low high n : ℕ) → IfOk (within low high n) (InRange low high)
within_gives low high n = owed_gives (leb low n && leb n high) _ (Ok n) (InRange low high) (λ e. let both = and_parts (leb low n) (leb n high) e in (leb-true low n both.0, leb-true n high both.1))

pub number_gives : (low high : ℕ) (word : List ℕ) → IfOk (decimal_within low high word) (InRange low high)
number_gives low high word = then_gives (decimal word) (within low high) (InRange low high) (λ n. within_gives low high n)

abbrev pub IsWord : ℕ → Type 0
IsWord n = n < 2 ^ 32

pub decimal_gives : (word : List ℕ) → IfOk (decimal word) IsWord
decimal_gives word = owed_gives (has_length 10 word) _ _ IsWord (λ few. then_gives (spelled decimal_digit 10 0 word) _ IsWord (λ n. owed_gives (ltb n 4294967296) _ (Ok n) IsWord (λ e. ltb-true n 4294967296 e)))

digit_gives : (b : ℕ) → IfOk (hexadecimal_digit b) (λ d. d < 16)
digit_gives b = grind arith

one_digit : (before d rest n : ℕ) → d < 16 → n + 1 ≤ ((16 * before + d) + 1) * 16 ^ rest → n + 1 ≤ (before + 1) * 16 ^ suc rest
one_digit before d rest n small h =
    let more : ((16 * before + d) + 1) * 16 ^ rest ≤ (16 * (before + 1)) * 16 ^ rest = mul-le-mul_right (16 ^ rest) (omega arith) in
    let power : 16 ^ suc rest ≡ 16 * 16 ^ rest = simp unary_clauses (omega arith) in
    let same : (before + 1) * 16 ^ suc rest ≡ (16 * (before + 1)) * 16 ^ rest = rw power (omega arith) in
    omega (arith, h, more, same)

spelled_gives : (before : ℕ) (word : List ℕ) → IfOk (spelled hexadecimal_digit 16 before word) (λ n. n + 1 ≤ (before + 1) * 16 ^ length word)
spelled_gives before [] = omega arith
spelled_gives before (b ∷ word) =
    bind_gives (hexadecimal_digit b) (λ d. spelled hexadecimal_digit 16 (16 * before + d) word) (λ d. d < 16) (λ n. n + 1 ≤ (before + 1) * 16 ^ length (b ∷ word)) (digit_gives b) (λ d small.
    weaker (spelled hexadecimal_digit 16 (16 * before + d) word) (λ n. n + 1 ≤ ((16 * before + d) + 1) * 16 ^ length word) (λ n. n + 1 ≤ (before + 1) * 16 ^ length (b ∷ word)) (spelled_gives (16 * before + d) word) (λ n h. one_digit before d (length word) n small h))

pub hexadecimal_gives : (word : List ℕ) → IfOk (hexadecimal word) IsWord
hexadecimal_gives word = owed_gives (has_length 8 word) _ (spelled hexadecimal_digit 16 0 word) IsWord (λ few.
    let short : length word ≤ 8 = leb-true (length word) 8 (and_parts (leb 1 (length word)) (leb (length word) 8) few).1 in
    weaker (spelled hexadecimal_digit 16 0 word) (λ n. n + 1 ≤ (0 + 1) * 16 ^ length word) IsWord (spelled_gives 0 word) (λ n h.
    let most : 16 ^ length word ≤ 16 ^ 8 = pow-le-pow_right {n = 16} (lit< tt) {i = length word} {j = 8} short in
    omega (arith, h, most)))

pub aligned_gives : (bytes : ℕ) (word : List ℕ) → IfOk (aligned bytes word) (λ at. IsWord at × (at % bytes ≡ 0))
aligned_gives bytes word = bind_gives (hexadecimal word) _ IsWord (λ at. IsWord at × (at % bytes ≡ 0)) (hexadecimal_gives word) (λ at small. owed_gives (eqb (at % bytes) 0) _ (Ok at) (λ at. IsWord at × (at % bytes ≡ 0)) (λ e. (small, eqb-true (at % bytes) 0 e)))

-- names

pub process_number : (procs : List ProcSpec) (word : List ℕ) → IfOk (process procs word) (λ p. p < length procs)
process_number procs word = then_gives (letter word) _ (λ p. p < length procs) (λ p. owed_gives (ltb p (length procs)) _ (Ok p) (λ p. p < length procs) (λ e. ltb-true p (length procs) e))

at_test : (t : Bool) (n m : ℕ) → (t ≡ true → n < m) → IfSome (cond t (Some n) None) (λ k. k < m)
at_test true n m h = h refl
at_test false n m h = tt

position_bound : {X : Type 0} (p : X → Bool) (xs : List X) → IfSome (position p xs) (λ k. k < length xs)
position_bound p xs = at_test (ltb (position_or_len p xs) (length xs)) (position_or_len p xs) (length xs) (λ e. ltb-true (position_or_len p xs) (length xs) e)

pub section_number : (sections : List Section) (word : List ℕ) → IfOk (section sections word) (λ s. s < length sections)
section_number sections word = owed_gives (is_name word) _ (or_none (number_named sections word)) (λ s. s < length sections) (λ _. found (number_named sections word) (position_bound (λ (x : Section). bytes_eq x.name word) sections)) where
  found : (o : Option ℕ) → IfSome o (λ k. k < length sections) → IfOk (or_none o) (λ s. s < length sections)
  found None h = tt
  found (Some s) h = h

capital_gives : (b : ℕ) → is_capital b ≡ true → IsLetter b
capital_gives b e = let both = and_parts (leb 65 b) (leb b 90) e in (leb-true 65 b both.0, leb-true b 90 both.1)

by_last : (b : ℕ) (t : Bool) → (leb 48 b && leb b 57) ≡ t → ((leb 48 b && leb b 57) || eqb b 95) ≡ true → IsNameByte b
by_last b true d e = let both = and_parts (leb 48 b) (leb b 57) d in inr (inl (leb-true 48 b both.0, leb-true b 57 both.1))
by_last b false d e = inr (inr (eqb-true b 95 (rw d at e)))

by_capital : (b : ℕ) (t : Bool) → is_capital b ≡ t → is_name_byte b ≡ true → IsNameByte b
by_capital b true c e = inl (capital_gives b c)
by_capital b false c e = by_last b (leb 48 b && leb b 57) refl (rw c at e)

name_byte_gives : (b : ℕ) → is_name_byte b ≡ true → IsNameByte b
name_byte_gives b e = by_capital b (is_capital b) refl e

bytes_give : (word : List ℕ) → list_all is_name_byte word ≡ true → All IsNameByte word
bytes_give [] e = All-nil IsNameByte
bytes_give (b ∷ word) e = let both = and_parts (is_name_byte b) (list_all is_name_byte word) e in All-cons IsNameByte b word (name_byte_gives b both.0) (bytes_give word both.1)

first_gives : (word : List ℕ) → is_capital (slice_index word 0) ≡ true → IfSome (slice_get word 0) IsLetter
first_gives [] e = tt
first_gives (b ∷ word) e = capital_gives b e

pub name_gives : (word : List ℕ) → is_name word ≡ true → IsName word
name_gives word e =
    let a = leb 2 (length word) in
    let b = leb (length word) 15 in
    let c = is_capital (slice_index word 0) in
    let abc = and_parts (a && b && c) (list_all is_name_byte word) e in
    let ab = and_parts (a && b) c abc.0 in
    let a_b = and_parts a b ab.0 in
    record { length = (leb-true 2 (length word) a_b.0, leb-true (length word) 15 a_b.1); letter = first_gives word ab.1; bytes = bytes_give word abc.1 }

-- protection codes

pub protection_gives : (w : List ℕ) → IfOk (protection w) IsCode
protection_gives w = weaker (protection w) (IsNamed w) IsCode (protection_named w) (λ code h. h.0)

-- ranges

pub inside_gives : (at pages : ℕ) → at % PAGE_BYTES ≡ 0 → InRange 1 P0_PAGES pages → is_inside at pages ≡ true → IsRange at pages
inside_gives at pages whole few e = record {
  aligned = whole;
  some = few.0;
  few = few.1;
  inside = by_case (leb (at + PAGE_BYTES * pages) (PAGE_BYTES * P0_PAGES)) refl;
} where
  by_case : (t : Bool) → leb (at + PAGE_BYTES * pages) (PAGE_BYTES * P0_PAGES) ≡ t → (at + PAGE_BYTES * pages ≤ PAGE_BYTES * P0_PAGES) ⊎ ((2 ^ 31 - PAGE_BYTES * P1_PAGES ≤ at) × (at + PAGE_BYTES * pages ≤ 2 ^ 31))
  by_case true low = inl (leb-true (at + PAGE_BYTES * pages) (PAGE_BYTES * P0_PAGES) low)
  by_case false low =
      let high : (leb (2 ^ 31 - PAGE_BYTES * P1_PAGES) at && leb (at + PAGE_BYTES * pages) (2 ^ 31)) ≡ true = rw low at e in
      let both = and_parts (leb (2 ^ 31 - PAGE_BYTES * P1_PAGES) at) (leb (at + PAGE_BYTES * pages) (2 ^ 31)) high in
      inr (leb-true (2 ^ 31 - PAGE_BYTES * P1_PAGES) at both.0, leb-true (at + PAGE_BYTES * pages) (2 ^ 31) both.1)

-- the section's pages
pub pages_give : (sections : List Section) (s page : ℕ) → page < pages_at sections s → (x : Section) × (slice_get sections s ≡ Some x) × (page < section_pages x)
pages_give sections s page lt = by_section (slice_get sections s) refl lt where
  by_section : (o : Option Section) → slice_get sections s ≡ o → page < option_map_or section_pages o 0 → (x : Section) × (slice_get sections s ≡ Some x) × (page < section_pages x)
  by_section None e h = absurd (omega (arith, h))
  by_section (Some x) e h = (x, e, h)

-- a section with so many blocks is there, with a file and so many pages
pub blocks_give : (sections : List Section) (s page : ℕ) → page < blocks_at sections s → IsSectionPage sections s page × (paged_of (slice_get sections s) ≡ false)
blocks_give sections s page lt = by_section (slice_get sections s) refl lt where
  by_section : (o : Option Section) → slice_get sections s ≡ o → page < option_map_or section_block_count o 0 → IsSectionPage sections s page × (paged_of (slice_get sections s) ≡ false)
  by_section None e h = absurd (omega (arith, h))
  by_section (Some x) e h = by_kind (is_paged_kind x.kind) refl h where
    by_kind : (b : Bool) → is_paged_kind x.kind ≡ b → page < cond b 0 (section_pages x) → IsSectionPage sections s page × (paged_of (slice_get sections s) ≡ false)
    by_kind true k h = absurd (omega (arith, h))
    by_kind false k h = ((x, e, h), ap paged_of e ∙ k)

pub origin_gives : (sections : List Section) (s first pages : ℕ) → 1 ≤ pages → first + pages ≤ pages_at sections s → HasPages sections (origin.Section (record { 0 = s }) first) pages
origin_gives sections s first pages some le =
    let x = pages_give sections s (first + pages - 1) (omega arith) in
    let h : first + pages - 1 < section_pages x.0 = x.2 in
    (x.0, x.1, omega (arith, h))
