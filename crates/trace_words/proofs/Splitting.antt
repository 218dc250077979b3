-- How a text parts at a byte and into words.
use Rattle.std.proofs.Common.{◌≡◌, ◌≢◌, ℕ, Bool, true, false, List, [], ◌∷◌, ◌++◌, length, ltb, All, refl, sym, ap, ◌∙◌, ne_eqb, eq-eqb, eqb, Some, None, arith}
use Rattle.std.specs.List.{AllByRecursion}
use Rattle.std.proofs.lemmas.List.Elements.{recursion_from_All}
use Rattle.std.proofs.lemmas.List.Splits.{slice_split_none, slice_split_at}
use Rattle.trace_words.specs.Words.{is_blank, words, cut_at, BeginsWord, BeginsBlank}

cut_none_by : (byte : ℕ) (text : List ℕ) → AllByRecursion (λ b. b ≢ byte) text → cut_at byte text ≡ None
cut_none_by byte [] other = refl
cut_none_by byte (b ∷ text) other = rw (ne_eqb b byte other.0, cut_none_by byte text other.1) refl

pub cut_none : (byte : ℕ) (text : List ℕ) → All (λ b. b ≢ byte) text → cut_at byte text ≡ None
cut_none byte text other = cut_none_by byte text (recursion_from_All (λ b. b ≢ byte) text other)

cut_found_by : (byte : ℕ) (front back : List ℕ) → AllByRecursion (λ b. b ≢ byte) front → cut_at byte (front ++ byte ∷ back) ≡ Some (front, back)
cut_found_by byte [] back other = rw (eq-eqb byte byte refl) refl
cut_found_by byte (b ∷ front) back other = rw (ne_eqb b byte other.0, cut_found_by byte front back other.1) refl

pub cut_found : (byte : ℕ) (text front back : List ℕ) → All (λ b. b ≢ byte) front → text ≡ front ++ byte ∷ back → cut_at byte text ≡ Some (front, back)
cut_found byte text front back other e = ap (cut_at byte) e ∙ cut_found_by byte front back (recursion_from_All (λ b. b ≢ byte) front other)

-- a blank in front is no part of a word
pub words_blank : (b : ℕ) (text : List ℕ) → is_blank b ≡ true → words (b ∷ text) ≡ words text
words_blank b text e = rw e refl

pub words_from_blank : (text : List ℕ) → BeginsBlank text → (rest : List ℕ) × (b : ℕ) × (is_blank b ≡ true) × (text ≡ b ∷ rest)
words_from_blank [] h = absurd h
words_from_blank (b ∷ rest) h = (rest, b, h, refl)

-- a text without blanks is one word
pub words_one : (text : List ℕ) → ltb 0 (length text) ≡ true → All (λ b. is_blank b ≡ false) text → words text ≡ text ∷ []
words_one text some other = rw (slice_split_none is_blank text (λ k d lt. other k d lt), some) refl

-- a word before a blank
pub words_more : (word behind : List ℕ) → ltb 0 (length word) ≡ true → All (λ b. is_blank b ≡ false) word → BeginsBlank behind → words (word ++ behind) ≡ word ∷ words behind
words_more word behind some other h =
    let parts = words_from_blank behind h in
    ap (λ (t : List ℕ). words (word ++ t)) parts.3
    ∙ (rw (slice_split_at is_blank word parts.1 parts.0 (λ k d lt. other k d lt) parts.2, some) refl)
    ∙ ap (λ (ws : List (List ℕ)). word ∷ ws) (sym (words_blank parts.1 parts.0 parts.2))
    ∙ ap (λ (t : List ℕ). word ∷ words t) (sym parts.3)

pub is_some_text : (text : List ℕ) (empty : Bool) → empty ≡ eqb (length text) 0 → empty ≡ false → ltb 0 (length text) ≡ true
is_some_text text empty e filled = grind arith

-- a text that begins a word has one before its first blank
pub is_some_word : (text word behind : List ℕ) → text ≡ word ++ behind → ltb 0 (length text) ≡ true → BeginsWord text → BeginsBlank behind → ltb 0 (length word) ≡ true
is_some_word text (w ∷ word) behind e some begins blank = grind arith
is_some_word [] [] behind e some begins blank = some
is_some_word (t ∷ text) [] [] e some begins blank = absurd blank
is_some_word (t ∷ text) [] (b ∷ behind) e some begins blank = absurd (no_blank t b text behind e begins blank) where
  no_blank : (t b : ℕ) (text behind : List ℕ) → t ∷ text ≡ b ∷ behind → is_blank t ≡ false → is_blank b ≡ true → ⊥
  no_blank t b text behind e begins blank = let same : t ≡ b = cc in let no : true ≡ false = sym blank ∙ ap is_blank (sym same) ∙ begins in cc
