-- Words that are printed, and how a line of them parts into its words again.
use Rattle.std.proofs.Common.{◌≡◌, ◌≢◌, ℕ, zero, suc, ◌-◌, ◌^◌, ◌<◌, ◌≤◌, Bool, true, false, ◌&&◌, leb, ltb, eqb, List, [], ◌∷◌, ◌++◌, length, get_or, All, refl, ap, subst, ◌∙◌, arith, inl, inr, le-leb, leb-true, lt-ltb, ne_eqb, append-nil}
use Rattle.std.specs.Prelude.{codes, slice_index, decimal as printed}
use Rattle.std.specs.List.{list_all}
use Rattle.std.proofs.lemmas.Bool.{and_from, and_parts, and_right, or_from, or_right}
use Rattle.std.proofs.lemmas.List.Folds.{list_all-append}
use Rattle.vm_types.specs.Configuration.{IsName, IsNameByte}
use Rattle.vm_text.specs.Hex.{hex, hex_digit}
use Rattle.vm_text.specs.Spaced.{spaced}
use Rattle.vm_text.proofs.Decimals.{byte_in}
use Rattle.vm_text.proofs.Digits.{hex_at}
use Rattle.vm_text.proofs.HexLemmas.{length-hex}
use Rattle.trace_words.specs.Words.{is_blank, words}
use Rattle.trace_words.proofs.Splitting.{words_blank, words_one, words_more}
use Rattle.trace_lines.specs.Grammar.{is_text, ends_with_return, content}
use Rattle.trace_spelling.proofs.Numbers.{printed_some, printed_few}

-- a printed byte that is no blank
abbrev pub is_plain : ℕ → Bool
is_plain b = leb 33 b && leb b 126

-- a printed byte
abbrev pub is_drawn : ℕ → Bool
is_drawn b = leb 32 b && leb b 126

pub record IsWord (word : List ℕ) : Type 0 where
  pub some : ltb 0 (length word) ≡ true
  pub plain : list_all is_plain word ≡ true

abbrev pub AreWords : List (List ℕ) → Type 0
AreWords [] = Unit {0}
AreWords (word ∷ words) = IsWord word × AreWords words

-- a word of at most so many bytes
pub record IsShortWord (most : ℕ) (word : List ℕ) : Type 0 where
  pub is : IsWord word
  pub short : length word ≤ most

pub literal : (most : ℕ) (word : List ℕ) → ltb 0 (length word) ≡ true → list_all is_plain word ≡ true → leb (length word) most ≡ true → IsShortWord most word
literal most word a b c = record { is = record { some = a; plain = b }; short = leb-true (length word) most c }

-- every element passes

weaker : (p q : ℕ → Bool) → ((b : ℕ) → p b ≡ true → q b ≡ true) → (xs : List ℕ) → list_all p xs ≡ true → list_all q xs ≡ true
weaker p q f [] e = refl
weaker p q f (b ∷ xs) e = let both = and_parts (p b) (list_all p xs) e in and_from (q b) (list_all q xs) (f b both.0) (weaker p q f xs both.1)

pub passes_at : (p : ℕ → Bool) (xs : List ℕ) → list_all p xs ≡ true → All (λ b. p b ≡ true) xs
passes_at p [] e k d lt = absurd (omega arith)
passes_at p (b ∷ xs) e zero d lt = (and_parts (p b) (list_all p xs) e).0
passes_at p (b ∷ xs) e (suc k) d lt = passes_at p xs (and_parts (p b) (list_all p xs) e).1 k d (omega arith)

pub passes_each : (p : ℕ → Bool) (xs : List ℕ) → ((i : ℕ) → i < length xs → p (get_or xs i 0) ≡ true) → list_all p xs ≡ true
passes_each p [] h = refl
passes_each p (b ∷ xs) h = and_from (p b) (list_all p xs) (h 0 (omega arith)) (passes_each p xs (λ i lt. h (suc i) (omega arith)))

pub passes_both : (p : ℕ → Bool) (xs ys : List ℕ) → list_all p xs ≡ true → list_all p ys ≡ true → list_all p (xs ++ ys) ≡ true
passes_both p xs ys a b = list_all-append p xs ys ∙ and_from (list_all p xs) (list_all p ys) a b

plain_bounds : (b : ℕ) → is_plain b ≡ true → (33 ≤ b) × (b ≤ 126)
plain_bounds b e = let both = and_parts (leb 33 b) (leb b 126) e in (leb-true 33 b both.0, leb-true b 126 both.1)

drawn_bounds : (b : ℕ) → is_drawn b ≡ true → (32 ≤ b) × (b ≤ 126)
drawn_bounds b e = let both = and_parts (leb 32 b) (leb b 126) e in (leb-true 32 b both.0, leb-true b 126 both.1)

plain_drawn : (b : ℕ) → is_plain b ≡ true → is_drawn b ≡ true
plain_drawn b e = let h = plain_bounds b e in and_from (leb 32 b) (leb b 126) (le-leb 32 b (omega (arith, h.0))) (le-leb b 126 h.1)

drawn_text : (b : ℕ) → is_drawn b ≡ true → is_text b ≡ true
drawn_text b e = or_right (eqb b 9) (leb 32 b && leb b 126) e

plain_no_blank : (b : ℕ) → is_plain b ≡ true → is_blank b ≡ false
plain_no_blank b e = let h = plain_bounds b e in or_from (eqb b 32) (eqb b 9) (ne_eqb b 32 (λ same. omega (arith, h.0, same))) (ne_eqb b 9 (λ same. omega (arith, h.0, same)))

no_blanks : (word : List ℕ) → IsWord word → All (λ b. is_blank b ≡ false) word
no_blanks word is k d lt = plain_no_blank (get_or word k d) (passes_at is_plain word is.plain k d lt)

pub from_plain : (b : ℕ) → 33 ≤ b → b ≤ 126 → is_plain b ≡ true
from_plain b low high = and_from (leb 33 b) (leb b 126) (le-leb 33 b low) (le-leb b 126 high)

-- printed words

number_is_word : (n : ℕ) → n < 2 ^ 32 → IsWord (printed n)
number_is_word n small = record {
  some = lt-ltb 0 (length (printed n)) (printed_some n small);
  plain = passes_each is_plain (printed n) (λ i lt. let range = byte_in (printed n) n (omega arith) refl i lt in from_plain (get_or (printed n) i 0) (omega (arith, range.0)) (omega (arith, range.1)));
}

pub number_word : (n : ℕ) → n < 2 ^ 32 → IsShortWord 10 (printed n)
number_word n small = record { is = number_is_word n small; short = printed_few n small }

digit_plain : (d : ℕ) → d < 16 → is_plain (hex_digit d) ≡ true
digit_plain d small = passes_at is_plain (codes "0123456789ABCDEF") refl d 0 small

pub hex_plain : (places v : ℕ) → list_all is_plain (hex places v) ≡ true
hex_plain places v = passes_each is_plain (hex places v) (λ i lt. let digit = hex_at places v i (within places v i lt) in subst (λ b. is_plain b ≡ true) digit.2 (digit_plain digit.0 digit.1)) where
  within : (places v i : ℕ) → i < length (hex places v) → i < places
  within places v i lt = omega (arith, length-hex places v)

pub hex_word : (places v : ℕ) → 1 ≤ places → IsShortWord places (hex places v)
hex_word places v some = record { is = record { some = lt-ltb 0 (length (hex places v)) (omega (arith, length-hex places v)); plain = hex_plain places v }; short = omega (arith, length-hex places v) }

pub name_byte_plain : (b : ℕ) → IsNameByte b → is_plain b ≡ true
name_byte_plain b (inl letter) = from_plain b (omega (arith, letter.0)) (omega (arith, letter.1))
name_byte_plain b (inr (inl digit)) = from_plain b (omega (arith, digit.0)) (omega (arith, digit.1))
name_byte_plain b (inr (inr line)) = from_plain b (omega (arith, line)) (omega (arith, line))

pub name_plain : (name : List ℕ) → IsName name → list_all is_plain name ≡ true
name_plain name is = passes_each is_plain name (λ i lt. name_byte_plain (get_or name i 0) (is.bytes i 0 lt))

pub name_word : (name : List ℕ) → IsName name → IsShortWord 15 name
name_word name is = record { is = record { some = lt-ltb 0 (length name) (let long = is.length.0 in omega (arith, long)); plain = name_plain name is }; short = is.length.1 }

-- a line of words

pub line_drawn : (word : List ℕ) (more : List (List ℕ)) → AreWords (word ∷ more) → list_all is_drawn (word ++ spaced more) ≡ true
line_drawn word [] are = passes_both is_drawn word [] (weaker is_plain is_drawn plain_drawn word are.0.plain) refl
line_drawn word (next ∷ more) are = passes_both is_drawn word (32 ∷ (next ++ spaced more)) (weaker is_plain is_drawn plain_drawn word are.0.plain) (line_drawn next more are.1)

pub words_line : (word : List ℕ) (more : List (List ℕ)) → AreWords (word ∷ more) → words (word ++ spaced more) ≡ word ∷ more
words_line word [] are = ap words (append-nil word) ∙ words_one word are.0.some (no_blanks word are.0)
words_line word (next ∷ more) are =
    words_more word (32 ∷ (next ++ spaced more)) are.0.some (no_blanks word are.0) refl
    ∙ ap (λ (ws : List (List ℕ)). word ∷ ws) (words_blank 32 (next ++ spaced more) refl ∙ words_line next more are.1)

pub drawn_texts : (line : List ℕ) → list_all is_drawn line ≡ true → list_all is_text line ≡ true
drawn_texts line e = weaker is_drawn is_text drawn_text line e

no_return : (line : List ℕ) → list_all is_drawn line ≡ true → ends_with_return line ≡ false
no_return [] e = refl
no_return (b ∷ line) e =
    let lt : length (b ∷ line) - 1 < length (b ∷ line) = omega arith in
    let low = (drawn_bounds (slice_index (b ∷ line) (length (b ∷ line) - 1)) (passes_at is_drawn (b ∷ line) e (length (b ∷ line) - 1) 0 lt)).0 in
    and_right (ltb 0 (length (b ∷ line))) (eqb (slice_index (b ∷ line) (length (b ∷ line) - 1)) 13) (ne_eqb (slice_index (b ∷ line) (length (b ∷ line) - 1)) 13 (λ same. omega (arith, low, same)))

pub drawn_content : (line : List ℕ) → list_all is_drawn line ≡ true → content line ≡ line
drawn_content line e = rw (no_return line e) refl

pub drawn_one_line : (line : List ℕ) → list_all is_drawn line ≡ true → All (λ b. b ≢ 10) line
drawn_one_line line e k d lt = λ same. omega (arith, (drawn_bounds (get_or line k d) (passes_at is_drawn line e k d lt)).0, same)
