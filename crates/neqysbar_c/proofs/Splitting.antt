-- A text's first word stands before its first zero byte.
use Rattle.std.proofs.Common.{◌≡◌, ℕ, zero, suc, ◌<◌, ◌≤◌, Bool, true, false, ◌==◌, List, [], ◌∷◌, length, take, drop, slice_index, if◌then◌else◌, ◌++◌, refl, sym, ◌∙◌, ap, arith, append-nil, append_assoc, All}
use Rattle.std.specs.Str.{IsUtf8}
use Rattle.std.proofs.lemmas.List.Elements.{All-head, All-tail}
use Rattle.neqysbar_c.specs.Words.{words_of, with_byte}

is_false : (b : Bool) → ((b ≡ true) → ⊥) → b ≡ false
is_false true never = absurd (never refl)
is_false false _ = refl

pub words_first : (text : List ℕ) (n : ℕ) → n < length text → (slice_index text n == 0) ≡ true
    → ((k : ℕ) → 0 ≤ k → k < n → (slice_index text k == 0) ≡ true → ⊥)
    → words_of text ≡ take n text ∷ words_of (drop (suc n) text)
words_first [] n within is none = absurd (omega (arith, within))
words_first (byte ∷ text) zero within is none =
    ap (λ (b : Bool). if b then [] ∷ words_of text else with_byte byte (words_of text)) is
words_first (byte ∷ text) (suc n) within is none =
    let later = words_first text n (omega (arith, within)) is (λ k low below. none (suc k) (omega arith) (omega (arith, below))) in
    ap (λ (b : Bool). if b then [] ∷ words_of text else with_byte byte (words_of text)) (is_false (byte == 0) (none 0 (omega arith) (omega arith)))
    ∙ ap (with_byte byte) later

pub words_last : (text : List ℕ) → 0 < length text → ((k : ℕ) → 0 ≤ k → k < length text → (slice_index text k == 0) ≡ true → ⊥)
    → words_of text ≡ text ∷ []
words_last [] some none = absurd (omega (arith, some))
words_last (byte ∷ []) some none =
    ap (λ (b : Bool). if b then [] ∷ words_of [] else with_byte byte (words_of [])) (is_false (byte == 0) (none 0 (omega arith) (omega arith)))
words_last (byte ∷ next ∷ text) some none =
    let later = words_last (next ∷ text) (omega arith) (λ k low below. none (suc k) (omega arith) (omega (arith, below))) in
    ap (λ (b : Bool). if b then [] ∷ words_of (next ∷ text) else with_byte byte (words_of (next ∷ text))) (is_false (byte == 0) (none 0 (omega arith) (omega arith)))
    ∙ ap (with_byte byte) later

-- the words so far, and those of what is left, are all words
module _ (all : List (List ℕ)) (done : List (List ℕ)) where
  pub words_more : (more : List (List ℕ)) (word rest left : List ℕ) → more ≡ done ++ word ∷ [] → words_of left ≡ word ∷ words_of rest
      → all ≡ done ++ words_of left → all ≡ more ++ words_of rest
  words_more more word rest left pushed first parts =
      parts ∙ ap (λ words. done ++ words) first ∙ sym (append_assoc done (word ∷ []) (words_of rest)) ∙ ap (λ words. words ++ words_of rest) (sym pushed)

  pub words_ended : (left : List ℕ) → length left ≤ 0 → all ≡ done ++ words_of left → done ≡ all
  words_ended [] ended parts = sym (parts ∙ append-nil done)
  words_ended (byte ∷ left) ended parts = absurd (omega (arith, ended))

-- a word among texts is one
pub utf8_there : (done : List (List ℕ)) (word : List ℕ) (rest : List (List ℕ)) → All IsUtf8 (done ++ word ∷ rest) → IsUtf8 word
utf8_there [] word rest texts = All-head IsUtf8 word rest texts
utf8_there (first ∷ done) word rest texts = utf8_there done word rest (All-tail IsUtf8 first (done ++ word ∷ rest) texts)
