-- Which words are handed over of a command line.
use Rattle.std.proofs.Common.{◌≡◌, ℕ, Bool, true, false, ◌==◌, List, [], ◌∷◌, if◌then◌else◌, inl, inr, refl, sym, ◌∙◌, ap, length, map, All, Bor, arith}
use Rattle.std.specs.Prelude.{◌⊎◌}
use Rattle.std.proofs.lemmas.Bool.{eqb-true, false≢true}
use Rattle.std.specs.Str.{IsUtf8}
use Rattle.neqysbar_c.specs.Words.{IsCommandLine, with_byte, words_of}

-- a word that has a byte is there
with_byte_there : (byte : ℕ) (words : List (List ℕ)) → with_byte byte words ≡ [] → ⊥
with_byte_there byte [] e = omega (arith, ap length e)
with_byte_there byte (word ∷ words) e = omega (arith, ap length e)

first_there : (ends : Bool) (byte : ℕ) (words : List (List ℕ)) → (if ends then [] ∷ words else with_byte byte words) ≡ [] → ⊥
first_there true byte words e = omega (arith, ap length e)
first_there false byte words e = with_byte_there byte words e

-- a line that isn't empty has a word
some_word : (line : List ℕ) → words_of line ≡ [] → line ≡ []
some_word [] e = refl
some_word (byte ∷ text) e = absurd (first_there (byte == 0) byte (words_of text) e)

-- none is handed over of a line that isn't empty: one isn't UTF-8
not_text : (line : List ℕ) (words : List (List ℕ)) → IsCommandLine line words → words ≡ [] → (line ≡ [] → ⊥) → All IsUtf8 (words_of line) → ⊥
not_text line words is none some all =
    elim is [
      | inl whole ↦ some (some_word line (sym whole.0 ∙ none))
      | inr bad ↦ bad.1 all
    ]

-- else all are
all_there : (line : List ℕ) (words : List (List ℕ)) → IsCommandLine line words → (words ≡ [] → line ≡ []) → words ≡ words_of line
all_there line words is empty =
    elim is [
      | inl whole ↦ whole.0
      | inr bad ↦ bad.0 ∙ sym (ap words_of (empty bad.0))
    ]

nothing_there : (line : List ℕ) → length line ≡ 0 → line ≡ []
nothing_there [] e = refl
nothing_there (byte ∷ text) e = absurd (omega (arith, e))

-- the same of words as the code holds them
pub not_text_by : (line : List ℕ) (words : List (Bor (List ℕ))) → IsCommandLine line (map (λ word. word.now) words)
    → (length words == 0) ≡ true → (length line == 0) ≡ false → All IsUtf8 (words_of line) → ⊥
not_text_by line [] is none some = not_text line [] is refl (λ empty. false≢true (sym some ∙ ap (λ (bytes : List ℕ). length bytes == 0) empty))
not_text_by line (word ∷ words) is none some = absurd (omega (arith, eqb-true (length (word ∷ words)) 0 none))

pub all_there_by : (line : List ℕ) (words : List (Bor (List ℕ))) → IsCommandLine line (map (λ word. word.now) words)
    → ((length line == 0) ≡ true) ⊎ ((length words == 0) ≡ false) → map (λ word. word.now) words ≡ words_of line
all_there_by line [] is which = all_there line [] is (λ _. elim which [
  | inl empty ↦ nothing_there line (eqb-true (length line) 0 empty)
  | inr some ↦ absurd (false≢true (sym some))
])
all_there_by line (word ∷ words) is which = all_there line (word.now ∷ map (λ word. word.now) words) is (λ none. absurd (omega (arith, ap length none)))
