-- Words are texts, one after another.
use Rattle.std.proofs.Common.{◌≡◌, ℕ, ◌+◌, ◌<◌, ◌≤◌, List, [], ◌∷◌, ◌++◌, length, get_or, drop, map, sym, ◌∙◌, ap, subst, arith, append-nil, append_assoc, All}
use Rattle.std.specs.Str.{IsUtf8}
use Rattle.std.specs.Prelude.{None, Some, MatchOption}
use Rattle.std.specs.declared.option.Option.{Option}
use Rattle.std.proofs.Math.ListN.{get_or-map}
use Rattle.std.proofs.lemmas.List.{drop_more, drop_all, map-append, length-map}
use Rattle.std.proofs.lemmas.List.Elements.{All-push, All-get_or}

module _ {W T : Type 0} (bytes : W → List ℕ) (now : T → List ℕ) (words : List W) where
  pub parts_more : (texts more : List T) (i : ℕ) (word : W) (text : T) → i < length words → word ≡ get_or words i word → more ≡ texts ++ text ∷ [] → now text ≡ bytes word
      → map bytes words ≡ map now texts ++ map bytes (drop i words) → map bytes words ≡ map now more ++ map bytes (drop (i + 1) words)
  parts_more texts more i word text within is pushed same parts =
      let rest = map bytes (drop (i + 1) words) in
      parts ∙ ap (λ left. map now texts ++ map bytes left) (drop_more words i word within)
      ∙ ap (λ word. map now texts ++ word ∷ rest) (sym (same ∙ ap bytes is))
      ∙ sym (append_assoc (map now texts) (now text ∷ []) rest)
      ∙ ap (λ front. front ++ rest) (sym (map-append now texts (text ∷ [])))
      ∙ ap (λ all. map now all ++ rest) (sym pushed)

  pub utf8_more : (texts more : List T) (text : T) → more ≡ texts ++ text ∷ [] → IsUtf8 (now text) → All IsUtf8 (map now texts) → All IsUtf8 (map now more)
  utf8_more texts more text pushed one all =
      subst (λ l. All IsUtf8 (map now l)) (sym pushed)
      (subst (All IsUtf8) (sym (map-append now texts (text ∷ []))) (All-push IsUtf8 (map now texts) (now text) all one))

  pub parts_all : (texts : List T) (i : ℕ) → length words ≤ i → map bytes words ≡ map now texts ++ map bytes (drop i words) → map now texts ≡ map bytes words
  parts_all texts i end parts =
      sym (parts ∙ ap (λ left. map now texts ++ map bytes left) (drop_all i words end) ∙ append-nil (map now texts))

  pub one_is_none : (i : ℕ) (word : W) → i < length words → word ≡ get_or words i word → (IsUtf8 (bytes word) → ⊥) → All IsUtf8 (map bytes words) → ⊥
  one_is_none i word within is bad all =
      bad (subst IsUtf8 (get_or-map bytes words i word ∙ ap bytes (sym is)) (All-get_or IsUtf8 (map bytes words) i (bytes word) (omega (arith, length-map words bytes, within)) all))

-- what is known of a case
pub if_some : {T : Type 0} (A : Type 0) (P : T → Type 0) (found : Option T) (text : T) → found ≡ Some text → MatchOption found A P → P text
if_some A P found text is known = subst (λ r. MatchOption r A P) is known

pub if_none : {T : Type 0} (A : Type 0) (P : T → Type 0) (found : Option T) → found ≡ None → MatchOption found A P → A
if_none A P found is known = subst (λ r. MatchOption r A P) is known
