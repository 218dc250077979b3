use Rattle.std.proofs.Common.{le_of_eq, ℕ, List, [], ◌∷◌, ◌++◌, length, map, All, Bor, inl, inr, sym, ◌∙◌, ap, subst, arith}
use Rattle.std.proofs.lemmas.Bool.{eqb-true}
use Rattle.std.specs.Str.{IsUtf8}
use Rattle.std.proofs.lemmas.List.{map-append}
use Rattle.std.proofs.lemmas.List.Elements.{All-nil, All-push}
use Rattle.neqysbar_c.proofs.Splitting.{words_more, words_ended, utf8_there}
use Rattle.neqysbar_c.specs.Words.{words_of}
use Rattle.neqysbar_c.proofs.words.words_in.Goals as goal

pub loop-init : goal.loop-init
loop-init c = record {
  shorter = omega (arith);
  words = ap (λ (items : List (Bor (List ℕ))). map (λ word. word.now) items ++ words_of c.args.text.now) (sym c.new-words.ensures.items);
  utf8 = subst (λ (items : List (Bor (List ℕ))). All IsUtf8 (map (λ word. word.now) items)) (sym c.new-words.ensures.items) (All-nil IsUtf8);
}

pub returns-then-is_empty : goal.returns-then-is_empty
returns-then-is_empty c =
    let is = words_ended (words_of c.args.text.now) (map (λ word. word.now) c.loop.words.items) c.loop.left.now (le_of_eq (eqb-true (length c.loop.left.now) 0 (sym c.is_empty.ensures ∙ c.if-is_empty.true))) c.loop.invariant.words in
    inl (is, subst (All IsUtf8) is c.loop.invariant.utf8)

pub returns-in-Err : goal.returns-in-Err
returns-in-Err c =
    inr (
      ap (λ (items : List (Bor (List ℕ))). map (λ word. word.now) items) c.new.ensures.items,
      λ all. c.in-Err.ensures.cases.0 (utf8_there (map (λ word. word.now) c.loop.words.items) c.first_word.result.0.now (words_of c.first_word.result.1.now)
          (subst (All IsUtf8) (c.loop.invariant.words ∙ ap (λ words. map (λ word. word.now) c.loop.words.items ++ words) c.first_word.ensures.words) all)),
    )

pub loop-preserved : goal.loop-preserved
loop-preserved c =
    let pushed = ap (λ (items : List (Bor (List ℕ))). map (λ word. word.now) items) c.in_ok-push-in-Ok.ensures.items ∙ map-append (λ word. word.now) c.loop.words.items (c.in-Ok.word ∷ []) in
    record {
      shorter = omega (arith, c.loop.invariant.shorter, c.first_word.ensures.shorter);
      words = words_more (words_of c.args.text.now) (map (λ word. word.now) c.loop.words.items) _ c.in-Ok.word.now c.first_word.result.1.now c.loop.left.now pushed
          (c.first_word.ensures.words ∙ ap (λ word. word ∷ words_of c.first_word.result.1.now) (sym c.in-Ok.ensures.cases.0)) c.loop.invariant.words;
      utf8 = subst (All IsUtf8) (sym pushed) (All-push IsUtf8 (map (λ word. word.now) c.loop.words.items) c.in-Ok.word.now c.loop.invariant.utf8
          (subst IsUtf8 (sym c.in-Ok.ensures.cases.0) c.in-Ok.ensures.cases.1));
    }

pub returns : goal.returns
returns c =
    let is = words_ended (words_of c.args.text.now) (map (λ word. word.now) c.loop.words.items) c.loop.left.now (omega (arith, c.loop-test.false, c.loop.invariant.shorter)) c.loop.invariant.words in
    inl (is, subst (All IsUtf8) is c.loop.invariant.utf8)
