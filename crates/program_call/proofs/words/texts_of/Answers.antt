use Rattle.std.proofs.Common.{◌∙◌, sym, subst, All, Bor, ℕ, List}
use Rattle.std.specs.Str.{IsUtf8}
use Rattle.program_call.proofs.Texts.{parts_more, utf8_more, parts_all, one_is_none}
use Rattle.program_call.proofs.words.texts_of.Goals as goal

pub returns-in-Err : goal.returns-in-Err
returns-in-Err c =
    one_is_none (λ word. word.items) (λ (text : Bor (List ℕ)). text.now) c.args.words.now c.loop-word.word-index c.word-item.result c.loop-word-test.true c.word-item.is
    (λ utf8. c.in-Err.ensures.cases.0 (subst IsUtf8 (sym c.as_slice.ensures.value) utf8))

pub loop-word-preserved : goal.loop-word-preserved
loop-word-preserved c = record {
  parts = parts_more (λ word. word.items) (λ text. text.now) c.args.words.now c.loop-word.texts.items c.push.new.self.items c.loop-word.word-index c.word-item.result c.in-Ok.text c.loop-word-test.true c.word-item.is c.in_ok-push-in-Ok.ensures.items (c.in-Ok.ensures.cases.0 ∙ c.as_slice.ensures.value) c.loop-word.invariant.parts;
  utf8 = utf8_more (λ word. word.items) (λ text. text.now) c.args.words.now c.loop-word.texts.items c.push.new.self.items c.in-Ok.text c.in_ok-push-in-Ok.ensures.items (subst IsUtf8 (sym c.in-Ok.ensures.cases.0) c.in-Ok.ensures.cases.1) c.loop-word.invariant.utf8;
}

pub returns : goal.returns
returns c =
    let same = parts_all (λ word. word.items) (λ text. text.now) c.args.words.now c.loop-word.texts.items c.loop-word.word-index c.loop-word-test.false c.loop-word.invariant.parts in
    (same, subst (All IsUtf8) same c.loop-word.invariant.utf8)
