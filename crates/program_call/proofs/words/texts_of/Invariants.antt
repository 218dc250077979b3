use Rattle.std.proofs.Common.{◌≡◌, ◌++◌, map, drop, All}
use Rattle.std.specs.Str.{IsUtf8}
use Rattle.program_call.proofs.words.texts_of.Given as goal

abbrev pub invariant-loop-word : goal.invariant-loop-word
invariant-loop-word l = record {
  parts : map (λ word. word.items) l.words ≡ map (λ text. text.now) l.texts.items ++ map (λ word. word.items) (drop l.word-index l.words);
  utf8 : All IsUtf8 (map (λ text. text.now) l.texts.items);
}
