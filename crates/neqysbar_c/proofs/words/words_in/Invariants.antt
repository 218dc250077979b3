use Rattle.std.proofs.Common.{◌≡◌, ◌≤◌, ◌+◌, ◌++◌, length, map, All}
use Rattle.std.specs.Str.{IsUtf8}
use Rattle.neqysbar_c.specs.Words.{words_of}
use Rattle.neqysbar_c.proofs.words.words_in.Given as goal

abbrev pub invariant-loop : goal.invariant-loop
invariant-loop l = record {
  shorter : length l.left + l.counter ≤ length l.fn.text;
  words : words_of l.fn.text ≡ map (λ word. word.now) l.words.items ++ words_of l.left;
  utf8 : All IsUtf8 (map (λ word. word.now) l.words.items);
}
