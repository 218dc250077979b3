use Rattle.std.proofs.Common.{◌≡◌, ◌<◌, ℕ, [], ◌∷◌, Bor, List, false, get_or}
use Rattle.std.specs.Prelude.{IsUtf8}
use Rattle.std.specs.Str.{bytes_eq}
use Rattle.command_options.proofs.words.has_end.Given as goal

abbrev pub invariant-loop-word : goal.invariant-loop-word
invariant-loop-word l = (k : ℕ) (d : Bor (List ℕ)) → k < l.word-index → (bytes_eq (get_or l.words k d).now (45 ∷ 45 ∷ []) ≡ false) × IsUtf8 (get_or l.words k d).now
