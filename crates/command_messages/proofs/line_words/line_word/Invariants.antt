use Rattle.std.proofs.Common.{◌≡◌, length}
use Rattle.trace_words.specs.Words.{words}
use Rattle.command_messages.specs.LineWords.{line_word, word_among}
use Rattle.command_messages.proofs.line_words.line_word.Given as goal

abbrev pub invariant-loop-word : goal.invariant-loop-word
invariant-loop-word l = word_among l.left l.is_cut (words l.rest) ≡ line_word l.fn.number l.fn.text

abbrev pub decreases-loop-word : goal.decreases-loop-word
decreases-loop-word l = length (words l.rest)
