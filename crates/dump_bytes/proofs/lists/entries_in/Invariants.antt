use Rattle.std.proofs.Common.{◌≤◌, ◌-◌, vec_len, vec_capacity}
use Rattle.dump_bytes.specs.Reading.{entry_at}
use Rattle.dump_bytes.proofs.Repeating.{IsRising}
use Rattle.dump_bytes.proofs.lists.entries_in.Given as goal

abbrev pub invariant-loop-words : goal.invariant-loop-words
invariant-loop-words l = record {
  room : l.count ≤ vec_capacity l.words;
  along : IsRising (λ w. w.0) 4194304 (entry_at l.frames) l.count l.fn.bytes l.words.items l.floor l.rest;
}

abbrev pub decreases-loop-words : goal.decreases-loop-words
decreases-loop-words l = l.count - vec_len l.words
