use Rattle.std.proofs.Common.{◌≡◌, ◌+◌, ◌-◌, ◌<◌, vec_capacity, vec_len}
use Rattle.page_file.specs.Blocks.{all_owners}
use Rattle.page_file.proofs.file.reach.Given as goal

abbrev pub invariant-loop-owners : goal.invariant-loop-owners
invariant-loop-owners l = record {
  same : all_owners l.owners.items (l.block + 1) ≡ all_owners l.fn.owners.items (l.block + 1);
  capacity : vec_capacity l.owners ≡ vec_capacity l.fn.owners;
  room : l.block < vec_capacity l.owners;
}

-- blocks that aren't written yet
abbrev pub decreases-loop-owners : goal.decreases-loop-owners
decreases-loop-owners l = l.block + 1 - vec_len l.owners
