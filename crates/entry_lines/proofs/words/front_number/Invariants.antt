use Rattle.std.proofs.Common.{◌<◌, ◌≤◌, ◌-◌, ◌^◌}
use Rattle.vm_text.proofs.Decimals.{IsReadSoFar}
use Rattle.entry_lines.proofs.words.front_number.Given as goal

abbrev pub invariant-loop-end : goal.invariant-loop-end
invariant-loop-end l = record {
  reading : IsReadSoFar l.text l.end l.number;
  small : l.number < 10 ^ l.end;
  within : l.end ≤ l.most;
}

abbrev pub decreases-loop-end : goal.decreases-loop-end
decreases-loop-end l = l.most - l.end
