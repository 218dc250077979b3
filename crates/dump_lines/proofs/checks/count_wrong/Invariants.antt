use Rattle.std.proofs.Common.{◌≡◌, ◌+◌, ◌*◌, ◌≤◌, count_by, drop}
use Rattle.dump_lines.specs.Checks.{checks_from}
use Rattle.dump_lines.specs.Wrong.{is_wrong}
use Rattle.dump_lines.proofs.checks.count_wrong.Given as goal

abbrev pub invariant-loop-f : goal.invariant-loop-f
invariant-loop-f l = record {
  count : l.wrong + count_by is_wrong (checks_from l.f (drop l.f l.frames) (drop l.f l.counts)) ≡ count_by is_wrong (checks_from 0 l.frames l.counts);
  few : l.wrong ≤ 4 * l.f;
}
