use Rattle.std.proofs.Common.{map, take}
use Rattle.dump_bytes.specs.Dumped.{process_of}
use Rattle.dump_lines.specs.Pins.{pins_in}
use Rattle.dump_lines.specs.Raised.{AreRaised}
use Rattle.dump_lines.specs.Tallies.{shares_in}
use Rattle.dump_lines.proofs.recounting.count_processes.Given as goal

abbrev pub invariant-loop-proc : goal.invariant-loop-proc
invariant-loop-proc l = record {
  shares : AreRaised (shares_in (map process_of (take l.proc-index l.procs))) l.initial.shares l.shares;
  uses : AreRaised (pins_in (map process_of (take l.proc-index l.procs))) l.initial.uses l.uses;
}
