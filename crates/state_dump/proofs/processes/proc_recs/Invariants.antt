use Rattle.std.proofs.Common.{◌≡◌, map}
use Rattle.std.specs.List.{range_with_len}
use Rattle.dump_bytes.specs.Dumped.{process_of}
use Rattle.dump_laws.specs.DumpAfter.{process_at}
use Rattle.vm_state.specs.History.{pager}
use Rattle.state_dump.proofs.processes.proc_recs.Given as goal

abbrev pub invariant-loop-number : goal.invariant-loop-number
invariant-loop-number g l = map process_of l.recs.items ≡ map (process_at (pager l.state)) (range_with_len 0 l.number)
