use Rattle.std.proofs.Common.{ap, subst, sym}
use Rattle.vm_types.specs.declared.config.Config.{Config}
use Rattle.dump_bytes.specs.Bounds.{IsDump}
use Rattle.state_dump.proofs.dump.dump_of.Goals as goal

pub returns-clause-dump : goal.returns-clause-dump
returns-clause-dump g c = λ i. record {
  frames = c.in_ok-frames.ensures i;
  free = c.in_ok-free.ensures i;
  modified = c.in_ok-modified.ensures i;
  size = ap (λ (k : Config). k.pagefile) c.config.ensures i;
  charged = c.charged-charged.ensures i;
  assigned = c.assigned-assigned.ensures i;
  procs = c.in_ok-procs.ensures i;
  flights = c.in_ok-flights.ensures i;
}

pub returns-clause-bounds : goal.returns-clause-bounds
returns-clause-bounds g c =
    let s = c.args.state.now in
    subst IsDump (sym (returns-clause-dump g c)) (c.dumps_of_runs_are_sound.ensures s.config s.past c.run_law.ensures.formed c.run_law.ensures.run).bounds
