use Rattle.call_begins.proofs.OneReads.{can_take}
use Rattle.call_begins.proofs.OneWrites.{has_each, has_taken}
use Rattle.call_begins.proofs.begins.write_one.Goals as goal

pub begin_out-requires-clause-room : goal.begin_out-requires-clause-room
begin_out-requires-clause-room g c κs within = can_take c.args.state.now c.args.seat c.args.carrier.now c.requires.begun c.requires.few

pub returns-clause-begun : goal.returns-clause-begun
returns-clause-begun g c =
    has_taken c.args.state.now c.begin_out.new.self c.args.seat c.args.f c.args.block c.args.carrier.now c.begin_out.new.carrier c.begin_out.ensures.lift.0 c.begin_out.ensures.state c.begin_out.ensures.lift.1 c.begin_out.ensures.lift.2
    c.run_law.ensures.formed c.run_law.ensures.run c.requires.may c.requires.begun

pub returns-clause-each : goal.returns-clause-each
returns-clause-each g c =
    has_each c.args.state.now c.begin_out.new.self c.args.seat c.args.f c.args.block c.args.carrier.now c.begin_out.new.carrier c.begin_out.ensures.lift.0 c.begin_out.ensures.state c.begin_out.ensures.lift.1 c.begin_out.ensures.lift.2
