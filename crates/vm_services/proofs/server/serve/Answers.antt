use Rattle.vm_services.proofs.Steps.{by_table}
use Rattle.vm_services.proofs.server.serve.Goals as goal

pub returns-clause-by_table : goal.returns-clause-by_table
returns-clause-by_table g c = λ room.
    by_table c.args.state.now c.serve_first.new.state c.args.seat c.args.p.0 c.args.s c.serve_first.result (c.serve_first.ensures.gives room)
