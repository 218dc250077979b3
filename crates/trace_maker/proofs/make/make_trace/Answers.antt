use Rattle.trace_maker.proofs.MadeIsWellFormed.{made_is_well_formed}
use Rattle.trace_maker.proofs.make.make_trace.Goals as goal

pub returns-clause-well_formed : goal.returns-clause-well_formed
returns-clause-well_formed c =
    rw (c.new.ensures, c.new-2.ensures, c.in_ok-sections.ensures, c.in_ok-processes.ensures, c.in_ok-mappings.ensures, c.in_ok-body.ensures)
    (made_is_well_formed c.args.seed c.args.procs c.args.refs c.requires.some_procs c.requires.few_procs c.requires.few_refs)
