use Rattle.std.proofs.Common.{◌∙◌, arith, length, sym}
use Rattle.std.specs.Option.{option_map}
use Rattle.vm_state.specs.History.{pager}
use Rattle.vm_swapper.specs.Victims.{leaves_coming, process_number}
use Rattle.vm_swapper.proofs.Ranges.{find_next}
use Rattle.vm_swapper.proofs.victims.coming.Goals as goal

pub loop-n-preserved : goal.loop-n-preserved
loop-n-preserved g c =
    c.loop-n.invariant
    ∙ find_next (leaves_coming c.args.state.now.past (pager c.args.state.now) (option_map process_number c.args.but)) c.loop-n.n (length c.args.state.now.config.procs)
    (let test = c.loop-n-test.true in let count = c.processes-n-end.ensures in omega (arith, test, count)) (sym c.leaves_coming.ensures ∙ c.if-leaves_coming.false)
