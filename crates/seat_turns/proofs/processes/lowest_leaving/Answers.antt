use Rattle.std.proofs.Common.{◌∙◌, arith, length, sym}
use Rattle.std.specs.Option.{option_map}
use Rattle.vm_state.specs.History.{pager}
use Rattle.vm_swapper.specs.Victims.{process_number}
use Rattle.vm_swapper.proofs.Ranges.{find_next}
use Rattle.seat_steps.specs.Leaving.{is_other_leaving}
use Rattle.seat_turns.proofs.Searches.{find_end, find_here, is_leaving_there}
use Rattle.seat_turns.proofs.processes.lowest_leaving.Goals as goal

pub loop-n-preserved : goal.loop-n-preserved
loop-n-preserved g c =
    c.loop-n.invariant
    ∙ find_next (is_other_leaving (pager c.args.state.now) (option_map process_number c.args.but)) c.loop-n.n (length c.args.state.now.config.procs)
    (let test = c.loop-n-test.true in let count = c.processes-n-end.ensures.count in omega (arith, test, count)) (sym c.is_other_leaving.ensures ∙ c.if-is_other_leaving.false)

pub returns-then-is_other_leaving-clause-lowest : goal.returns-then-is_other_leaving-clause-lowest
returns-then-is_other_leaving-clause-lowest g c =
    sym (c.loop-n.invariant
    ∙ find_here (is_other_leaving (pager c.args.state.now) (option_map process_number c.args.but)) c.loop-n.n (length c.args.state.now.config.procs)
    (let test = c.loop-n-test.true in let count = c.processes-n-end.ensures.count in omega (arith, test, count)) (sym c.is_other_leaving.ensures ∙ c.if-is_other_leaving.true))

pub returns-then-is_other_leaving-clause-there : goal.returns-then-is_other_leaving-clause-there
returns-then-is_other_leaving-clause-there g c = let test = c.loop-n-test.true in let count = c.processes-n-end.ensures.count in omega (arith, test, count)

pub returns-then-is_other_leaving-clause-leaving : goal.returns-then-is_other_leaving-clause-leaving
returns-then-is_other_leaving-clause-leaving g c = is_leaving_there (pager c.args.state.now) (option_map process_number c.args.but) c.loop-n.n (sym c.is_other_leaving.ensures ∙ c.if-is_other_leaving.true)

pub returns-clause-lowest : goal.returns-clause-lowest
returns-clause-lowest g c =
    sym (c.loop-n.invariant
    ∙ find_end (is_other_leaving (pager c.args.state.now) (option_map process_number c.args.but)) c.loop-n.n (length c.args.state.now.config.procs)
    (let test = c.loop-n-test.false in let count = c.processes-n-end.ensures.count in omega (arith, test, count)))
