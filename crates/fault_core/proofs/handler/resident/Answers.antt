use Rattle.std.proofs.Common.{refl}
use Rattle.vm_journal.specs.declared.entry.What.TheVariants as what
use Rattle.fault_core.proofs.Firsts.{limited, may_limit, settled}
use Rattle.fault_core.proofs.Steps.{gives_as, goes_on, refers_as}
use Rattle.fault_core.proofs.handler.resident.Goals as goal

pub pending-requires-after_bounds : goal.pending-requires-after_bounds
pending-requires-after_bounds g c κs within = c.requires.ready.seat_is.process

pub limit-requires-after_bounds : goal.limit-requires-after_bounds
limit-requires-after_bounds g c κs within = may_limit c.args.state.now c.args.seat c.args.r c.in-Some.n c.in-Some.faults c.requires.ready c.in-Some.ensures c.requires.may

pub returns-in-Some : goal.returns-in-Some
returns-in-Some g c =
    goes_on c.args.state.now _ c.args.seat c.args.r (what.Limit c.in-Some.n c.in-Some.faults) _ _ (limited c.args.state.now c.args.seat c.args.r c.in-Some.n c.in-Some.faults c.requires.ready c.in-Some.ensures) refl c.limit.ensures

pub answer-requires-after_bounds : goal.answer-requires-after_bounds
answer-requires-after_bounds g c κs within = refers_as _ _ (settled c.args.state.now c.args.seat c.args.r c.requires.ready c.in-None.ensures) c.requires

pub returns-in-None : goal.returns-in-None
returns-in-None g c = gives_as _ _ (settled c.args.state.now c.args.seat c.args.r c.requires.ready c.in-None.ensures) c.answer.ensures
