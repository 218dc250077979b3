use Rattle.std.proofs.Common.{arith, refl}
use Rattle.vm_state.specs.History.{pager}
use Rattle.fault_core.proofs.Comes.{may_answer_zero, may_first, may_zero, zeros}
use Rattle.fault_core.proofs.Steps.{answered_zero}
use Rattle.fault_core.proofs.fetches.zero.Goals as goal

pub reuse_first-requires-clause-may : goal.reuse_first-requires-clause-may
reuse_first-requires-clause-may g c κs within = may_first c.args.state.now c.args.x c.args.f c.requires.head _ refl c.requires.seeks.refers.may

pub reuse_first-requires-clause-paid : goal.reuse_first-requires-clause-paid
reuse_first-requires-clause-paid g c κs within = let room = c.requires.seeks.refers.may.room in omega (arith, room)

pub zero-requires-after_bounds : goal.zero-requires-after_bounds
zero-requires-after_bounds g c κs within =
    may_zero c.args.state.now c.args.x c.args.f c.requires.head c.page_start-start.result c.page_start-start.ensures c.reuse_first.new.state c.reuse_first.ensures c.requires.seeks.refers.may

pub done-requires-after_bounds : goal.done-requires-after_bounds
done-requires-after_bounds g c κs within =
    may_answer_zero c.args.state.now c.args.x c.args.f c.requires.head c.page_start-start.result c.page_start-start.ensures c.reuse_first.new.state c.reuse_first.ensures c.requires.seeks.refers.may c.zero.new.self c.zero.ensures

pub returns : goal.returns
returns g c =
    answered_zero c.args.state.now c.reuse_first.new.state c.zero.new.self _ (c.args.x).seat (c.args.f).0 ((pager c.args.state.now).page (c.args.f).0) c.page_start-start.result c.args.f (c.args.x).r c.done.result _ _
    (zeros c.args.state.now c.args.x c.args.f c.requires.head c.page_start-start.result c.page_start-start.ensures) c.reuse_first.ensures c.zero.ensures c.done.ensures.added c.done.ensures.right
