use Rattle.serial_moves.proofs.Refused.{may_refuse_it, own, refused_there}
use Rattle.serial_moves.proofs.carrying.refuse.Goals as goal

pub refuse_task-requires-clause-own : goal.refuse_task-requires-clause-own
refuse_task-requires-clause-own g c κs within =
    own c.args.state.now c.prepare.new.state c.args.seat c.prepare.ensures.same c.prepare.ensures.past c.requires.legal c.in-Some.task c.in-Some.ensures

pub refuse_task-requires-clause-may : goal.refuse_task-requires-clause-may
refuse_task-requires-clause-may g c κs within =
    may_refuse_it c.args.state.now c.prepare.new.state c.args.seat c.prepare.ensures.same c.prepare.ensures.past c.requires.legal c.in-Some.task c.in-Some.ensures
    c.in_ok-prepare.ensures.room c.requires.landed c.requires.reused

pub returns-clause-refused : goal.returns-clause-refused
returns-clause-refused g c =
    refused_there c.args.state.now c.prepare.new.state c.args.seat c.prepare.ensures.same c.prepare.ensures.past c.requires.legal c.in-Some.task c.in-Some.ensures
    g.B.Block.tells.content c.refuse_task.new.state _ c.refuse_task.ensures c.answered.ensures
