use Rattle.vm_state.proofs.BodyGrows.{body_pushed}
use Rattle.vm_state.proofs.state.State.add_request.Goals as goal

pub invariant_of-self : goal.invariant_of-self
invariant_of-self g c =
    body_pushed g.B.Block.seen g.B.Block.tells _ c.args.self.now c.args.task _ _ _ _ c.push.result c.push.new.self c.self.view_is c.requires.added c.requires.before c.push.ensures.ok c.push.ensures.err c.self.invariant
