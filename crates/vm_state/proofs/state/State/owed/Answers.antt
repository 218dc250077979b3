use Rattle.std.proofs.Common.{ap, ◌∙◌, arith}
use mir.Val.{bool_byte}
use Rattle.vm_state.specs.History.{History, owed}
use Rattle.vm_state.proofs.Owed as due
use Rattle.vm_state.proofs.state.State.owed.Goals as goal

pub overflow_mul-result : goal.overflow_mul-result
overflow_mul-result g c = let few = due.few c.self.invariant in omega (arith, few)

pub overflow_add-result : goal.overflow_add-result
overflow_add-result g c =
    let few = due.few c.self.invariant in
    let one = due.byte_small c.is_some.result in
    let is = c.from.ensures in
    omega (arith, few, one, is)

pub returns : goal.returns
returns g c =
    due.owed_is c.self.invariant c.from.result (c.from.ensures ∙ (ap bool_byte c.is_some.ensures ∙ due.byte_is _)) ∙ ap (λ (s : History). owed s.past) c.self.view_is
