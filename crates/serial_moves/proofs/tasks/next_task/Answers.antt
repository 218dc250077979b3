use Rattle.std.proofs.Common.{◌≡◌, ◌∙◌, ap, slice_get}
use Rattle.vm_types.specs.declared.config.Config.{Config}
use Rattle.serial_moves.proofs.tasks.next_task.Goals as goal

pub returns : goal.returns
returns g c =
    let body : c.config.result.now.body ≡ c.args.state.now.config.body = ap (λ (x : Config). x.body) c.config.ensures in
    c.get.ensures ∙ (λ i. slice_get (body i) (c.all_answered-count.ensures i))
