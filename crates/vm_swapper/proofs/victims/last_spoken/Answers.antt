use Rattle.std.proofs.Common.{◌∙◌, ℕ, Option, ap}
use Rattle.std.specs.Option.{unwrap_or}
use Rattle.vm_swapper.proofs.EarliestSpoken.{last_is}
use Rattle.vm_swapper.proofs.victims.last_spoken.Goals as goal

pub returns : goal.returns
returns g c = c.unwrap_or.ensures ∙ (ap (λ (o : Option ℕ). unwrap_or o 0) c.spoken.ensures ∙ last_is (c.args.q).0 c.args.state.now.past)
