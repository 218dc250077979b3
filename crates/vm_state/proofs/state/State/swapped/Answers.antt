use Rattle.std.proofs.Common.{ap, ◌∙◌}
use Rattle.pager_model.specs.Lying.{lying_in}
use Rattle.vm_state.specs.History.{History, pager}
use Rattle.vm_state.proofs.PageShows as shows
use Rattle.vm_state.proofs.state.State.swapped.Goals as goal

pub returns-in-Some : goal.returns-in-Some
returns-in-Some g c = shows.some_swapped c.self.invariant c.args.p.0 c.args.n c.in-Some.vpn c.in-Some.ensures ∙ ap (λ (s : History). lying_in (pager s) c.args.p.0 c.args.n) c.self.view_is

pub returns-in-None : goal.returns-in-None
returns-in-None g c = shows.none_swapped c.self.invariant c.args.p.0 c.args.n c.in-None.ensures ∙ ap (λ (s : History). lying_in (pager s) c.args.p.0 c.args.n) c.self.view_is
