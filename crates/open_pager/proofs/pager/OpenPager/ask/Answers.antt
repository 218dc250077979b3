use Rattle.std.proofs.Common.{◌∙◌, ap, length}
use Rattle.std.proofs.lemmas.List.{take_at}
use Rattle.open_pager.proofs.LongerBody.{ready_again}
use Rattle.open_pager.proofs.pager.OpenPager.ask.Goals as goal

pub invariant_of-self : goal.invariant_of-self
invariant_of-self g c going =
    let same = c.in-Ok.ensures.carriers in
    ready_again c.self.inside.state c.ask_request.new.state c.self.inside.control c.in-Ok.next c.args.task c.self.inside.carriers.items _ (c.self.invariant going) c.in-Ok.ensures.asked
    (take_at c.ask_request.new.carriers _ _ (ap length same ∙ c.deref_mut.ensures.len) ∙ (same ∙ c.deref_mut.ensures.value))
