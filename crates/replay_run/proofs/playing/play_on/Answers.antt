use Rattle.std.proofs.Common.{◌∙◌, ap, subst, sym}
use Rattle.std.specs.Prelude.{IfOk}
use Rattle.pager_model.specs.Order.{requests_of}
use Rattle.vm_state.specs.Based.{base_of}
use Rattle.vm_state.specs.History.{History}
use Rattle.replay_run.specs.Replayed.{HasPlayed}
use Rattle.replay_run.proofs.playing.play_on.Goals as goal

pub deal-requires-clause-works : goal.deal-requires-clause-works
deal-requires-clause-works g c κs within i work at =
    c.in_ok-works.ensures.each i work at ∙ ap (λ (s : History). requests_of i s.config.body) (sym c.requires.known)

pub returns : goal.returns
returns g c = subst (λ (s : History). IfOk c.conclude.result (HasPlayed g.B.Block.tells.content (base_of s))) c.requires.known c.conclude.ensures
