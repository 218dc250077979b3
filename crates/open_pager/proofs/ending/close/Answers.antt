use Rattle.std.proofs.Common.{subst}
use Rattle.pager_model.specs.Asked.{IsAsked}
use Rattle.open_pager.specs.Open.{OpenView}
use Rattle.open_pager.proofs.ending.close.Goals as goal

pub returns-clause-asked : goal.returns-clause-asked
returns-clause-asked g c =
    let done = c.in_ok-give_back.ensures.asked in (
      done.0,
      done.1,
      subst (λ (p : OpenView). IsAsked g.D.Block.Block.tells.plan p.history.config p.history.past done.0) c.pager.view_is done.2,
    )
