use Rattle.std.proofs.Common.{◌<◌, length, ap, sym, subst, ◌∙◌}
use Rattle.vm_types.specs.Ring.{choose}
use Rattle.vm_state.specs.History.{History, pager}
use Rattle.vm_state.proofs.WhatIsRead as reads
use Rattle.vm_state.proofs.state.State.choice.Goals as goal

pub choose-requires : goal.choose-requires
choose-requires g c = reads.limit_within c.self.invariant c.args.p.0 c.index-row.result.now (subst (λ (s : History). c.args.p.0 < length s.config.procs) (sym c.self.view_is) c.requires) c.index-row.ensures

pub returns : goal.returns
returns g c =
    reads.choice_is c.self.invariant c.args.p.0 c.index-row.result.now c.choose.result (subst (λ (s : History). c.args.p.0 < length s.config.procs) (sym c.self.view_is) c.requires) c.index-row.ensures c.choose.ensures.chosen
    ∙ ap (λ (s : History). choose ((pager s).ring c.args.p.0) ((pager s).limit c.args.p.0)) c.self.view_is
