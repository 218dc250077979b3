use Rattle.std.proofs.Common.{◌∙◌, ◌++◌, List, ap, subst, sym}
use Rattle.vm_types.specs.BlockView.{Retired}
use Rattle.vm_types.specs.Configuration.{IsWellFormed}
use Rattle.vm_types.specs.declared.config.Config.{Config}
use Rattle.vm_state.specs.History.{History}
use Rattle.vm_state.specs.declared.base.StateBase.{StateBase}
use Rattle.serial_run.proofs.RunsEnd.{at_report}
use Rattle.serial_run.proofs.RunsFinish.{finished_by}
use Rattle.replay_run.specs.Replayed.{HasWorkedAfterAnswers}
use Rattle.replay_run.proofs.threads.run_threads.Goals as goal

pub play-requires-clause-playable : goal.play-requires-clause-playable
play-requires-clause-playable g c κs within =
    let config = ap (λ (x : History). x.config) c.in_ok-first.ensures in
    record {
      keeps = ap (λ (x : History). x.keeps) c.in_ok-first.ensures;
      formed = subst IsWellFormed (sym config) c.requires.formed;
    }

pub play-requires-clause-first : goal.play-requires-clause-first
play-requires-clause-first g c κs within = ap (λ (x : History). x.past) c.in_ok-first.ensures

pub finish_run-requires-clause-keeps : goal.finish_run-requires-clause-keeps
finish_run-requires-clause-keeps g c κs within = ap (λ (x : StateBase). x.keeps) c.in_ok-state.ensures.same ∙ ap (λ (x : History). x.keeps) c.in_ok-first.ensures

pub finish_run-requires-clause-there : goal.finish_run-requires-clause-there
finish_run-requires-clause-there g c κs within = at_report g.D.Block.Block.tells.content c.in_ok-state.state.config c.in_ok-state.state.past c.in_ok-state.ensures.between c.in_ok-state.ensures.answered c.in_ok-state.ensures.right

pub returns-clause-finished : goal.returns-clause-finished
returns-clause-finished g c =
    let config_is = ap (λ (x : StateBase). x.config) c.in_ok-state.ensures.same ∙ ap (λ (x : History). x.config) c.in_ok-first.ensures in
    let done = c.in_ok-finish_run.ensures.finished in (
      done.0,
      done.1 ∙ ap (λ (xs : List Retired). xs ++ done.0) c.make_blocks.ensures.retired,
      finished_by g.D.Block.Block.tells HasWorkedAfterAnswers c.args.config c.in_ok-state.state.config c.in_ok-state.state.past done.0 _ config_is
          (subst (λ (k : Config). HasWorkedAfterAnswers k c.in_ok-state.state.past) config_is c.in_ok-state.ensures.threaded) done.2,
    )
