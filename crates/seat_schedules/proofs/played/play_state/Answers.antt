use Rattle.std.proofs.Common.{subst}
use Rattle.vm_types.specs.declared.config.Config.{Config}
use Rattle.pager_model.specs.Run.{IsRun}
use Rattle.seat_schedules.proofs.played.play_state.Goals as goal

pub returns : goal.returns
returns g c = record {
  state = c.play.new.state;
  same = c.play.ensures.config;
  run = subst (λ (k : Config). IsRun k c.play.new.state.past) c.play.ensures.config c.run_law.ensures.run;
  left = c.in_ok-played.ensures;
}
