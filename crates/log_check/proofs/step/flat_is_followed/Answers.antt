use Rattle.shadow_pager.specs.Shown.{shown}
use Rattle.log_check.proofs.Follows.{follows_flat}
use Rattle.log_check.proofs.step.flat_is_followed.Goals as goal

pub returns : goal.returns
returns c =
    follows_flat c.args.past.now.config c.args.past.now.past (shown c.args.pager.now) c.requires
    c.flat_machine_follows.ensures.maps c.flat_machine_follows.ensures.touched c.runs_are_of_configuration.ensures.state
