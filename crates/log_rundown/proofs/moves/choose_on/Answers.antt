use Rattle.std.proofs.Common.{◌∙◌}
use Rattle.pager_policy.specs.Rundown.{later_move}
use Rattle.shadow_pager.specs.Shown.{shown}
use Rattle.log_rundown.specs.Places.{place_as}
use Rattle.log_rundown.proofs.moves.choose_on.Goals as goal

pub returns-in-Some : goal.returns-in-Some
returns-in-Some c = c.in-Some.ensures (later_move c.args.past.now.config c.args.past.now.past (shown c.args.pager.now).pager (place_as c.args.at))

pub returns-in-None : goal.returns-in-None
returns-in-None c = c.choose_later.ensures ∙ c.in-None.ensures (later_move c.args.past.now.config c.args.past.now.past (shown c.args.pager.now).pager (place_as c.args.at))
