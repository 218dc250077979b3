use Rattle.serial_moves.specs.Controls.{control_in}
use Rattle.open_pager.proofs.LongerBody.{none_yet, open_longer}
use Rattle.open_pager.proofs.asking.ask_request.Goals as goal

pub add-requires-clause-before : goal.add-requires-clause-before
add-requires-clause-before g c κs within = none_yet c.args.state.now (control_in c.args.at) c.requires.open_there

pub settle-requires-clause-open_there : goal.settle-requires-clause-open_there
settle-requires-clause-open_there g c κs within =
    open_longer c.args.state.now (control_in c.args.at) c.requires.open_there c.add.new.state c.args.task c.requires.may c.in-Ok.ensures.ok.0 c.in-Ok.ensures.ok.1
