use Rattle.fault_core.proofs.Comes.{frame_held, frame_out}
use Rattle.fault_core.proofs.Firsts.{held_by, held_by_none}
use Rattle.fault_core.proofs.Steps.{gives_as, seeks_as}
use Rattle.fault_core.proofs.faults.fault.Goals as goal

pub read-requires-clause-holds : goal.read-requires-clause-holds
read-requires-clause-holds g c κs within = frame_held c.args.state.now c.args.x c.requires.sought c.in-Some.f c.in-Some.is

pub read-requires-clause-seeks : goal.read-requires-clause-seeks
read-requires-clause-seeks g c κs within =
    seeks_as _ _ (held_by c.args.state.now c.args.x c.in-Some.f (frame_held c.args.state.now c.args.x c.requires.sought c.in-Some.f c.in-Some.is)) c.requires

pub returns-in-Some : goal.returns-in-Some
returns-in-Some g c = gives_as _ _ (held_by c.args.state.now c.args.x c.in-Some.f (frame_held c.args.state.now c.args.x c.requires.sought c.in-Some.f c.in-Some.is)) c.read.ensures

pub room-requires-after_bounds : goal.room-requires-after_bounds
room-requires-after_bounds g c κs within = seeks_as _ _ (held_by_none c.args.state.now c.args.x (frame_out c.args.state.now c.args.x c.requires.sought c.in-None.is)) c.requires

pub returns-in-None : goal.returns-in-None
returns-in-None g c = gives_as _ _ (held_by_none c.args.state.now c.args.x (frame_out c.args.state.now c.args.x c.requires.sought c.in-None.is)) c.room.ensures
