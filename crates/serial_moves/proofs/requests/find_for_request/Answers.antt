use Rattle.std.proofs.Common.{refl}
use Rattle.pager_policy.specs.Moves.{asking, rests}
use Rattle.pager_policy.specs.Policy.{ends_request}
use Rattle.serial_moves.proofs.SteadySeats.{here_as, leads_as, rests_there}
use Rattle.serial_moves.proofs.requests.find_for_request.Goals as goal

pub find_frame-requires-clause-here : goal.find_frame-requires-clause-here
find_frame-requires-clause-here g c κs within = here_as c.args.state.now _ _ (c.in-Some.ensures.move_is (c.args.seat).0 ends_request asking rests) c.requires.here

pub returns-in-Some-clause-moved : goal.returns-in-Some-clause-moved
returns-in-Some-clause-moved g c =
    leads_as g.B.Block.tells.content c.args.state.now c.find_frame.new.state _ _ c.find_frame.result (c.in-Some.ensures.move_is (c.args.seat).0 ends_request asking rests) c.find_frame.ensures.moved

pub returns-in-None-clause-moved : goal.returns-in-None-clause-moved
returns-in-None-clause-moved g c = rests_there c.args.state.now c.args.state.now _ refl (c.in-None.ensures.move_is (c.args.seat).0 ends_request asking rests)
