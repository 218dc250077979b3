use Rattle.std.specs.Prelude.{Some}
use Rattle.std.specs.Option.{option_map}
use Rattle.pager_policy.specs.Rundown.{later_move}
use Rattle.vm_state.specs.History.{pager}
use Rattle.rundown.specs.Cleanings.{control_at}
use Rattle.rundown.specs.Places.{place_as}
use Rattle.rundown.proofs.MovesMade.{all_evicted, at_found, can_still, cleaned_later, moves_as, there_still}
use Rattle.rundown.proofs.moves.evict_from.Goals as goal

pub returns-in-Some-clean_at-clause-moved : goal.returns-in-Some-clean_at-clause-moved
returns-in-Some-clean_at-clause-moved g c =
    moves_as g.B.Block.tells.content c.args.state.now c.clean_at.new.state _ _ (Some (control_at c.in-Some-clean_at.next)) (at_found c.args.state.now (c.args.p).0 c.args.n c.args.failed (place_as c.in-Some.at) c.in-Some.ensures.place)
    (c.in-Some-clean_at.ensures.cleans (later_move c.args.state.now.config c.args.state.now.past (pager c.args.state.now) (place_as c.in-Some.at)))

pub clean_on-requires-clause-can : goal.clean_on-requires-clause-can
clean_on-requires-clause-can g c κs within = can_still c.args.state.now c.clean_at.new.state c.args.carrier.now c.clean_at.new.carrier c.in-None-clean_at.ensures.cleans.0 c.clean_at.ensures.carrier c.requires

pub clean_on-requires-clause-there : goal.clean_on-requires-clause-there
clean_on-requires-clause-there g c κs within = there_still c.args.state.now c.clean_at.new.state c.in-Some.at c.in-None-clean_at.ensures.cleans.0 c.in-Some.ensures.there

pub returns-in-None-clean_at-clause-moved : goal.returns-in-None-clean_at-clause-moved
returns-in-None-clean_at-clause-moved g c =
    moves_as g.B.Block.tells.content c.args.state.now c.clean_on.new.state _ _ (option_map control_at c.clean_on.result)
    (at_found c.args.state.now (c.args.p).0 c.args.n c.args.failed (place_as c.in-Some.at) c.in-Some.ensures.place)
    (cleaned_later g.B.Block.tells.content c.args.state.now c.clean_at.new.state c.clean_on.new.state (place_as c.in-Some.at) c.args.failed (option_map control_at c.clean_on.result) c.in-None-clean_at.ensures.cleans c.clean_on.ensures.moved)

pub returns-in-None-clause-moved : goal.returns-in-None-clause-moved
returns-in-None-clause-moved g c =
    moves_as g.B.Block.tells.content c.args.state.now c.write_rounds.new.state _ _ (option_map control_at c.write_rounds.result)
    (all_evicted c.args.state.now (c.args.p).0 c.args.n c.args.failed c.in-None.ensures.place) c.write_rounds.ensures.moved
