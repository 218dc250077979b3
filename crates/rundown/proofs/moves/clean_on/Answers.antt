use Rattle.std.specs.Option.{option_map}
use Rattle.rundown.specs.Cleanings.{control_at}
use Rattle.rundown.specs.Places.{place_as}
use Rattle.rundown.proofs.MovesMade.{cleaned_last, moves_as, none_later}
use Rattle.rundown.proofs.moves.clean_on.Goals as goal

pub returns-in-Some-clause-moved : goal.returns-in-Some-clause-moved
returns-in-Some-clause-moved g c =
    cleaned_last g.B.Block.tells.content c.args.state.now c.clean_at.new.state (place_as c.args.at) (place_as c.in-Some.next) (option_map control_at c.clean_at.result) c.in-Some.ensures.place c.clean_at.ensures.cleans

pub returns-in-None-clause-moved : goal.returns-in-None-clause-moved
returns-in-None-clause-moved g c =
    moves_as g.B.Block.tells.content c.args.state.now c.write_rounds.new.state _ _ (option_map control_at c.write_rounds.result) (none_later c.args.state.now (place_as c.args.at) c.in-None.ensures.place) c.write_rounds.ensures.moved
