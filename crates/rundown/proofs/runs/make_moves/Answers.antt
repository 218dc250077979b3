use Rattle.std.proofs.Common.{◌∙◌, Option, arith, subst}
use Rattle.std.specs.Option.{option_map}
use Rattle.pager_policy.specs.Policy.{move_of}
use Rattle.carried_landings.specs.Moved.{MovesTo}
use Rattle.rundown.specs.Cleanings.{cleaning_in, control_at}
use Rattle.rundown.specs.declared.cleaning.Cleaning.{Cleaning}
use Rattle.rundown.proofs.RunningDown.{down_answered, down_between, down_carrier, further_down, further_longer, is_over, none_yet, over_down, still_down}
use Rattle.rundown.proofs.runs.make_moves.Goals as goal

pub moves-init : goal.moves-init
moves-init g c = record { down = none_yet g.B.Block.tells.content c.args.state.now c.requires.between c.requires.answered; carrier = c.requires.carrier }

pub make_move-requires-clause-between : goal.make_move-requires-clause-between
make_move-requires-clause-between g c κs within = down_between g.B.Block.tells.content c.args.state.now c.moves.state (control_at c.moves.at) c.moves.invariant.down

pub make_move-requires-clause-answered : goal.make_move-requires-clause-answered
make_move-requires-clause-answered g c κs within = down_answered g.B.Block.tells.content c.args.state.now c.moves.state (control_at c.moves.at) c.moves.invariant.down

pub make_move-requires-clause-carrier : goal.make_move-requires-clause-carrier
make_move-requires-clause-carrier g c κs within = down_carrier g.B.Block.tells.content c.args.state.now c.moves.state (control_at c.moves.at) c.moves.invariant.down c.moves.carrier c.moves.invariant.carrier

-- ---- out of memory
pub returns-in_err-step-clause-same : goal.returns-in_err-step-clause-same
returns-in_err-step-clause-same g c =
    (still_down g.B.Block.tells.content c.args.state.now c.moves.state (control_at c.moves.at) c.moves.invariant.down c.make_move.new.state c.make_move.ensures.same c.in_err-step.ensures.none_made).same

pub returns-in_err-step-clause-between : goal.returns-in_err-step-clause-between
returns-in_err-step-clause-between g c =
    down_between g.B.Block.tells.content c.args.state.now c.make_move.new.state (control_at c.moves.at)
    (still_down g.B.Block.tells.content c.args.state.now c.moves.state (control_at c.moves.at) c.moves.invariant.down c.make_move.new.state c.make_move.ensures.same c.in_err-step.ensures.none_made)

pub returns-in_err-step-clause-answered : goal.returns-in_err-step-clause-answered
returns-in_err-step-clause-answered g c =
    down_answered g.B.Block.tells.content c.args.state.now c.make_move.new.state (control_at c.moves.at)
    (still_down g.B.Block.tells.content c.args.state.now c.moves.state (control_at c.moves.at) c.moves.invariant.down c.make_move.new.state c.make_move.ensures.same c.in_err-step.ensures.none_made)

pub returns-in_err-step-clause-right : goal.returns-in_err-step-clause-right
returns-in_err-step-clause-right g c =
    (still_down g.B.Block.tells.content c.args.state.now c.moves.state (control_at c.moves.at) c.moves.invariant.down c.make_move.new.state c.make_move.ensures.same c.in_err-step.ensures.none_made).right

-- ---- the rundown is over
pub returns-in-None-clause-same : goal.returns-in-None-clause-same
returns-in-None-clause-same g c =
    (over_down g.B.Block.tells.content c.args.state.now c.moves.state (control_at c.moves.at) c.moves.invariant.down c.make_move.new.state
    (subst (λ (o : Option Cleaning). MovesTo g.B.Block.tells.content c.moves.state c.make_move.new.state (move_of c.moves.state.config c.moves.state.past (control_at c.moves.at)) (option_map control_at o)) c.in-None.is c.in_ok-step.ensures.moved)).same

pub returns-in-None-clause-between : goal.returns-in-None-clause-between
returns-in-None-clause-between g c =
    down_between g.B.Block.tells.content c.args.state.now c.make_move.new.state (control_at c.moves.at)
    (over_down g.B.Block.tells.content c.args.state.now c.moves.state (control_at c.moves.at) c.moves.invariant.down c.make_move.new.state
    (subst (λ (o : Option Cleaning). MovesTo g.B.Block.tells.content c.moves.state c.make_move.new.state (move_of c.moves.state.config c.moves.state.past (control_at c.moves.at)) (option_map control_at o)) c.in-None.is c.in_ok-step.ensures.moved))

pub returns-in-None-clause-answered : goal.returns-in-None-clause-answered
returns-in-None-clause-answered g c =
    down_answered g.B.Block.tells.content c.args.state.now c.make_move.new.state (control_at c.moves.at)
    (over_down g.B.Block.tells.content c.args.state.now c.moves.state (control_at c.moves.at) c.moves.invariant.down c.make_move.new.state
    (subst (λ (o : Option Cleaning). MovesTo g.B.Block.tells.content c.moves.state c.make_move.new.state (move_of c.moves.state.config c.moves.state.past (control_at c.moves.at)) (option_map control_at o)) c.in-None.is c.in_ok-step.ensures.moved))

pub returns-in-None-clause-right : goal.returns-in-None-clause-right
returns-in-None-clause-right g c =
    (over_down g.B.Block.tells.content c.args.state.now c.moves.state (control_at c.moves.at) c.moves.invariant.down c.make_move.new.state
    (subst (λ (o : Option Cleaning). MovesTo g.B.Block.tells.content c.moves.state c.make_move.new.state (move_of c.moves.state.config c.moves.state.past (control_at c.moves.at)) (option_map control_at o)) c.in-None.is c.in_ok-step.ensures.moved)).right

pub returns-in-None-clause-rundown : goal.returns-in-None-clause-rundown
returns-in-None-clause-rundown g c =
    is_over g.B.Block.tells.content c.args.state.now c.moves.state (control_at c.moves.at) c.moves.invariant.down c.make_move.new.state
    (subst (λ (o : Option Cleaning). MovesTo g.B.Block.tells.content c.moves.state c.make_move.new.state (move_of c.moves.state.config c.moves.state.past (control_at c.moves.at)) (option_map control_at o)) c.in-None.is c.in_ok-step.ensures.moved)

-- ---- one move more
pub moves-preserved : goal.moves-preserved
moves-preserved g c = record {
  down =
      further_down g.B.Block.tells.content c.args.state.now c.moves.state c.make_move.new.state (cleaning_in c.moves.at) (control_at c.in-Some.next) c.moves.invariant.down
      (subst (λ (o : Option Cleaning). MovesTo g.B.Block.tells.content c.moves.state c.make_move.new.state (move_of c.moves.state.config c.moves.state.past (control_at c.moves.at)) (option_map control_at o)) c.in-Some.is c.in_ok-step.ensures.moved)
      c.run_law.ensures.run;
  carrier = c.make_move.ensures.carrier ∙ c.moves.invariant.carrier;
}

pub moves-smaller : goal.moves-smaller
moves-smaller g c =
    let longer = further_longer g.B.Block.tells.content c.args.state.now c.moves.state c.make_move.new.state (cleaning_in c.moves.at) (control_at c.in-Some.next) c.moves.invariant.down
    (subst (λ (o : Option Cleaning). MovesTo g.B.Block.tells.content c.moves.state c.make_move.new.state (move_of c.moves.state.config c.moves.state.past (control_at c.moves.at)) (option_map control_at o)) c.in-Some.is c.in_ok-step.ensures.moved) in
    let short = c.run_law.ensures.short in
    omega (arith, longer, short)
