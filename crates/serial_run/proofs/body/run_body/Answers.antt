use Rattle.std.proofs.Common.{◌∙◌, Option, arith, refl, subst}
use Rattle.pager_policy.specs.Policy.{move_of}
use Rattle.serial_moves.specs.Controls.{Moves, control_in}
use Rattle.serial_moves.specs.declared.control.Control.{Control}
use Rattle.serial_run.proofs.BodyRuns.{at_first, goes_on, in_body, is_longer, rests_between, rests_right, rests_same, rests_there, still_idle}
use Rattle.serial_run.proofs.body.run_body.Goals as goal

pub moves-init : goal.moves-init
moves-init g c = record { way = at_first g.B.Block.tells.content c.args.state.now c.requires.first c.requires.formed c.first_control_fits.ensures.first; carriers = refl }

pub make_move-requires-clause-between : goal.make_move-requires-clause-between
make_move-requires-clause-between g c κs within = c.moves.invariant.way.between

pub make_move-requires-clause-fits : goal.make_move-requires-clause-fits
make_move-requires-clause-fits g c κs within = c.moves.invariant.way.fits

pub make_move-requires-clause-carriers : goal.make_move-requires-clause-carriers
make_move-requires-clause-carriers g c κs within = still_idle c.args.state.now c.moves.state c.args.carriers.now c.moves.carriers c.moves.invariant.way.same c.moves.invariant.carriers c.requires.carriers

-- ---- the policy rests
pub returns-in-None-clause-same : goal.returns-in-None-clause-same
returns-in-None-clause-same g c =
    rests_same g.B.Block.tells.content c.args.state.now c.moves.state c.make_move.new.state (control_in c.moves.control) c.moves.invariant.way (in_body (c.moves.control).doing)
    (subst (λ (o : Option Control). Moves g.B.Block.tells.content c.moves.state c.make_move.new.state (move_of c.moves.state.config c.moves.state.past (control_in c.moves.control)) o) c.in-None.is c.in_ok-step.ensures.moved)

pub returns-in-None-clause-between : goal.returns-in-None-clause-between
returns-in-None-clause-between g c =
    rests_between g.B.Block.tells.content c.args.state.now c.moves.state c.make_move.new.state (control_in c.moves.control) c.moves.invariant.way (in_body (c.moves.control).doing)
    (subst (λ (o : Option Control). Moves g.B.Block.tells.content c.moves.state c.make_move.new.state (move_of c.moves.state.config c.moves.state.past (control_in c.moves.control)) o) c.in-None.is c.in_ok-step.ensures.moved)

pub returns-in-None-clause-serial : goal.returns-in-None-clause-serial
returns-in-None-clause-serial g c =
    rests_there g.B.Block.tells.content c.args.state.now c.moves.state c.make_move.new.state (control_in c.moves.control) c.moves.invariant.way (in_body (c.moves.control).doing)
    (subst (λ (o : Option Control). Moves g.B.Block.tells.content c.moves.state c.make_move.new.state (move_of c.moves.state.config c.moves.state.past (control_in c.moves.control)) o) c.in-None.is c.in_ok-step.ensures.moved)

pub returns-in-None-clause-right : goal.returns-in-None-clause-right
returns-in-None-clause-right g c =
    rests_right g.B.Block.tells.content c.args.state.now c.moves.state c.make_move.new.state (control_in c.moves.control) c.moves.invariant.way (in_body (c.moves.control).doing)
    (subst (λ (o : Option Control). Moves g.B.Block.tells.content c.moves.state c.make_move.new.state (move_of c.moves.state.config c.moves.state.past (control_in c.moves.control)) o) c.in-None.is c.in_ok-step.ensures.moved)

-- ---- one move more
pub moves-preserved : goal.moves-preserved
moves-preserved g c = record {
  way =
      goes_on g.B.Block.tells.content c.args.state.now c.moves.state c.make_move.new.state (control_in c.moves.control) c.moves.invariant.way (control_in c.in-Some.next)
      (subst (λ (o : Option Control). Moves g.B.Block.tells.content c.moves.state c.make_move.new.state (move_of c.moves.state.config c.moves.state.past (control_in c.moves.control)) o) c.in-Some.is c.in_ok-step.ensures.moved)
      c.run_law.ensures.run;
  carriers = c.make_move.ensures.carriers ∙ c.moves.invariant.carriers;
}

pub moves-smaller : goal.moves-smaller
moves-smaller g c =
    let longer = is_longer g.B.Block.tells.content c.args.state.now c.moves.state c.make_move.new.state (control_in c.moves.control) c.moves.invariant.way (control_in c.in-Some.next)
    (subst (λ (o : Option Control). Moves g.B.Block.tells.content c.moves.state c.make_move.new.state (move_of c.moves.state.config c.moves.state.past (control_in c.moves.control)) o) c.in-Some.is c.in_ok-step.ensures.moved) in
    let short = c.run_law.ensures.short in
    omega (arith, longer, short)
