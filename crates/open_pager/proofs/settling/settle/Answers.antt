use Rattle.std.proofs.Common.{◌∙◌, Option, arith, refl, subst}
use Rattle.carried_landings.proofs.Moving.{same_then}
use Rattle.pager_policy.specs.Policy.{move_of}
use Rattle.serial_moves.specs.Controls.{Moves, control_in}
use Rattle.serial_moves.specs.declared.control.Control.{Control}
use Rattle.serial_run.proofs.BodyRuns.{in_body, still_idle}
use Rattle.open_pager.proofs.OpenRuns.{grows, moved_there, moves_on, none_moved, stays_open, waits_there}
use Rattle.open_pager.proofs.settling.settle.Goals as goal

pub moves-init : goal.moves-init
moves-init g c = record { there = c.requires.open_there; same = refl; moved = none_moved c.args.state.now.config c.args.state.now.past (control_in c.args.at); carriers = refl }

pub make_move-requires-clause-between : goal.make_move-requires-clause-between
make_move-requires-clause-between g c κs within = c.moves.invariant.there.between

pub make_move-requires-clause-fits : goal.make_move-requires-clause-fits
make_move-requires-clause-fits g c κs within = c.moves.invariant.there.fits

pub make_move-requires-clause-carriers : goal.make_move-requires-clause-carriers
make_move-requires-clause-carriers g c κs within = still_idle c.args.state.now c.moves.state c.args.carriers.now c.moves.carriers c.moves.invariant.same c.moves.invariant.carriers c.requires.carriers

-- ---- the policy rests
pub returns-in-None-clause-same : goal.returns-in-None-clause-same
returns-in-None-clause-same g c =
    same_then c.args.state.now c.moves.state c.make_move.new.state c.moves.invariant.same
    (subst (λ (o : Option Control). Moves g.B.Block.tells.content c.moves.state c.make_move.new.state (move_of c.moves.state.config c.moves.state.past (control_in c.moves.control)) o) c.in-None.is c.in_ok-step.ensures.moved).same

pub returns-in-None-clause-moved : goal.returns-in-None-clause-moved
returns-in-None-clause-moved g c =
    moved_there c.moves.state c.make_move.new.state (control_in c.moves.control)
    (subst (λ (o : Option Control). Moves g.B.Block.tells.content c.moves.state c.make_move.new.state (move_of c.moves.state.config c.moves.state.past (control_in c.moves.control)) o) c.in-None.is c.in_ok-step.ensures.moved)
    c.args.state.now.past (control_in c.args.at) c.moves.invariant.moved

pub returns-in-None-clause-waits : goal.returns-in-None-clause-waits
returns-in-None-clause-waits g c =
    waits_there c.moves.state c.make_move.new.state (control_in c.moves.control)
    (subst (λ (o : Option Control). Moves g.B.Block.tells.content c.moves.state c.make_move.new.state (move_of c.moves.state.config c.moves.state.past (control_in c.moves.control)) o) c.in-None.is c.in_ok-step.ensures.moved)
    c.moves.invariant.there (in_body (c.moves.control).doing)

-- ---- one move more
pub moves-preserved : goal.moves-preserved
moves-preserved g c =
    let moved = subst (λ (o : Option Control). Moves g.B.Block.tells.content c.moves.state c.make_move.new.state (move_of c.moves.state.config c.moves.state.past (control_in c.moves.control)) o) c.in-Some.is c.in_ok-step.ensures.moved in
    record {
      there = stays_open g.B.Block.tells.content c.moves.state c.make_move.new.state (control_in c.moves.control) (control_in c.in-Some.next) moved c.moves.invariant.there c.run_law.ensures.run;
      same = same_then c.args.state.now c.moves.state c.make_move.new.state c.moves.invariant.same moved.same;
      moved = moves_on g.B.Block.tells.content c.moves.state c.make_move.new.state (control_in c.moves.control) (control_in c.in-Some.next) moved c.args.state.now.past (control_in c.args.at) c.moves.invariant.moved;
      carriers = c.make_move.ensures.carriers ∙ c.moves.invariant.carriers;
    }

pub moves-smaller : goal.moves-smaller
moves-smaller g c =
    let longer = grows g.B.Block.tells.content c.moves.state c.make_move.new.state (control_in c.moves.control) (control_in c.in-Some.next)
    (subst (λ (o : Option Control). Moves g.B.Block.tells.content c.moves.state c.make_move.new.state (move_of c.moves.state.config c.moves.state.past (control_in c.moves.control)) o) c.in-Some.is c.in_ok-step.ensures.moved)
    c.moves.invariant.there in
    let short = c.run_law.ensures.short in
    omega (arith, longer, short)
