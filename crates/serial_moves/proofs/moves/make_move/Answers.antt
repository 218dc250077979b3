use Rattle.std.proofs.Common.{refl, subst}
use Rattle.pager_policy.specs.Policy.{move_of}
use Rattle.serial_moves.specs.Controls.{ComesTo, control_in}
use Rattle.serial_moves.proofs.IdleCarriers.{idle_then}
use Rattle.serial_moves.proofs.PreparedMoves.{config_kept, fits_then, made_by_table, moved_then, over_config, over_here, over_left, over_moved, over_steady, row_made, steady_then}
use Rattle.serial_moves.proofs.moves.make_move.Goals as goal

-- ---- the work after an answer
pub after_answer-requires-clause-steady : goal.after_answer-requires-clause-steady
after_answer-requires-clause-steady g c κs within =
    steady_then c.args.state.now c.prepare.new.state c.args.c c.requires.between c.requires.fits c.in_ok-prepare.ensures.same c.in_ok-prepare.ensures.past c.in_ok-prepare.ensures.room

pub after_answer-requires-clause-fits : goal.after_answer-requires-clause-fits
after_answer-requires-clause-fits g c κs within =
    fits_then c.args.state.now c.prepare.new.state c.args.c c.requires.between c.requires.fits c.in_ok-prepare.ensures.same c.in_ok-prepare.ensures.past

pub after_answer-requires-clause-carriers : goal.after_answer-requires-clause-carriers
after_answer-requires-clause-carriers g c κs within =
    idle_then c.args.state.now c.args.carriers.now c.requires.carriers c.prepare.new.state c.args.carriers.now
    (config_kept c.args.state.now c.prepare.new.state c.args.c c.requires.between c.requires.fits c.in_ok-prepare.ensures.same c.in_ok-prepare.ensures.past) refl

-- ---- a move of it was made
pub returns-in-Made-clause-moved : goal.returns-in-Made-clause-moved
returns-in-Made-clause-moved g c =
    moved_then c.args.state.now c.prepare.new.state c.args.c c.requires.between c.requires.fits c.in_ok-prepare.ensures.same c.in_ok-prepare.ensures.past g.B.Block.tells.content c.after_answer.new.state c.in-Made.next (subst (ComesTo g.B.Block.tells.content c.prepare.new.state c.after_answer.new.state (move_of c.prepare.new.state.config c.prepare.new.state.past (control_in c.args.c))) c.in-Made.is c.in_ok-next.ensures.comes)

pub returns-in-Made-clause-by_table : goal.returns-in-Made-clause-by_table
returns-in-Made-clause-by_table g c =
    row_made g.B.Block.tells.content c.args.state.now c.after_answer.new.state c.args.c c.in-Made.next c.requires.between
    (moved_then c.args.state.now c.prepare.new.state c.args.c c.requires.between c.requires.fits c.in_ok-prepare.ensures.same c.in_ok-prepare.ensures.past g.B.Block.tells.content c.after_answer.new.state c.in-Made.next (subst (ComesTo g.B.Block.tells.content c.prepare.new.state c.after_answer.new.state (move_of c.prepare.new.state.config c.prepare.new.state.past (control_in c.args.c))) c.in-Made.is c.in_ok-next.ensures.comes))

-- ---- or the next request follows
pub ask_next-requires-clause-steady : goal.ask_next-requires-clause-steady
ask_next-requires-clause-steady g c κs within =
    over_steady c.args.state.now c.prepare.new.state c.args.c c.requires.between c.requires.fits c.in_ok-prepare.ensures.same c.in_ok-prepare.ensures.past c.after_answer.new.state c.in-Over.leaving (subst (ComesTo g.B.Block.tells.content c.prepare.new.state c.after_answer.new.state (move_of c.prepare.new.state.config c.prepare.new.state.past (control_in c.args.c))) c.in-Over.is c.in_ok-next.ensures.comes)
    c.in_ok-prepare.ensures.room

pub ask_next-requires-clause-left : goal.ask_next-requires-clause-left
ask_next-requires-clause-left g c κs within =
    over_left c.args.state.now c.prepare.new.state c.args.c c.requires.between c.requires.fits c.in_ok-prepare.ensures.same c.in_ok-prepare.ensures.past c.after_answer.new.state c.in-Over.leaving (subst (ComesTo g.B.Block.tells.content c.prepare.new.state c.after_answer.new.state (move_of c.prepare.new.state.config c.prepare.new.state.past (control_in c.args.c))) c.in-Over.is c.in_ok-next.ensures.comes)

pub ask_next-requires-clause-carriers : goal.ask_next-requires-clause-carriers
ask_next-requires-clause-carriers g c κs within =
    idle_then c.args.state.now c.args.carriers.now c.requires.carriers c.after_answer.new.state c.after_answer.new.carriers
    (over_config c.args.state.now c.prepare.new.state c.args.c c.requires.between c.requires.fits c.in_ok-prepare.ensures.same c.in_ok-prepare.ensures.past c.after_answer.new.state c.in-Over.leaving (subst (ComesTo g.B.Block.tells.content c.prepare.new.state c.after_answer.new.state (move_of c.prepare.new.state.config c.prepare.new.state.past (control_in c.args.c))) c.in-Over.is c.in_ok-next.ensures.comes))
    c.in_ok-next.ensures.carriers

pub ask_next-requires-clause-here : goal.ask_next-requires-clause-here
ask_next-requires-clause-here g c κs within =
    over_here c.args.state.now c.prepare.new.state c.args.c c.requires.between c.requires.fits c.in_ok-prepare.ensures.same c.in_ok-prepare.ensures.past c.after_answer.new.state c.in-Over.leaving (subst (ComesTo g.B.Block.tells.content c.prepare.new.state c.after_answer.new.state (move_of c.prepare.new.state.config c.prepare.new.state.past (control_in c.args.c))) c.in-Over.is c.in_ok-next.ensures.comes)

pub returns-in-Over-clause-moved : goal.returns-in-Over-clause-moved
returns-in-Over-clause-moved g c =
    over_moved c.args.state.now c.prepare.new.state c.args.c c.requires.between c.requires.fits c.in_ok-prepare.ensures.same c.in_ok-prepare.ensures.past c.after_answer.new.state c.in-Over.leaving (subst (ComesTo g.B.Block.tells.content c.prepare.new.state c.after_answer.new.state (move_of c.prepare.new.state.config c.prepare.new.state.past (control_in c.args.c))) c.in-Over.is c.in_ok-next.ensures.comes)
    g.B.Block.tells.content c.ask_next.new.state c.ask_next.result c.ask_next.ensures.moved

pub returns-in-Over-clause-by_table : goal.returns-in-Over-clause-by_table
returns-in-Over-clause-by_table g c =
    made_by_table g.B.Block.tells.content c.args.state.now c.ask_next.new.state c.args.c c.ask_next.result c.requires.between
    (over_moved c.args.state.now c.prepare.new.state c.args.c c.requires.between c.requires.fits c.in_ok-prepare.ensures.same c.in_ok-prepare.ensures.past c.after_answer.new.state c.in-Over.leaving (subst (ComesTo g.B.Block.tells.content c.prepare.new.state c.after_answer.new.state (move_of c.prepare.new.state.config c.prepare.new.state.past (control_in c.args.c))) c.in-Over.is c.in_ok-next.ensures.comes)
    g.B.Block.tells.content c.ask_next.new.state c.ask_next.result c.ask_next.ensures.moved)
