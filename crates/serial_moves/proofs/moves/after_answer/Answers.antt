use Rattle.serial_moves.specs.declared.control.Doing.TheVariants.{Freeing, Saving}
use Rattle.serial_moves.proofs.PreparedMoves.{comes_at, here_at, left_at, over_asking, process_at}
use Rattle.serial_moves.proofs.moves.after_answer.Goals as goal

-- ---- at the next request
pub returns-in-Asking-clause-comes : goal.returns-in-Asking-clause-comes
returns-in-Asking-clause-comes g c = over_asking c.args.state.now c.args.c c.requires.fits c.in-Asking.is

-- ---- in the writer's part
pub save-requires-clause-may : goal.save-requires-clause-may
save-requires-clause-may g c κs within = record {
  steady = c.requires.steady;
  process = process_at c.args.state.now c.args.c c.requires.fits (Saving c.in-Saving.begun c.in-Saving.process) c.in-Saving.is;
  carriers = c.requires.carriers;
}

pub save-requires-clause-here : goal.save-requires-clause-here
save-requires-clause-here g c κs within = here_at c.args.state.now c.args.c c.requires.fits (Saving c.in-Saving.begun c.in-Saving.process) c.in-Saving.is

pub returns-in-Saving-clause-comes : goal.returns-in-Saving-clause-comes
returns-in-Saving-clause-comes g c =
    comes_at c.args.state.now c.args.c c.requires.fits g.B.Block.tells.content c.save.new.state c.save.result (Saving c.in-Saving.begun c.in-Saving.process) c.in-Saving.is c.save.ensures.comes

-- ---- in the swapper's part
pub free-requires-clause-may : goal.free-requires-clause-may
free-requires-clause-may g c κs within = record {
  steady = c.requires.steady;
  process = process_at c.args.state.now c.args.c c.requires.fits (Freeing c.in-Freeing.begun c.in-Freeing.process) c.in-Freeing.is;
  carriers = c.requires.carriers;
}

pub free-requires-clause-left : goal.free-requires-clause-left
free-requires-clause-left g c κs within = left_at c.args.state.now c.args.c c.requires.fits

pub free-requires-clause-here : goal.free-requires-clause-here
free-requires-clause-here g c κs within = here_at c.args.state.now c.args.c c.requires.fits (Freeing c.in-Freeing.begun c.in-Freeing.process) c.in-Freeing.is

pub returns-in-Freeing-clause-comes : goal.returns-in-Freeing-clause-comes
returns-in-Freeing-clause-comes g c =
    comes_at c.args.state.now c.args.c c.requires.fits g.B.Block.tells.content c.free.new.state c.free.result (Freeing c.in-Freeing.begun c.in-Freeing.process) c.in-Freeing.is c.free.ensures.comes
