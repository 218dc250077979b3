use Rattle.std.proofs.Common.{◌∙◌, Some, None, sym}
use Rattle.std.specs.Option.{option_map}
use Rattle.vm_state.specs.History.{pager}
use Rattle.serial_laws.proofs.Walks.{task_formed}
use Rattle.serial_laws.specs.Controlled.{IsLeft}
use Rattle.serial_moves.specs.Controls.{number_of}
use Rattle.serial_moves.proofs.AfterAnswers.{asks_task, here_as, moved_as, rests_here, task_seat}
use Rattle.serial_moves.proofs.IdleCarriers.{carrier_there, empty_at, kept_at}
use Rattle.serial_moves.proofs.AskedMoves.{left_number}
use Rattle.serial_moves.proofs.answers.ask_next.Goals as goal

pub bounds-carriers-task : goal.bounds-carriers-task
bounds-carriers-task g c =
    carrier_there c.args.state.now c.args.carriers.now c.requires.carriers (c.in-Some.task.proc).0 (task_seat c.args.state.now c.in-Some.task c.requires.steady (sym c.in-Some.ensures))

pub ask-requires-clause-may : goal.ask-requires-clause-may
ask-requires-clause-may g c κs within =
    let of = task_formed c.args.state.now.config c.args.state.now.past c.in-Some.task c.requires.steady.between.formed (sym c.in-Some.ensures) in
    let there = task_seat c.args.state.now c.in-Some.task c.requires.steady (sym c.in-Some.ensures) in
    record {
      next = sym c.in-Some.ensures;
      may = record { steady = c.requires.steady; there = there; carrier = empty_at c.args.state.now c.args.carriers.now c.requires.carriers (c.in-Some.task.proc).0 c.index-carriers-task.result there };
      process = of.0;
      formed = of.1;
      known = of.2;
      left = left_number (IsLeft c.args.state.now.config (pager c.args.state.now)) c.args.leaving c.requires.left;
      here = here_as c.args.state.now _ _ (asks_task c.args.state.now.config c.args.state.now.past (pager c.args.state.now) (option_map number_of c.args.leaving) (Some c.in-Some.task) c.in-Some.ensures) c.requires.here;
    }

pub returns-in-Some-clause-carriers : goal.returns-in-Some-clause-carriers
returns-in-Some-clause-carriers g c = kept_at c.args.state.now c.args.carriers.now c.requires.carriers (c.in-Some.task.proc).0 c.index-carriers-task.result c.ask.new.carrier c.ask.ensures.carrier

pub returns-in-Some-clause-moved : goal.returns-in-Some-clause-moved
returns-in-Some-clause-moved g c =
    moved_as g.B.Block.tells.content c.args.state.now c.ask.new.state _ _ c.ask.result
    (asks_task c.args.state.now.config c.args.state.now.past (pager c.args.state.now) (option_map number_of c.args.leaving) (Some c.in-Some.task) c.in-Some.ensures) c.ask.ensures.moved

pub returns-clause-moved : goal.returns-clause-moved
returns-clause-moved g c =
    rests_here c.args.state.now _ (asks_task c.args.state.now.config c.args.state.now.past (pager c.args.state.now) (option_map number_of c.args.leaving) None (sym c.in_default.is ∙ c.next_task.ensures))
