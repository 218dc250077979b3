use Rattle.std.proofs.Common.{◌∙◌, IfSome, Option, Some, None, subst, sym}
use Rattle.std.specs.Option.{option_map}
use Rattle.vm_types.specs.declared.config.Task.{Task}
use Rattle.vm_state.specs.History.{pager}
use Rattle.serial_moves.specs.Controls.{number_of}
use Rattle.serial_moves.specs.Requests.{IsRare, MayAskTask}
use Rattle.serial_moves.proofs.AfterAnswers.{asks_task, rests_here}
use Rattle.serial_moves.proofs.SteadySeats.{leads_as}
use Rattle.serial_moves.proofs.requests.ask_other.Goals as goal

-- ---- something is next
pub ask_rare-requires-clause-may : goal.ask_rare-requires-clause-may
ask_rare-requires-clause-may g c κs within =
    subst (λ (o : Option Task). IfSome o (λ (task : Task). MayAskTask c.args.state.now (option_map number_of c.args.leaving) task c.args.carrier.now)) (sym c.in-Some.ensures) c.requires.may

pub ask_rare-requires-clause-rare : goal.ask_rare-requires-clause-rare
ask_rare-requires-clause-rare g c κs within = λ none. subst (λ (o : Option Task). IfSome o (λ (task : Task). IsRare c.args.state.now task)) (sym c.in-Some.ensures) (c.requires.rare none)

pub returns-in-Some-clause-moved : goal.returns-in-Some-clause-moved
returns-in-Some-clause-moved g c =
    leads_as g.B.Block.tells.content c.args.state.now c.ask_rare.new.state _ _ c.ask_rare.result
    (asks_task c.args.state.now.config c.args.state.now.past (pager c.args.state.now) (option_map number_of c.args.leaving) (Some c.in-Some.task) c.in-Some.ensures) c.ask_rare.ensures.moved

-- ---- nothing is
pub returns-clause-moved : goal.returns-clause-moved
returns-clause-moved g c =
    rests_here c.args.state.now _ (asks_task c.args.state.now.config c.args.state.now.past (pager c.args.state.now) (option_map number_of c.args.leaving) None (sym c.in_default.is ∙ c.next_task.ensures))
