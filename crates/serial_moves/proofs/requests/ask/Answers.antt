use Rattle.std.proofs.Common.{IfSome, Option, Some, refl, subst, sym}
use Rattle.std.specs.Option.{option_map}
use Rattle.vm_types.specs.declared.config.Task.{Task}
use Rattle.vm_types.specs.WellFormed.{IsWellFormedRequest}
use Rattle.vm_types.specs.declared.service.Request.{Request}
use Rattle.vm_state.specs.History.{pager}
use Rattle.serial_moves.specs.Controls.{number_of}
use Rattle.serial_moves.specs.Requests.{IsRare, MayAskTask}
use Rattle.serial_moves.proofs.AfterAnswers.{asks_task}
use Rattle.serial_moves.proofs.AskedMoves.{asked_resident}
use Rattle.serial_moves.proofs.SteadySeats.{here_as, leads_as}
use Rattle.serial_moves.proofs.requests.ask.Goals as goal

-- ---- a reference of a resident process
pub refer-requires-clause-may : goal.refer-requires-clause-may
refer-requires-clause-may g c κs within = c.requires.may.may

pub refer-requires-clause-process : goal.refer-requires-clause-process
refer-requires-clause-process g c κs within = c.requires.may.process

pub refer-requires-clause-formed : goal.refer-requires-clause-formed
refer-requires-clause-formed g c κs within = subst (λ (x : Request). IsWellFormedRequest x) c.in-Some.ensures.some.asked c.requires.may.formed

pub refer-requires-clause-here : goal.refer-requires-clause-here
refer-requires-clause-here g c κs within = here_as c.args.state.now _ _ (asked_resident c.args.state.now c.args.leaving c.args.task c.in-Some.r c.in-Some.ensures.some) c.requires.may.here

pub returns-in-Some-clause-moved : goal.returns-in-Some-clause-moved
returns-in-Some-clause-moved g c =
    leads_as g.B.Block.tells.content c.args.state.now c.refer.new.state _ _ c.refer.result (asked_resident c.args.state.now c.args.leaving c.args.task c.in-Some.r c.in-Some.ensures.some) c.refer.ensures.moved

-- ---- another request
pub ask_other-requires-clause-may : goal.ask_other-requires-clause-may
ask_other-requires-clause-may g c κs within =
    subst (λ (o : Option Task). IfSome o (λ (task : Task). MayAskTask c.args.state.now (option_map number_of c.args.leaving) task c.args.carrier.now)) (sym c.requires.may.next) c.requires.may

pub ask_other-requires-clause-rare : goal.ask_other-requires-clause-rare
ask_other-requires-clause-rare g c κs within = λ none. subst (λ (o : Option Task). IfSome o (λ (task : Task). IsRare c.args.state.now task)) (sym c.requires.may.next) (c.in-None.ensures.none refl none)

pub returns-in-None-clause-moved : goal.returns-in-None-clause-moved
returns-in-None-clause-moved g c =
    leads_as g.B.Block.tells.content c.args.state.now c.ask_other.new.state _ _ c.ask_other.result
    (sym (asks_task c.args.state.now.config c.args.state.now.past (pager c.args.state.now) (option_map number_of c.args.leaving) (Some c.args.task) (sym c.requires.may.next))) c.ask_other.ensures.moved
