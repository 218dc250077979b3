use Rattle.std.proofs.Common.{IfSome, Option, ap, subst}
use Rattle.std.specs.Option.{option_map}
use Rattle.vm_types.specs.declared.names.Proc.{Proc}
use Rattle.vm_state.specs.History.{pager}
use Rattle.serial_laws.specs.Controlled.{IsLeft}
use Rattle.serial_moves.specs.Controls.{number_of}
use Rattle.serial_moves.specs.Requests.{MayAskTask, asked_for}
use Rattle.serial_moves.proofs.SteadySeats.{here_as, leads_as}
use Rattle.serial_moves.proofs.requests.ask_rare.Goals as goal

-- ---- a process is left
pub leave-requires-clause-may : goal.leave-requires-clause-may
leave-requires-clause-may g c κs within = c.requires.may.may

pub leave-requires-clause-process : goal.leave-requires-clause-process
leave-requires-clause-process g c κs within = (subst (λ (o : Option Proc). IfSome (option_map number_of o) (IsLeft c.args.state.now.config (pager c.args.state.now))) c.in-Some.is c.requires.may.left).0

pub leave-requires-clause-leaving : goal.leave-requires-clause-leaving
leave-requires-clause-leaving g c κs within = (subst (λ (o : Option Proc). IfSome (option_map number_of o) (IsLeft c.args.state.now.config (pager c.args.state.now))) c.in-Some.is c.requires.may.left).1

pub leave-requires-clause-here : goal.leave-requires-clause-here
leave-requires-clause-here g c κs within = here_as c.args.state.now _ _ (ap (λ (o : Option Proc). asked_for c.args.state.now (option_map number_of o) c.args.task) c.in-Some.is) c.requires.may.here

pub returns-in-Some-clause-moved : goal.returns-in-Some-clause-moved
returns-in-Some-clause-moved g c = leads_as g.B.Block.tells.content c.args.state.now c.leave.new.state _ _ c.leave.result (ap (λ (o : Option Proc). asked_for c.args.state.now (option_map number_of o) c.args.task) c.in-Some.is) c.leave.ensures.moved

-- ---- none is
pub by_status-requires-clause-may : goal.by_status-requires-clause-may
by_status-requires-clause-may g c κs within = subst (λ (o : Option Proc). MayAskTask c.args.state.now (option_map number_of o) c.args.task c.args.carrier.now) c.in-None.is c.requires.may

pub by_status-requires-clause-rare : goal.by_status-requires-clause-rare
by_status-requires-clause-rare g c κs within = c.requires.rare c.in-None.is

pub returns-in-None-clause-moved : goal.returns-in-None-clause-moved
returns-in-None-clause-moved g c = leads_as g.B.Block.tells.content c.args.state.now c.by_status.new.state _ _ c.by_status.result (ap (λ (o : Option Proc). asked_for c.args.state.now (option_map number_of o) c.args.task) c.in-None.is) c.by_status.ensures.moved
