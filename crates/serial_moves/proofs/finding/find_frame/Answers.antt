use Rattle.std.proofs.Common.{sym, subst}
use Rattle.vm_types.specs.declared.names.ProcStatus.TheVariants as status
use Rattle.pager_policy.specs.Moves.{while_leaving}
use Rattle.vm_state.specs.History.{pager}
use Rattle.carried_landings.specs.Moved.{IsMoved}
use Rattle.serial_moves.specs.Controls.{control_in, doing_in, ends_in}
use Rattle.serial_moves.specs.Finders.{IsFinder, finding_by}
use Rattle.serial_moves.specs.declared.finding.Finder.{Finder}
use Rattle.serial_moves.proofs.AfterAnswers.{here_as, moved_as}
use Rattle.serial_moves.proofs.FoundFrames.{finds_as, may_turn, turn_moved}
use Rattle.serial_moves.proofs.finding.find_frame.Goals as goal

pub write_for_room-requires-clause-here : goal.write_for_room-requires-clause-here
write_for_room-requires-clause-here g c κs within = here_as c.args.state.now _ _ (finds_as c.args.state.now (c.args.seat).0 (ends_in c.args.doing) (doing_in c.args.doing) _ _ c.in-Writer.is) c.requires.here

pub leave-requires-clause-process : goal.leave-requires-clause-process
leave-requires-clause-process g c κs within = (subst (λ (f : Finder). IsFinder c.args.state.now f) c.in-Leaving.is c.requires.there).0

pub leave-requires-clause-leaving : goal.leave-requires-clause-leaving
leave-requires-clause-leaving g c κs within = (subst (λ (f : Finder). IsFinder c.args.state.now f) c.in-Leaving.is c.requires.there).1

pub leave-requires-clause-here : goal.leave-requires-clause-here
leave-requires-clause-here g c κs within = here_as c.args.state.now _ _ (finds_as c.args.state.now (c.args.seat).0 (ends_in c.args.doing) (doing_in c.args.doing) _ _ c.in-Leaving.is) c.requires.here

pub turn-requires-after_bounds : goal.turn-requires-after_bounds
turn-requires-after_bounds g c κs within =
    may_turn c.args.state.now c.args.seat c.in-Victim.q status.Leaving (while_leaving (doing_in c.args.doing) (c.in-Victim.q).0) c.requires.may.steady
    (here_as c.args.state.now _ _ (finds_as c.args.state.now (c.args.seat).0 (ends_in c.args.doing) (doing_in c.args.doing) _ _ c.in-Victim.is) c.requires.here)

pub returns-in_ok-write_for_room-in-Writer-clause-moved : goal.returns-in_ok-write_for_room-in-Writer-clause-moved
returns-in_ok-write_for_room-in-Writer-clause-moved g c =
    subst (λ (f : Finder). IsMoved g.B.Block.tells.content c.args.state.now c.write_for_room.new.state (finding_by c.args.state.now.config c.args.state.now.past (pager c.args.state.now) (c.args.seat).0 (ends_in c.args.doing) (doing_in c.args.doing) f) (control_in c.in_ok-write_for_room-in-Writer.field-0))
    (sym c.in-Writer.is) c.in_ok-write_for_room-in-Writer.ensures.moved

pub returns-in-Leaving-clause-moved : goal.returns-in-Leaving-clause-moved
returns-in-Leaving-clause-moved g c =
    moved_as g.B.Block.tells.content c.args.state.now c.leave.new.state _ _ c.leave.result (finds_as c.args.state.now (c.args.seat).0 (ends_in c.args.doing) (doing_in c.args.doing) _ _ c.in-Leaving.is) c.leave.ensures.moved

pub returns-in-Victim-clause-moved : goal.returns-in-Victim-clause-moved
returns-in-Victim-clause-moved g c =
    subst (λ (f : Finder). IsMoved g.B.Block.tells.content c.args.state.now c.turn.new.self (finding_by c.args.state.now.config c.args.state.now.past (pager c.args.state.now) (c.args.seat).0 (ends_in c.args.doing) (doing_in c.args.doing) f) (while_leaving (doing_in c.args.doing) (c.in-Victim.q).0))
    (sym c.in-Victim.is)
    (turn_moved c.args.state.now c.args.seat c.in-Victim.q status.Leaving (while_leaving (doing_in c.args.doing) (c.in-Victim.q).0) g.B.Block.tells.content c.turn.new.self c.turn.ensures)
