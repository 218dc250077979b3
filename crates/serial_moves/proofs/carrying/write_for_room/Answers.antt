use Rattle.std.proofs.lemmas.Result.{IfOk-weaker}
use Rattle.pager_policy.specs.Policy.{unless_all_failed, writing_move}
use Rattle.vm_state.specs.History.{pager}
use Rattle.carried_landings.specs.CarriedOn.{IsCarriedOn}
use Rattle.carried_landings.specs.Moved.{IsMoved}
use Rattle.carried_landings.proofs.WrittenClusters.{write_loaded, write_may, write_moved}
use Rattle.serial_moves.specs.Controls.{control_in, ends_in}
use Rattle.serial_moves.specs.declared.control.Control.{Control}
use Rattle.serial_moves.proofs.SteadySeats.{has_room, may_begin}
use Rattle.serial_moves.proofs.carrying.write_for_room.Goals as goal

pub begin-requires-clause-idle : goal.begin-requires-clause-idle
begin-requires-clause-idle g c κs within = may_begin c.args.state.now c.requires.may.steady c.args.seat c.requires.may.there

pub carry_on-requires-clause-loaded : goal.carry_on-requires-clause-loaded
carry_on-requires-clause-loaded g c κs within =
    write_loaded c.args.state.now c.begin.new.state c.args.seat (ends_in (c.args.next).doing) (control_in c.args.next) c.begin.result c.args.carrier.now c.begin.new.carrier c.requires.may.steady c.requires.may.carrier
    (c.begin.ensures.gives (has_room c.args.state.now c.requires.may.steady))

pub carry_on-requires-clause-may : goal.carry_on-requires-clause-may
carry_on-requires-clause-may g c κs within =
    write_may c.args.state.now c.begin.new.state c.args.seat (ends_in (c.args.next).doing) (control_in c.args.next) c.begin.result c.args.carrier.now c.begin.new.carrier c.requires.may.steady c.requires.may.carrier
    (c.begin.ensures.gives (has_room c.args.state.now c.requires.may.steady)) c.requires.here

pub returns-clause-moved : goal.returns-clause-moved
returns-clause-moved g c =
    IfOk-weaker c.carry_on.result
    (λ (x : Control). IsCarriedOn g.B.Block.tells.content c.begin.new.state c.carry_on.new.state (c.args.seat).0 (unless_all_failed (ends_in (c.args.next).doing) (control_in c.args.next)) (control_in x))
    (λ (x : Control). IsMoved g.B.Block.tells.content c.args.state.now c.carry_on.new.state (writing_move c.args.state.now.config (pager c.args.state.now) (c.args.seat).0 (ends_in (c.args.next).doing) (control_in c.args.next)) (control_in x))
    (λ x carried.
    write_moved c.args.state.now c.begin.new.state c.args.seat (ends_in (c.args.next).doing) (control_in c.args.next) c.begin.result c.args.carrier.now c.begin.new.carrier c.requires.may.steady c.requires.may.carrier
    (c.begin.ensures.gives (has_room c.args.state.now c.requires.may.steady)) c.carry_on.new.state (control_in x) carried)
    c.carry_on.ensures.carried
