use Rattle.std.proofs.Common.{ap, sym}
use Rattle.vm_types.specs.declared.names.ProcStatus.TheVariants as status
use Rattle.pager_policy.specs.Moves.{asking, control, while_leaving}
use Rattle.pager_policy.specs.Policy.{gone_move}
use Rattle.serial_moves.proofs.TurnedMoves.{may_turn, turned_moved}
use Rattle.serial_moves.proofs.requests.gone.Goals as goal

pub turn-requires-after_bounds : goal.turn-requires-after_bounds
turn-requires-after_bounds g c κs within =
    may_turn c.args.state.now c.args.seat c.in-Some.q status.Leaving _ (while_leaving asking (c.in-Some.q).0) (ap (gone_move (c.args.seat).0) (sym c.in-Some.ensures)) c.requires.steady c.requires.here

pub turn-requires-in-None-after_bounds : goal.turn-requires-in-None-after_bounds
turn-requires-in-None-after_bounds g c κs within =
    may_turn c.args.state.now c.args.seat (record { 0 = (c.args.seat).0 }) status.Coming _ (control asking) (ap (gone_move (c.args.seat).0) (sym c.in-None.ensures)) c.requires.steady c.requires.here

pub returns-in-Some : goal.returns-in-Some
returns-in-Some g c =
    turned_moved c.args.state.now c.args.seat c.in-Some.q status.Leaving _ (while_leaving asking (c.in-Some.q).0) (ap (gone_move (c.args.seat).0) (sym c.in-Some.ensures)) g.B.Block.tells.content c.turn.new.self c.turn.ensures

pub returns-in-None : goal.returns-in-None
returns-in-None g c =
    turned_moved c.args.state.now c.args.seat (record { 0 = (c.args.seat).0 }) status.Coming _ (control asking) (ap (gone_move (c.args.seat).0) (sym c.in-None.ensures)) g.B.Block.tells.content c.turn-in-None.new.self c.turn-in-None.ensures
