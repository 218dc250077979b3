use Rattle.serial_moves.proofs.LeftProcesses.{leave_loaded, leave_may, left_carried, left_in_flight, left_more, left_no_frame, left_same, left_settled, left_written, writes_here}
use Rattle.serial_moves.proofs.SteadySeats.{has_room, may_begin, may_there}
use Rattle.serial_moves.specs.Controls.{doing_in, ends_in}
use Rattle.serial_moves.proofs.leaving.leave.Goals as goal

pub leave_some-requires-clause-idle : goal.leave_some-requires-clause-idle
leave_some-requires-clause-idle g c κs within = may_begin c.args.state.now c.requires.may.steady c.args.seat c.requires.may.there

pub carry_on-requires-clause-loaded : goal.carry_on-requires-clause-loaded
carry_on-requires-clause-loaded g c κs within =
    leave_loaded c.args.state.now _ c.args.seat (c.args.q).0 (ends_in c.args.doing) (doing_in c.args.doing) _ _ c.requires.may.steady.between
    (c.in-Carry.ensures.gives (has_room c.args.state.now c.requires.may.steady))

pub carry_on-requires-clause-may : goal.carry_on-requires-clause-may
carry_on-requires-clause-may g c κs within =
    leave_may c.args.state.now _ c.args.seat (c.args.q).0 (ends_in c.args.doing) (doing_in c.args.doing) _ _ c.requires.may.steady.between
    (c.in-Carry.ensures.gives (has_room c.args.state.now c.requires.may.steady)) c.requires.here

pub returns-in_ok-carry_on-in-Carry-clause-moved : goal.returns-in_ok-carry_on-in-Carry-clause-moved
returns-in_ok-carry_on-in-Carry-clause-moved g c =
    left_carried c.args.state.now _ c.args.seat (c.args.q).0 (ends_in c.args.doing) (doing_in c.args.doing) _ _
    (c.in-Carry.ensures.gives (has_room c.args.state.now c.requires.may.steady)) _ _ c.in_ok-carry_on-in-Carry.ensures.carried

pub returns-in-More-clause-moved : goal.returns-in-More-clause-moved
returns-in-More-clause-moved g c =
    left_more c.args.state.now _ c.args.seat (c.args.q).0 (ends_in c.args.doing) (doing_in c.args.doing) _ _
    (c.in-More.ensures.gives (has_room c.args.state.now c.requires.may.steady))

pub returns-in-More-clause-carrier : goal.returns-in-More-clause-carrier
returns-in-More-clause-carrier g c = (c.in-More.ensures.gives (has_room c.args.state.now c.requires.may.steady)).carrier

pub returns-in-Settled-clause-moved : goal.returns-in-Settled-clause-moved
returns-in-Settled-clause-moved g c =
    left_settled c.args.state.now _ c.args.seat (c.args.q).0 (ends_in c.args.doing) (doing_in c.args.doing) _ _
    (c.in-Settled.ensures.gives (has_room c.args.state.now c.requires.may.steady))

pub returns-in-Settled-clause-carrier : goal.returns-in-Settled-clause-carrier
returns-in-Settled-clause-carrier g c = (c.in-Settled.ensures.gives (has_room c.args.state.now c.requires.may.steady)).carrier

pub write_for_room-requires-clause-may : goal.write_for_room-requires-clause-may
write_for_room-requires-clause-may g c κs within =
    may_there c.args.state.now _ c.args.seat _ _
    (left_same c.args.state.now _ c.args.seat (c.args.q).0 (ends_in c.args.doing) (doing_in c.args.doing) _ _ c.in-Again.why (c.in-Again.ensures.gives (has_room c.args.state.now c.requires.may.steady)))
    (c.in-Again.ensures.gives (has_room c.args.state.now c.requires.may.steady)).carrier c.requires.may

pub write_for_room-requires-clause-here : goal.write_for_room-requires-clause-here
write_for_room-requires-clause-here g c κs within =
    writes_here c.args.state.now _ c.args.seat (c.args.q).0 (ends_in c.args.doing) (doing_in c.args.doing) _ _ c.in-Again.why (c.in-Again.ensures.gives (has_room c.args.state.now c.requires.may.steady))
    c.in-ModifiedFull.is c.requires.here

pub returns-in_ok-write_for_room-in-ModifiedFull-clause-moved : goal.returns-in_ok-write_for_room-in-ModifiedFull-clause-moved
returns-in_ok-write_for_room-in-ModifiedFull-clause-moved g c =
    left_written c.args.state.now _ c.args.seat (c.args.q).0 (ends_in c.args.doing) (doing_in c.args.doing) _ _ c.in-Again.why (c.in-Again.ensures.gives (has_room c.args.state.now c.requires.may.steady))
    c.in-ModifiedFull.is _ _ c.in_ok-write_for_room-in-ModifiedFull.ensures.moved

pub returns-in-InFlight-clause-moved : goal.returns-in-InFlight-clause-moved
returns-in-InFlight-clause-moved g c =
    left_in_flight c.args.state.now _ c.args.seat (c.args.q).0 (ends_in c.args.doing) (doing_in c.args.doing) _ _ c.in-Again.why (c.in-Again.ensures.gives (has_room c.args.state.now c.requires.may.steady)) c.in-InFlight.is

pub returns-in-InFlight-clause-carrier : goal.returns-in-InFlight-clause-carrier
returns-in-InFlight-clause-carrier g c = (c.in-Again.ensures.gives (has_room c.args.state.now c.requires.may.steady)).carrier

pub returns-in-NoFrame-clause-moved : goal.returns-in-NoFrame-clause-moved
returns-in-NoFrame-clause-moved g c =
    left_no_frame c.args.state.now _ c.args.seat (c.args.q).0 (ends_in c.args.doing) (doing_in c.args.doing) _ _ c.in-Again.why (c.in-Again.ensures.gives (has_room c.args.state.now c.requires.may.steady)) c.in-NoFrame.is

pub returns-in-NoFrame-clause-carrier : goal.returns-in-NoFrame-clause-carrier
returns-in-NoFrame-clause-carrier g c = (c.in-Again.ensures.gives (has_room c.args.state.now c.requires.may.steady)).carrier
