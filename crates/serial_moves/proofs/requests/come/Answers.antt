use Rattle.std.proofs.Common.{◌∙◌, arith, refl}
use Rattle.serial_moves.specs.Requests.{finding_for}
use Rattle.vm_state.specs.History.{History}
use Rattle.serial_moves.proofs.CameProcesses.{come_carried, come_finds, come_loaded, come_may, come_more, come_rests, come_same, come_settled}
use Rattle.serial_moves.proofs.SteadySeats.{goes_there, has_room, here_there, may_begin, never_short, may_there}
use Rattle.serial_moves.proofs.requests.come.Goals as goal

pub come_some-requires-clause-idle : goal.come_some-requires-clause-idle
come_some-requires-clause-idle g c κs within = may_begin c.args.state.now c.requires.may.steady c.args.seat (let process = c.requires.process in omega (arith, process))

-- ---- transfers were begun
pub carry_on-requires-clause-loaded : goal.carry_on-requires-clause-loaded
carry_on-requires-clause-loaded g c κs within =
    come_loaded c.args.state.now c.come_some.new.state c.args.seat (c.in-Carry.ensures.gives (has_room c.args.state.now c.requires.may.steady)) c.requires.may.steady

pub carry_on-requires-clause-may : goal.carry_on-requires-clause-may
carry_on-requires-clause-may g c κs within =
    come_may c.args.state.now c.come_some.new.state c.args.seat (c.in-Carry.ensures.gives (has_room c.args.state.now c.requires.may.steady)) c.requires.may.steady c.requires.here

pub returns-in_ok-carry_on-in-Carry-clause-moved : goal.returns-in_ok-carry_on-in-Carry-clause-moved
returns-in_ok-carry_on-in-Carry-clause-moved g c =
    come_carried c.args.state.now c.come_some.new.state c.args.seat (c.in-Carry.ensures.gives (has_room c.args.state.now c.requires.may.steady)) c.carry_on.new.state _ c.in_ok-carry_on-in-Carry.ensures.carried

-- ---- an entry was made
pub returns-in-More-clause-carrier : goal.returns-in-More-clause-carrier
returns-in-More-clause-carrier g c = (c.in-More.ensures.gives (has_room c.args.state.now c.requires.may.steady)).carrier

pub returns-in-More-clause-moved : goal.returns-in-More-clause-moved
returns-in-More-clause-moved g c = come_more c.args.state.now c.come_some.new.state c.args.seat (c.in-More.ensures.gives (has_room c.args.state.now c.requires.may.steady))

pub returns-in-Settled-clause-carrier : goal.returns-in-Settled-clause-carrier
returns-in-Settled-clause-carrier g c = (c.in-Settled.ensures.gives (has_room c.args.state.now c.requires.may.steady)).carrier

pub returns-in-Settled-clause-moved : goal.returns-in-Settled-clause-moved
returns-in-Settled-clause-moved g c = come_settled c.args.state.now c.come_some.new.state c.args.seat (c.in-Settled.ensures.gives (has_room c.args.state.now c.requires.may.steady))

-- ---- there is no frame
pub find_for_request-requires-clause-may : goal.find_for_request-requires-clause-may
find_for_request-requires-clause-may g c κs within =
    may_there c.args.state.now c.come_some.new.state c.args.seat c.args.carrier.now c.come_some.new.carrier (come_same c.args.state.now c.come_some.new.state c.args.seat c.in-Again.why (c.in-Again.ensures.gives (has_room c.args.state.now c.requires.may.steady))) (c.in-Again.ensures.gives (has_room c.args.state.now c.requires.may.steady)).carrier c.requires.may

pub find_for_request-requires-clause-here : goal.find_for_request-requires-clause-here
find_for_request-requires-clause-here g c κs within =
    here_there c.args.state.now c.come_some.new.state (come_same c.args.state.now c.come_some.new.state c.args.seat c.in-Again.why (c.in-Again.ensures.gives (has_room c.args.state.now c.requires.may.steady))) _ (λ (x : History). finding_for x (c.args.seat).0)
    (come_finds c.args.state.now c.come_some.new.state c.args.seat c.in-Again.why c.in-NoFrame.is (c.in-Again.ensures.gives (has_room c.args.state.now c.requires.may.steady))) c.requires.here

pub returns-in-NoFrame-clause-carrier : goal.returns-in-NoFrame-clause-carrier
returns-in-NoFrame-clause-carrier g c = c.find_for_request.ensures.carrier ∙ (c.in-Again.ensures.gives (has_room c.args.state.now c.requires.may.steady)).carrier

pub returns-in-NoFrame-clause-moved : goal.returns-in-NoFrame-clause-moved
returns-in-NoFrame-clause-moved g c =
    goes_there c.args.state.now c.come_some.new.state (come_same c.args.state.now c.come_some.new.state c.args.seat c.in-Again.why (c.in-Again.ensures.gives (has_room c.args.state.now c.requires.may.steady))) _ (λ (x : History). finding_for x (c.args.seat).0)
    (come_finds c.args.state.now c.come_some.new.state c.args.seat c.in-Again.why c.in-NoFrame.is (c.in-Again.ensures.gives (has_room c.args.state.now c.requires.may.steady))) g.B.Block.tells.content c.find_for_request.new.state c.find_for_request.result
    c.find_for_request.ensures.moved

-- ---- it waits
pub returns-in-InFlight-clause-carrier : goal.returns-in-InFlight-clause-carrier
returns-in-InFlight-clause-carrier g c = (c.in-Again.ensures.gives (has_room c.args.state.now c.requires.may.steady)).carrier

pub returns-in-InFlight-clause-moved : goal.returns-in-InFlight-clause-moved
returns-in-InFlight-clause-moved g c =
    come_rests c.args.state.now c.come_some.new.state c.args.seat c.in-Again.why (λ frame. let is = c.in-InFlight.is in cc) (c.in-Again.ensures.gives (has_room c.args.state.now c.requires.may.steady))

pub returns-in-ModifiedFull-clause-carrier : goal.returns-in-ModifiedFull-clause-carrier
returns-in-ModifiedFull-clause-carrier g c = (c.in-Again.ensures.gives (has_room c.args.state.now c.requires.may.steady)).carrier

pub returns-in-ModifiedFull-clause-moved : goal.returns-in-ModifiedFull-clause-moved
returns-in-ModifiedFull-clause-moved g c =
    come_rests c.args.state.now c.come_some.new.state c.args.seat c.in-Again.why (λ frame. let is = c.in-ModifiedFull.is in cc) (c.in-Again.ensures.gives (has_room c.args.state.now c.requires.may.steady))

pub unreachable-requires : goal.unreachable-requires
unreachable-requires g c = never_short c.args.state.now c.requires.may.steady (c.in-Room.ensures.room.0 refl)
