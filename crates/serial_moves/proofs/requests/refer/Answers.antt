use Rattle.std.proofs.Common.{◌∙◌, refl}
use Rattle.pager_policy.specs.Moves.{asking, control}
use Rattle.pager_policy.specs.Policy.{ends_request, writing_move}
use Rattle.vm_state.specs.History.{History, pager}
use Rattle.serial_moves.specs.Requests.{finding_for}
use Rattle.serial_moves.proofs.ReferenceMoves.{advance_answered, advance_carried, advance_finds, advance_loaded, advance_may, advance_more, advance_rests, advance_same, advance_writes}
use Rattle.serial_moves.proofs.SteadySeats.{goes_there, has_room, here_there, idle_seat, may_there, moved_there, never_short}
use Rattle.serial_moves.proofs.requests.refer.Goals as goal

pub advance-requires-clause-idle : goal.advance-requires-clause-idle
advance-requires-clause-idle g c κs within = idle_seat c.args.state.now c.requires.may.steady c.args.seat c.requires.process

-- ---- it is answered
pub returns-in-Answered-clause-carrier : goal.returns-in-Answered-clause-carrier
returns-in-Answered-clause-carrier g c = (c.in-Answered.ensures.gives (has_room c.args.state.now c.requires.may.steady)).carrier

pub returns-in-Answered-clause-moved : goal.returns-in-Answered-clause-moved
returns-in-Answered-clause-moved g c = advance_answered c.args.state.now c.advance.new.state c.args.seat c.args.r (c.args.seat).0 refl c.in-Answered.field-0 _ (c.in-Answered.ensures.gives (has_room c.args.state.now c.requires.may.steady)) c.answered.ensures

-- ---- reads were begun
pub carry_reads-requires-clause-loaded : goal.carry_reads-requires-clause-loaded
carry_reads-requires-clause-loaded g c κs within = advance_loaded c.args.state.now c.advance.new.state c.args.seat c.args.r (c.args.seat).0 refl (c.in-Carry.ensures.gives (has_room c.args.state.now c.requires.may.steady)) c.requires.may.steady

pub carry_reads-requires-clause-may : goal.carry_reads-requires-clause-may
carry_reads-requires-clause-may g c κs within = advance_may c.args.state.now c.advance.new.state c.args.seat c.args.r (c.args.seat).0 refl (c.in-Carry.ensures.gives (has_room c.args.state.now c.requires.may.steady)) c.requires.may.steady c.requires.here

pub returns-in-Carry-clause-moved : goal.returns-in-Carry-clause-moved
returns-in-Carry-clause-moved g c = advance_carried c.args.state.now c.advance.new.state c.args.seat c.args.r (c.args.seat).0 refl (c.in-Carry.ensures.gives (has_room c.args.state.now c.requires.may.steady)) c.carry_reads.new.state _ c.in_ok-carry_reads-in-Carry.ensures.carried

-- ---- an entry was made
pub returns-in-More-clause-carrier : goal.returns-in-More-clause-carrier
returns-in-More-clause-carrier g c = (c.in-More.ensures.gives (has_room c.args.state.now c.requires.may.steady)).carrier

pub returns-in-More-clause-moved : goal.returns-in-More-clause-moved
returns-in-More-clause-moved g c = advance_more c.args.state.now c.advance.new.state c.args.seat c.args.r (c.args.seat).0 refl (c.in-More.ensures.gives (has_room c.args.state.now c.requires.may.steady))

-- ---- the modified list is full
pub write_for_room-requires-clause-may : goal.write_for_room-requires-clause-may
write_for_room-requires-clause-may g c κs within =
    may_there c.args.state.now c.advance.new.state c.args.seat c.args.carrier.now c.advance.new.carrier (advance_same c.args.state.now c.advance.new.state c.args.seat c.args.r (c.args.seat).0 refl c.in-Again.why (c.in-Again.ensures.gives (has_room c.args.state.now c.requires.may.steady))) (c.in-Again.ensures.gives (has_room c.args.state.now c.requires.may.steady)).carrier c.requires.may

pub write_for_room-requires-clause-here : goal.write_for_room-requires-clause-here
write_for_room-requires-clause-here g c κs within =
    here_there c.args.state.now c.advance.new.state (advance_same c.args.state.now c.advance.new.state c.args.seat c.args.r (c.args.seat).0 refl c.in-Again.why (c.in-Again.ensures.gives (has_room c.args.state.now c.requires.may.steady))) _ (λ (x : History). writing_move x.config (pager x) (c.args.seat).0 ends_request (control asking))
    (advance_writes c.args.state.now c.advance.new.state c.args.seat c.args.r (c.args.seat).0 refl c.in-Again.why (c.in-Again.ensures.gives (has_room c.args.state.now c.requires.may.steady)) c.in-ModifiedFull.is) c.requires.here

pub returns-in-ModifiedFull-clause-moved : goal.returns-in-ModifiedFull-clause-moved
returns-in-ModifiedFull-clause-moved g c =
    moved_there c.args.state.now c.advance.new.state (advance_same c.args.state.now c.advance.new.state c.args.seat c.args.r (c.args.seat).0 refl c.in-Again.why (c.in-Again.ensures.gives (has_room c.args.state.now c.requires.may.steady))) _ (λ (x : History). writing_move x.config (pager x) (c.args.seat).0 ends_request (control asking))
    (advance_writes c.args.state.now c.advance.new.state c.args.seat c.args.r (c.args.seat).0 refl c.in-Again.why (c.in-Again.ensures.gives (has_room c.args.state.now c.requires.may.steady)) c.in-ModifiedFull.is) g.B.Block.tells.content c.write_for_room.new.state _ c.in_ok-write_for_room-in-ModifiedFull.ensures.moved

-- ---- there is no frame
pub find_for_request-requires-clause-may : goal.find_for_request-requires-clause-may
find_for_request-requires-clause-may g c κs within =
    may_there c.args.state.now c.advance.new.state c.args.seat c.args.carrier.now c.advance.new.carrier (advance_same c.args.state.now c.advance.new.state c.args.seat c.args.r (c.args.seat).0 refl c.in-Again.why (c.in-Again.ensures.gives (has_room c.args.state.now c.requires.may.steady))) (c.in-Again.ensures.gives (has_room c.args.state.now c.requires.may.steady)).carrier c.requires.may

pub find_for_request-requires-clause-here : goal.find_for_request-requires-clause-here
find_for_request-requires-clause-here g c κs within =
    here_there c.args.state.now c.advance.new.state (advance_same c.args.state.now c.advance.new.state c.args.seat c.args.r (c.args.seat).0 refl c.in-Again.why (c.in-Again.ensures.gives (has_room c.args.state.now c.requires.may.steady))) _ (λ (x : History). finding_for x (c.args.seat).0) (advance_finds c.args.state.now c.advance.new.state c.args.seat c.args.r (c.args.seat).0 refl c.in-Again.why (c.in-Again.ensures.gives (has_room c.args.state.now c.requires.may.steady)) c.in-NoFrame.is) c.requires.here

pub returns-in-NoFrame-clause-carrier : goal.returns-in-NoFrame-clause-carrier
returns-in-NoFrame-clause-carrier g c = c.find_for_request.ensures.carrier ∙ (c.in-Again.ensures.gives (has_room c.args.state.now c.requires.may.steady)).carrier

pub returns-in-NoFrame-clause-moved : goal.returns-in-NoFrame-clause-moved
returns-in-NoFrame-clause-moved g c =
    goes_there c.args.state.now c.advance.new.state (advance_same c.args.state.now c.advance.new.state c.args.seat c.args.r (c.args.seat).0 refl c.in-Again.why (c.in-Again.ensures.gives (has_room c.args.state.now c.requires.may.steady))) _ (λ (x : History). finding_for x (c.args.seat).0) (advance_finds c.args.state.now c.advance.new.state c.args.seat c.args.r (c.args.seat).0 refl c.in-Again.why (c.in-Again.ensures.gives (has_room c.args.state.now c.requires.may.steady)) c.in-NoFrame.is)
    g.B.Block.tells.content c.find_for_request.new.state c.find_for_request.result c.find_for_request.ensures.moved

-- ---- it waits
pub returns-in_default-clause-carrier : goal.returns-in_default-clause-carrier
returns-in_default-clause-carrier g c = (c.in-Again.ensures.gives (has_room c.args.state.now c.requires.may.steady)).carrier

pub returns-in_default-clause-moved : goal.returns-in_default-clause-moved
returns-in_default-clause-moved g c = advance_rests c.args.state.now c.advance.new.state c.args.seat c.args.r (c.args.seat).0 refl c.in-Again.why (c.in-Again.ensures.gives (has_room c.args.state.now c.requires.may.steady)) c.in_default.not-ModifiedFull c.in_default.not-NoFrame

pub unreachable-requires : goal.unreachable-requires
unreachable-requires g c = never_short c.args.state.now c.requires.may.steady (c.in-Room.ensures.room.0 refl)
