use Rattle.std.proofs.Common.{refl}
use Rattle.pager_policy.specs.Moves.{asking, control}
use Rattle.pager_policy.specs.Policy.{ends_request, writing_move}
use Rattle.vm_state.specs.History.{History, pager}
use Rattle.serial_moves.proofs.ServiceMoves.{serve_answers, serve_makes, serve_rests, serve_same, serve_writes}
use Rattle.serial_moves.proofs.SteadySeats.{has_room, here_there, idle_seat, may_there, moved_there, never_short}
use Rattle.serial_moves.proofs.requests.serve.Goals as goal

pub serve-requires-clause-idle : goal.serve-requires-clause-idle
serve-requires-clause-idle g c κs within = idle_seat c.args.state.now c.requires.may.steady c.args.seat c.requires.process

-- ---- it is answered
pub returns-in-Answered-clause-moved : goal.returns-in-Answered-clause-moved
returns-in-Answered-clause-moved g c = serve_answers c.args.state.now c.serve.new.state c.args.seat c.args.s (c.args.seat).0 refl g.B.Block.tells.content c.in-Answered.field-0 _ (c.in-Answered.ensures.gives (has_room c.args.state.now c.requires.may.steady)) c.answered.ensures

-- ---- an entry was made
pub returns-in-More-clause-moved : goal.returns-in-More-clause-moved
returns-in-More-clause-moved g c = serve_makes c.args.state.now c.serve.new.state c.args.seat c.args.s (c.args.seat).0 refl g.B.Block.tells.content (c.in-More.ensures.gives (has_room c.args.state.now c.requires.may.steady))

-- ---- the modified list is full
pub write_for_room-requires-clause-may : goal.write_for_room-requires-clause-may
write_for_room-requires-clause-may g c κs within =
    may_there c.args.state.now c.serve.new.state c.args.seat c.args.carrier.now c.args.carrier.now (serve_same c.args.state.now c.serve.new.state c.args.seat c.args.s (c.args.seat).0 refl c.in-Again.why (c.in-Again.ensures.gives (has_room c.args.state.now c.requires.may.steady))) refl c.requires.may

pub write_for_room-requires-clause-here : goal.write_for_room-requires-clause-here
write_for_room-requires-clause-here g c κs within =
    here_there c.args.state.now c.serve.new.state (serve_same c.args.state.now c.serve.new.state c.args.seat c.args.s (c.args.seat).0 refl c.in-Again.why (c.in-Again.ensures.gives (has_room c.args.state.now c.requires.may.steady))) _ (λ (x : History). writing_move x.config (pager x) (c.args.seat).0 ends_request (control asking))
    (serve_writes c.args.state.now c.serve.new.state c.args.seat c.args.s (c.args.seat).0 refl c.in-Again.why (c.in-Again.ensures.gives (has_room c.args.state.now c.requires.may.steady)) c.in-ModifiedFull.is) c.requires.here

pub returns-in_ok-write_for_room-in-ModifiedFull-clause-moved : goal.returns-in_ok-write_for_room-in-ModifiedFull-clause-moved
returns-in_ok-write_for_room-in-ModifiedFull-clause-moved g c =
    moved_there c.args.state.now c.serve.new.state (serve_same c.args.state.now c.serve.new.state c.args.seat c.args.s (c.args.seat).0 refl c.in-Again.why (c.in-Again.ensures.gives (has_room c.args.state.now c.requires.may.steady))) _ (λ (x : History). writing_move x.config (pager x) (c.args.seat).0 ends_request (control asking))
    (serve_writes c.args.state.now c.serve.new.state c.args.seat c.args.s (c.args.seat).0 refl c.in-Again.why (c.in-Again.ensures.gives (has_room c.args.state.now c.requires.may.steady)) c.in-ModifiedFull.is) g.B.Block.tells.content c.write_for_room.new.state _ c.in_ok-write_for_room-in-ModifiedFull.ensures.moved

-- ---- it waits
pub returns-in_default-clause-moved : goal.returns-in_default-clause-moved
returns-in_default-clause-moved g c = serve_rests c.args.state.now c.serve.new.state c.args.seat c.args.s (c.args.seat).0 refl c.in-Again.why (c.in-Again.ensures.gives (has_room c.args.state.now c.requires.may.steady)) c.in_default.not-ModifiedFull

pub unreachable-requires : goal.unreachable-requires
unreachable-requires g c = never_short c.args.state.now c.requires.may.steady (c.in-Room.ensures.room.0 refl)
