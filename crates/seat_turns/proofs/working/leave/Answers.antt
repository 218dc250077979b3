use Rattle.std.proofs.Common.{inr, ℕ, Option}
use Rattle.vm_types.specs.declared.service.Request.{Request}
use Rattle.pager_policy.specs.Swap.{leave_gives}
use Rattle.pager_policy.specs.WriteCluster.{reason_need}
use Rattle.vm_state.specs.History.{History, pager}
use Rattle.vm_swapper.specs.declared.swap.Swap.TheVariants.{Carry, More, Settled}
use Rattle.carried_landings.proofs.Shapes.{leave_shape}
use Rattle.seat_laws.proofs.FreeSeats.{may_begin}
use Rattle.seat_steps.specs.Steps.{IsToWrite, leaves}
use Rattle.seat_turns.proofs.NoFaults.{leave_no_faults}
use Rattle.seat_turns.proofs.OpenWork.{empty_at, free_at, same_swapped, starts_again, swap_none_tried, swap_tried, tried_after}
use Rattle.seat_turns.proofs.Stepped.{modified_full_is, step_after, step_at}
use Rattle.seat_turns.proofs.working.leave.Goals as goal

pub leave_some-requires-clause-idle : goal.leave_some-requires-clause-idle
leave_some-requires-clause-idle g c κs within = may_begin c.args.state.now c.seat.result (free_at c.args.state.now c.args.carrier.now c.requires.start c.seat.result c.seat.ensures)

pub leave_some-requires-clause-carrier : goal.leave_some-requires-clause-carrier
leave_some-requires-clause-carrier g c κs within = empty_at c.args.state.now c.args.carrier.now c.requires.start c.seat.result c.seat.ensures

pub returns-in-Carry-clause-tried : goal.returns-in-Carry-clause-tried
returns-in-Carry-clause-tried g c =
    swap_tried c.args.state.now c.args.carrier.now c.requires.start c.seat.result c.seat.ensures c.leave_some.new.state c.leave_some.new.carrier
    (leave_gives (c.args.state.now).config (c.args.state.now).past (pager c.args.state.now) (c.args.q).0) (leave_shape (c.args.state.now).config (c.args.state.now).past (pager c.args.state.now) (c.args.q).0)
    (leave_no_faults (c.args.state.now).config (c.args.state.now).past (pager c.args.state.now) (c.args.q).0) Carry (c.in-Carry.ensures.gives c.requires.start.free.room)

pub returns-in-More-clause-tried : goal.returns-in-More-clause-tried
returns-in-More-clause-tried g c =
    swap_tried c.args.state.now c.args.carrier.now c.requires.start c.seat.result c.seat.ensures c.leave_some.new.state c.leave_some.new.carrier
    (leave_gives (c.args.state.now).config (c.args.state.now).past (pager c.args.state.now) (c.args.q).0) (leave_shape (c.args.state.now).config (c.args.state.now).past (pager c.args.state.now) (c.args.q).0)
    (leave_no_faults (c.args.state.now).config (c.args.state.now).past (pager c.args.state.now) (c.args.q).0) More (c.in-More.ensures.gives c.requires.start.free.room)

pub returns-in-Settled-clause-tried : goal.returns-in-Settled-clause-tried
returns-in-Settled-clause-tried g c =
    swap_tried c.args.state.now c.args.carrier.now c.requires.start c.seat.result c.seat.ensures c.leave_some.new.state c.leave_some.new.carrier
    (leave_gives (c.args.state.now).config (c.args.state.now).past (pager c.args.state.now) (c.args.q).0) (leave_shape (c.args.state.now).config (c.args.state.now).past (pager c.args.state.now) (c.args.q).0)
    (leave_no_faults (c.args.state.now).config (c.args.state.now).past (pager c.args.state.now) (c.args.q).0) Settled (c.in-Settled.ensures.gives c.requires.start.free.room)

pub write_for_room-requires-clause-start : goal.write_for_room-requires-clause-start
write_for_room-requires-clause-start g c κs within =
    let same = same_swapped c.args.state.now c.args.carrier.now c.requires.start c.seat.result c.seat.ensures c.leave_some.new.state c.leave_some.new.carrier
    (leave_gives (c.args.state.now).config (c.args.state.now).past (pager c.args.state.now) (c.args.q).0) (leave_shape (c.args.state.now).config (c.args.state.now).past (pager c.args.state.now) (c.args.q).0)
    (leave_no_faults (c.args.state.now).config (c.args.state.now).past (pager c.args.state.now) (c.args.q).0) _ (c.in-Again-ModifiedFull.ensures.gives c.requires.start.free.room) in
    starts_again c.args.state.now c.leave_some.new.state c.args.carrier.now c.leave_some.new.carrier same.0 same.1 c.requires.start

pub returns-in-Again-ModifiedFull-clause-tried : goal.returns-in-Again-ModifiedFull-clause-tried
returns-in-Again-ModifiedFull-clause-tried g c =
    tried_after c.args.state.now c.leave_some.new.state c.write_for_room.new.state c.args.carrier.now c.leave_some.new.carrier c.write_for_room.new.carrier c.write_for_room.result
    (same_swapped c.args.state.now c.args.carrier.now c.requires.start c.seat.result c.seat.ensures c.leave_some.new.state c.leave_some.new.carrier
    (leave_gives (c.args.state.now).config (c.args.state.now).past (pager c.args.state.now) (c.args.q).0) (leave_shape (c.args.state.now).config (c.args.state.now).past (pager c.args.state.now) (c.args.q).0)
    (leave_no_faults (c.args.state.now).config (c.args.state.now).past (pager c.args.state.now) (c.args.q).0) _ (c.in-Again-ModifiedFull.ensures.gives c.requires.start.free.room))
    c.write_for_room.ensures.tried

pub returns-in-Again-InFlight-clause-tried : goal.returns-in-Again-InFlight-clause-tried
returns-in-Again-InFlight-clause-tried g c =
    swap_none_tried c.args.state.now c.args.carrier.now c.requires.start c.seat.result c.seat.ensures c.leave_some.new.state c.leave_some.new.carrier
    (leave_gives (c.args.state.now).config (c.args.state.now).past (pager c.args.state.now) (c.args.q).0) (leave_shape (c.args.state.now).config (c.args.state.now).past (pager c.args.state.now) (c.args.q).0)
    (leave_no_faults (c.args.state.now).config (c.args.state.now).past (pager c.args.state.now) (c.args.q).0) _ (c.in-Again-InFlight.ensures.gives c.requires.start.free.room)

pub returns-in-Again-NoFrame-clause-tried : goal.returns-in-Again-NoFrame-clause-tried
returns-in-Again-NoFrame-clause-tried g c =
    swap_none_tried c.args.state.now c.args.carrier.now c.requires.start c.seat.result c.seat.ensures c.leave_some.new.state c.leave_some.new.carrier
    (leave_gives (c.args.state.now).config (c.args.state.now).past (pager c.args.state.now) (c.args.q).0) (leave_shape (c.args.state.now).config (c.args.state.now).past (pager c.args.state.now) (c.args.q).0)
    (leave_no_faults (c.args.state.now).config (c.args.state.now).past (pager c.args.state.now) (c.args.q).0) _ (c.in-Again-NoFrame.ensures.gives c.requires.start.free.room)

pub returns-in-Carry-clause-step : goal.returns-in-Carry-clause-step
returns-in-Carry-clause-step g c = λ request to_leave.
    step_at c.args.state.now c.leave_some.new.state c.seat.result (c.args.carrier.now).seat c.seat.ensures request (leaves (c.args.q).0) to_leave (c.in-Carry.ensures.gives c.requires.start.free.room).history

pub returns-in-More-clause-step : goal.returns-in-More-clause-step
returns-in-More-clause-step g c = λ request to_leave.
    step_at c.args.state.now c.leave_some.new.state c.seat.result (c.args.carrier.now).seat c.seat.ensures request (leaves (c.args.q).0) to_leave (c.in-More.ensures.gives c.requires.start.free.room).history

pub returns-in-Settled-clause-step : goal.returns-in-Settled-clause-step
returns-in-Settled-clause-step g c = λ request to_leave.
    step_at c.args.state.now c.leave_some.new.state c.seat.result (c.args.carrier.now).seat c.seat.ensures request (leaves (c.args.q).0) to_leave (c.in-Settled.ensures.gives c.requires.start.free.room).history

pub returns-in-Again-InFlight-clause-step : goal.returns-in-Again-InFlight-clause-step
returns-in-Again-InFlight-clause-step g c = λ request to_leave.
    step_at c.args.state.now c.leave_some.new.state c.seat.result (c.args.carrier.now).seat c.seat.ensures request (leaves (c.args.q).0) to_leave (c.in-Again-InFlight.ensures.gives c.requires.start.free.room).history

pub returns-in-Again-NoFrame-clause-step : goal.returns-in-Again-NoFrame-clause-step
returns-in-Again-NoFrame-clause-step g c = λ request to_leave.
    step_at c.args.state.now c.leave_some.new.state c.seat.result (c.args.carrier.now).seat c.seat.ensures request (leaves (c.args.q).0) to_leave (c.in-Again-NoFrame.ensures.gives c.requires.start.free.room).history

pub returns-in-Again-ModifiedFull-clause-step : goal.returns-in-Again-ModifiedFull-clause-step
returns-in-Again-ModifiedFull-clause-step g c = λ request to_leave.
    let gives = c.in-Again-ModifiedFull.ensures.gives c.requires.start.free.room in
    step_after c.args.state.now c.leave_some.new.state c.write_for_room.new.state c.args.carrier.now c.leave_some.new.carrier (λ (s : History) (seat : ℕ) (x : Option Request). IsToWrite s.config s.past seat x reason_need)
    (same_swapped c.args.state.now c.args.carrier.now c.requires.start c.seat.result c.seat.ensures c.leave_some.new.state c.leave_some.new.carrier
    (leave_gives (c.args.state.now).config (c.args.state.now).past (pager c.args.state.now) (c.args.q).0) (leave_shape (c.args.state.now).config (c.args.state.now).past (pager c.args.state.now) (c.args.q).0)
    (leave_no_faults (c.args.state.now).config (c.args.state.now).past (pager c.args.state.now) (c.args.q).0) _ gives)
    c.write_for_room.ensures.step request
    (inr (inr (
      (c.args.q).0,
      record {
        leaves = to_leave;
        full = modified_full_is (leave_gives (c.args.state.now).config (c.args.state.now).past (pager c.args.state.now) (c.args.q).0).answer _ gives.answer c.in-Again-ModifiedFull.field-0-is;
      },
    )))
