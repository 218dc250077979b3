use Rattle.std.proofs.Common.{inr, ℕ, Option, None, refl, ◌∙◌, sym, subst}
use Rattle.vm_types.specs.declared.service.Request.{Request}
use Rattle.pager_policy.specs.Swap.{leave_gives}
use Rattle.pager_policy.specs.WriteCluster.{reason_need}
use Rattle.vm_state.specs.History.{History, pager}
use Rattle.vm_swapper.specs.declared.swap.Swap.TheVariants.{Carry, More, Settled}
use Rattle.carried_landings.proofs.Shapes.{leave_shape}
use Rattle.seat_laws.proofs.FreeSeats.{may_begin}
use Rattle.seat_steps.specs.Steps.{IsToWrite, leaves}
use Rattle.seat_turns.specs.Steps.{HasTurned}
use Rattle.seat_turns.specs.declared.turned.Turned.{Turned}
use Rattle.seat_turns.specs.declared.turned.Turned.TheVariants.{Rests, Waits}
use Rattle.seat_turns.proofs.NoFaults.{leave_no_faults}
use Rattle.seat_turns.proofs.Resting.{in_flight_is, never_rests}
use Rattle.seat_turns.proofs.OpenWork.{empty_at, ended_turned, free_at, same_swapped, starts_again, swap_tried, tried_after}
use Rattle.seat_turns.proofs.Worked.{waits_turned, worked_turned}
use Rattle.seat_turns.proofs.Stepped.{modified_full_is, step_after, step_at}
use Rattle.seat_turns.proofs.idle_work.leave_lowest.Goals as goal

pub leave_some-requires-clause-idle : goal.leave_some-requires-clause-idle
leave_some-requires-clause-idle g c κs within = may_begin c.args.state.now c.seat.result (free_at c.args.state.now c.args.carrier.now c.requires.start c.seat.result c.seat.ensures)

pub leave_some-requires-clause-carrier : goal.leave_some-requires-clause-carrier
leave_some-requires-clause-carrier g c κs within = empty_at c.args.state.now c.args.carrier.now c.requires.start c.seat.result c.seat.ensures

pub returns-in-Carry-clause-turned : goal.returns-in-Carry-clause-turned
returns-in-Carry-clause-turned g c =
    worked_turned c.args.state.now c.leave_some.new.state (c.args.carrier.now).seat c.requires.start.free c.requires.running None c.leave_some.new.carrier
    (swap_tried c.args.state.now c.args.carrier.now c.requires.start c.seat.result c.seat.ensures c.leave_some.new.state c.leave_some.new.carrier
    (leave_gives (c.args.state.now).config (c.args.state.now).past (pager c.args.state.now) (c.args.q).0) (leave_shape (c.args.state.now).config (c.args.state.now).past (pager c.args.state.now) (c.args.q).0)
    (leave_no_faults (c.args.state.now).config (c.args.state.now).past (pager c.args.state.now) (c.args.q).0) Carry (c.in-Carry.ensures.gives c.requires.start.free.room)).worked

pub returns-in-More-clause-turned : goal.returns-in-More-clause-turned
returns-in-More-clause-turned g c =
    worked_turned c.args.state.now c.leave_some.new.state (c.args.carrier.now).seat c.requires.start.free c.requires.running None c.leave_some.new.carrier
    (swap_tried c.args.state.now c.args.carrier.now c.requires.start c.seat.result c.seat.ensures c.leave_some.new.state c.leave_some.new.carrier
    (leave_gives (c.args.state.now).config (c.args.state.now).past (pager c.args.state.now) (c.args.q).0) (leave_shape (c.args.state.now).config (c.args.state.now).past (pager c.args.state.now) (c.args.q).0)
    (leave_no_faults (c.args.state.now).config (c.args.state.now).past (pager c.args.state.now) (c.args.q).0) More (c.in-More.ensures.gives c.requires.start.free.room)).worked

pub returns-in-Settled-clause-turned : goal.returns-in-Settled-clause-turned
returns-in-Settled-clause-turned g c =
    worked_turned c.args.state.now c.leave_some.new.state (c.args.carrier.now).seat c.requires.start.free c.requires.running None c.leave_some.new.carrier
    (swap_tried c.args.state.now c.args.carrier.now c.requires.start c.seat.result c.seat.ensures c.leave_some.new.state c.leave_some.new.carrier
    (leave_gives (c.args.state.now).config (c.args.state.now).past (pager c.args.state.now) (c.args.q).0) (leave_shape (c.args.state.now).config (c.args.state.now).past (pager c.args.state.now) (c.args.q).0)
    (leave_no_faults (c.args.state.now).config (c.args.state.now).past (pager c.args.state.now) (c.args.q).0) Settled (c.in-Settled.ensures.gives c.requires.start.free.room)).worked

pub returns-in-Again-InFlight-clause-turned : goal.returns-in-Again-InFlight-clause-turned
returns-in-Again-InFlight-clause-turned g c =
    let same = same_swapped c.args.state.now c.args.carrier.now c.requires.start c.seat.result c.seat.ensures c.leave_some.new.state c.leave_some.new.carrier
    (leave_gives (c.args.state.now).config (c.args.state.now).past (pager c.args.state.now) (c.args.q).0) (leave_shape (c.args.state.now).config (c.args.state.now).past (pager c.args.state.now) (c.args.q).0)
    (leave_no_faults (c.args.state.now).config (c.args.state.now).past (pager c.args.state.now) (c.args.q).0) _ (c.in-Again-InFlight.ensures.gives c.requires.start.free.room) in
    waits_turned c.args.state.now c.leave_some.new.state (c.args.carrier.now).seat c.requires.start.free c.requires.running same.0 None Rests c.leave_some.new.carrier (same.1 ∙ c.requires.start.carrier) tt refl tt

pub returns-in-Again-NoFrame-clause-turned : goal.returns-in-Again-NoFrame-clause-turned
returns-in-Again-NoFrame-clause-turned g c =
    let same = same_swapped c.args.state.now c.args.carrier.now c.requires.start c.seat.result c.seat.ensures c.leave_some.new.state c.leave_some.new.carrier
    (leave_gives (c.args.state.now).config (c.args.state.now).past (pager c.args.state.now) (c.args.q).0) (leave_shape (c.args.state.now).config (c.args.state.now).past (pager c.args.state.now) (c.args.q).0)
    (leave_no_faults (c.args.state.now).config (c.args.state.now).past (pager c.args.state.now) (c.args.q).0) _ (c.in-Again-NoFrame.ensures.gives c.requires.start.free.room) in
    waits_turned c.args.state.now c.leave_some.new.state (c.args.carrier.now).seat c.requires.start.free c.requires.running same.0 None Waits c.leave_some.new.carrier (same.1 ∙ c.requires.start.carrier) tt refl tt

pub returns-in-Again-InFlight-clause-rests : goal.returns-in-Again-InFlight-clause-rests
returns-in-Again-InFlight-clause-rests g c = λ is.
    in_flight_is (leave_gives (c.args.state.now).config (c.args.state.now).past (pager c.args.state.now) (c.args.q).0).answer _ (c.in-Again-InFlight.ensures.gives c.requires.start.free.room).answer c.in-Again-InFlight.field-0-is

pub write_for_room-requires-clause-start : goal.write_for_room-requires-clause-start
write_for_room-requires-clause-start g c κs within =
    let same = same_swapped c.args.state.now c.args.carrier.now c.requires.start c.seat.result c.seat.ensures c.leave_some.new.state c.leave_some.new.carrier
    (leave_gives (c.args.state.now).config (c.args.state.now).past (pager c.args.state.now) (c.args.q).0) (leave_shape (c.args.state.now).config (c.args.state.now).past (pager c.args.state.now) (c.args.q).0)
    (leave_no_faults (c.args.state.now).config (c.args.state.now).past (pager c.args.state.now) (c.args.q).0) _ (c.in-Again-ModifiedFull.ensures.gives c.requires.start.free.room) in
    starts_again c.args.state.now c.leave_some.new.state c.args.carrier.now c.leave_some.new.carrier same.0 same.1 c.requires.start

pub returns-in-Again-ModifiedFull-clause-turned : goal.returns-in-Again-ModifiedFull-clause-turned
returns-in-Again-ModifiedFull-clause-turned g c =
    let has = tried_after c.args.state.now c.leave_some.new.state c.write_for_room.new.state c.args.carrier.now c.leave_some.new.carrier c.write_for_room.new.carrier c.write_for_room.result
    (same_swapped c.args.state.now c.args.carrier.now c.requires.start c.seat.result c.seat.ensures c.leave_some.new.state c.leave_some.new.carrier
    (leave_gives (c.args.state.now).config (c.args.state.now).past (pager c.args.state.now) (c.args.q).0) (leave_shape (c.args.state.now).config (c.args.state.now).past (pager c.args.state.now) (c.args.q).0)
    (leave_no_faults (c.args.state.now).config (c.args.state.now).past (pager c.args.state.now) (c.args.q).0) _ (c.in-Again-ModifiedFull.ensures.gives c.requires.start.free.room))
    c.write_for_room.ensures.tried in
    subst (λ (x : Turned). HasTurned g.B.Block.seen g.B.Block.tells c.args.state.now c.write_for_room.new.state (c.args.carrier.now).seat None x c.write_for_room.new.carrier) (sym c.worked.ensures)
    (ended_turned c.args.state.now c.args.state.now c.write_for_room.new.state (c.args.carrier.now).seat c.requires.start.free c.requires.running refl c.write_for_room.result c.args.carrier.now c.write_for_room.new.carrier c.requires.start.carrier has.worked has.none None)

pub returns-in-Again-ModifiedFull-clause-rests : goal.returns-in-Again-ModifiedFull-clause-rests
returns-in-Again-ModifiedFull-clause-rests g c = λ is. absurd (never_rests c.write_for_room.result (sym c.worked.ensures ∙ is))

pub returns-in-Carry-clause-step : goal.returns-in-Carry-clause-step
returns-in-Carry-clause-step g c = λ to_leave.
    step_at c.args.state.now c.leave_some.new.state c.seat.result (c.args.carrier.now).seat c.seat.ensures None (leaves (c.args.q).0) to_leave (c.in-Carry.ensures.gives c.requires.start.free.room).history

pub returns-in-More-clause-step : goal.returns-in-More-clause-step
returns-in-More-clause-step g c = λ to_leave.
    step_at c.args.state.now c.leave_some.new.state c.seat.result (c.args.carrier.now).seat c.seat.ensures None (leaves (c.args.q).0) to_leave (c.in-More.ensures.gives c.requires.start.free.room).history

pub returns-in-Settled-clause-step : goal.returns-in-Settled-clause-step
returns-in-Settled-clause-step g c = λ to_leave.
    step_at c.args.state.now c.leave_some.new.state c.seat.result (c.args.carrier.now).seat c.seat.ensures None (leaves (c.args.q).0) to_leave (c.in-Settled.ensures.gives c.requires.start.free.room).history

pub returns-in-Again-InFlight-clause-step : goal.returns-in-Again-InFlight-clause-step
returns-in-Again-InFlight-clause-step g c = λ to_leave.
    step_at c.args.state.now c.leave_some.new.state c.seat.result (c.args.carrier.now).seat c.seat.ensures None (leaves (c.args.q).0) to_leave (c.in-Again-InFlight.ensures.gives c.requires.start.free.room).history

pub returns-in-Again-NoFrame-clause-step : goal.returns-in-Again-NoFrame-clause-step
returns-in-Again-NoFrame-clause-step g c = λ to_leave.
    step_at c.args.state.now c.leave_some.new.state c.seat.result (c.args.carrier.now).seat c.seat.ensures None (leaves (c.args.q).0) to_leave (c.in-Again-NoFrame.ensures.gives c.requires.start.free.room).history

pub returns-in-Again-ModifiedFull-clause-step : goal.returns-in-Again-ModifiedFull-clause-step
returns-in-Again-ModifiedFull-clause-step g c = λ to_leave.
    let gives = c.in-Again-ModifiedFull.ensures.gives c.requires.start.free.room in
    step_after c.args.state.now c.leave_some.new.state c.write_for_room.new.state c.args.carrier.now c.leave_some.new.carrier (λ (s : History) (seat : ℕ) (x : Option Request). IsToWrite s.config s.past seat x reason_need)
    (same_swapped c.args.state.now c.args.carrier.now c.requires.start c.seat.result c.seat.ensures c.leave_some.new.state c.leave_some.new.carrier
    (leave_gives (c.args.state.now).config (c.args.state.now).past (pager c.args.state.now) (c.args.q).0) (leave_shape (c.args.state.now).config (c.args.state.now).past (pager c.args.state.now) (c.args.q).0)
    (leave_no_faults (c.args.state.now).config (c.args.state.now).past (pager c.args.state.now) (c.args.q).0) _ gives)
    c.write_for_room.ensures.step None
    (inr (inr (
      (c.args.q).0,
      record {
        leaves = to_leave;
        full = modified_full_is (leave_gives (c.args.state.now).config (c.args.state.now).past (pager c.args.state.now) (c.args.q).0).answer _ gives.answer c.in-Again-ModifiedFull.field-0-is;
      },
    )))
