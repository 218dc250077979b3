use Rattle.pager_policy.specs.Swap.{come_gives}
use Rattle.vm_state.specs.History.{pager}
use Rattle.vm_swapper.specs.declared.swap.Swap.TheVariants.{Carry, More, Settled}
use Rattle.carried_landings.proofs.Shapes.{come_shape}
use Rattle.seat_laws.proofs.FreeSeats.{may_begin}
use Rattle.seat_turns.proofs.NoFaults.{come_no_faults}
use Rattle.seat_turns.proofs.OpenWork.{empty_at, free_at, same_swapped, starts_again, swap_none_tried, swap_tried, tried_after}
use Rattle.seat_steps.specs.Waits.{WaitsForFrame}
use Rattle.seat_turns.specs.Stepping.{WaitsOwn}
use Rattle.seat_turns.proofs.OwnSteps.{came_step, waits_to_come}
use Rattle.seat_turns.proofs.Stepped.{no_frame_is, step_after}
use Rattle.seat_turns.proofs.swapping.come.Goals as goal

pub come_some-requires-clause-idle : goal.come_some-requires-clause-idle
come_some-requires-clause-idle g c κs within = may_begin c.args.state.now c.seat.result (free_at c.args.state.now c.args.carrier.now c.requires.start c.seat.result c.seat.ensures)

pub come_some-requires-clause-carrier : goal.come_some-requires-clause-carrier
come_some-requires-clause-carrier g c κs within = empty_at c.args.state.now c.args.carrier.now c.requires.start c.seat.result c.seat.ensures

pub returns-in-Carry-clause-tried : goal.returns-in-Carry-clause-tried
returns-in-Carry-clause-tried g c =
    swap_tried c.args.state.now c.args.carrier.now c.requires.start c.seat.result c.seat.ensures c.come_some.new.state c.come_some.new.carrier
    (come_gives (c.args.state.now).config (c.args.state.now).past (pager c.args.state.now) (c.args.p).0) (come_shape (c.args.state.now).config (c.args.state.now).past (pager c.args.state.now) (c.args.p).0)
    (come_no_faults (c.args.state.now).config (c.args.state.now).past (pager c.args.state.now) (c.args.p).0) Carry (c.in-Carry.ensures.gives c.requires.start.free.room)

pub returns-in-More-clause-tried : goal.returns-in-More-clause-tried
returns-in-More-clause-tried g c =
    swap_tried c.args.state.now c.args.carrier.now c.requires.start c.seat.result c.seat.ensures c.come_some.new.state c.come_some.new.carrier
    (come_gives (c.args.state.now).config (c.args.state.now).past (pager c.args.state.now) (c.args.p).0) (come_shape (c.args.state.now).config (c.args.state.now).past (pager c.args.state.now) (c.args.p).0)
    (come_no_faults (c.args.state.now).config (c.args.state.now).past (pager c.args.state.now) (c.args.p).0) More (c.in-More.ensures.gives c.requires.start.free.room)

pub returns-in-Settled-clause-tried : goal.returns-in-Settled-clause-tried
returns-in-Settled-clause-tried g c =
    swap_tried c.args.state.now c.args.carrier.now c.requires.start c.seat.result c.seat.ensures c.come_some.new.state c.come_some.new.carrier
    (come_gives (c.args.state.now).config (c.args.state.now).past (pager c.args.state.now) (c.args.p).0) (come_shape (c.args.state.now).config (c.args.state.now).past (pager c.args.state.now) (c.args.p).0)
    (come_no_faults (c.args.state.now).config (c.args.state.now).past (pager c.args.state.now) (c.args.p).0) Settled (c.in-Settled.ensures.gives c.requires.start.free.room)

pub find_frame-requires-clause-start : goal.find_frame-requires-clause-start
find_frame-requires-clause-start g c κs within =
    let same = same_swapped c.args.state.now c.args.carrier.now c.requires.start c.seat.result c.seat.ensures c.come_some.new.state c.come_some.new.carrier
    (come_gives (c.args.state.now).config (c.args.state.now).past (pager c.args.state.now) (c.args.p).0) (come_shape (c.args.state.now).config (c.args.state.now).past (pager c.args.state.now) (c.args.p).0)
    (come_no_faults (c.args.state.now).config (c.args.state.now).past (pager c.args.state.now) (c.args.p).0) _ (c.in-Again-NoFrame.ensures.gives c.requires.start.free.room) in
    starts_again c.args.state.now c.come_some.new.state c.args.carrier.now c.come_some.new.carrier same.0 same.1 c.requires.start

pub returns-in-Again-NoFrame-clause-tried : goal.returns-in-Again-NoFrame-clause-tried
returns-in-Again-NoFrame-clause-tried g c =
    tried_after c.args.state.now c.come_some.new.state c.find_frame.new.state c.args.carrier.now c.come_some.new.carrier c.find_frame.new.carrier c.find_frame.result
    (same_swapped c.args.state.now c.args.carrier.now c.requires.start c.seat.result c.seat.ensures c.come_some.new.state c.come_some.new.carrier
    (come_gives (c.args.state.now).config (c.args.state.now).past (pager c.args.state.now) (c.args.p).0) (come_shape (c.args.state.now).config (c.args.state.now).past (pager c.args.state.now) (c.args.p).0)
    (come_no_faults (c.args.state.now).config (c.args.state.now).past (pager c.args.state.now) (c.args.p).0) _ (c.in-Again-NoFrame.ensures.gives c.requires.start.free.room))
    c.find_frame.ensures.tried

pub returns-in-Again-InFlight-clause-tried : goal.returns-in-Again-InFlight-clause-tried
returns-in-Again-InFlight-clause-tried g c =
    swap_none_tried c.args.state.now c.args.carrier.now c.requires.start c.seat.result c.seat.ensures c.come_some.new.state c.come_some.new.carrier
    (come_gives (c.args.state.now).config (c.args.state.now).past (pager c.args.state.now) (c.args.p).0) (come_shape (c.args.state.now).config (c.args.state.now).past (pager c.args.state.now) (c.args.p).0)
    (come_no_faults (c.args.state.now).config (c.args.state.now).past (pager c.args.state.now) (c.args.p).0) _ (c.in-Again-InFlight.ensures.gives c.requires.start.free.room)

pub returns-in-Again-ModifiedFull-clause-tried : goal.returns-in-Again-ModifiedFull-clause-tried
returns-in-Again-ModifiedFull-clause-tried g c =
    swap_none_tried c.args.state.now c.args.carrier.now c.requires.start c.seat.result c.seat.ensures c.come_some.new.state c.come_some.new.carrier
    (come_gives (c.args.state.now).config (c.args.state.now).past (pager c.args.state.now) (c.args.p).0) (come_shape (c.args.state.now).config (c.args.state.now).past (pager c.args.state.now) (c.args.p).0)
    (come_no_faults (c.args.state.now).config (c.args.state.now).past (pager c.args.state.now) (c.args.p).0) _ (c.in-Again-ModifiedFull.ensures.gives c.requires.start.free.room)

pub returns-in-Carry-clause-step : goal.returns-in-Carry-clause-step
returns-in-Carry-clause-step g c = λ request waits.
    came_step c.args.state.now (c.args.carrier.now).seat c.args.p request waits c.come_some.new.state c.seat.result c.seat.ensures c.requires.coming (c.in-Carry.ensures.gives c.requires.start.free.room).history

pub returns-in-More-clause-step : goal.returns-in-More-clause-step
returns-in-More-clause-step g c = λ request waits.
    came_step c.args.state.now (c.args.carrier.now).seat c.args.p request waits c.come_some.new.state c.seat.result c.seat.ensures c.requires.coming (c.in-More.ensures.gives c.requires.start.free.room).history

pub returns-in-Settled-clause-step : goal.returns-in-Settled-clause-step
returns-in-Settled-clause-step g c = λ request waits.
    came_step c.args.state.now (c.args.carrier.now).seat c.args.p request waits c.come_some.new.state c.seat.result c.seat.ensures c.requires.coming (c.in-Settled.ensures.gives c.requires.start.free.room).history

pub returns-in-Again-InFlight-clause-step : goal.returns-in-Again-InFlight-clause-step
returns-in-Again-InFlight-clause-step g c = λ request waits.
    came_step c.args.state.now (c.args.carrier.now).seat c.args.p request waits c.come_some.new.state c.seat.result c.seat.ensures c.requires.coming (c.in-Again-InFlight.ensures.gives c.requires.start.free.room).history

pub returns-in-Again-ModifiedFull-clause-step : goal.returns-in-Again-ModifiedFull-clause-step
returns-in-Again-ModifiedFull-clause-step g c = λ request waits.
    came_step c.args.state.now (c.args.carrier.now).seat c.args.p request waits c.come_some.new.state c.seat.result c.seat.ensures c.requires.coming (c.in-Again-ModifiedFull.ensures.gives c.requires.start.free.room).history

pub returns-in-Again-NoFrame-clause-step : goal.returns-in-Again-NoFrame-clause-step
returns-in-Again-NoFrame-clause-step g c = λ request waits.
    let gives = c.in-Again-NoFrame.ensures.gives c.requires.start.free.room in
    step_after c.args.state.now c.come_some.new.state c.find_frame.new.state c.args.carrier.now c.come_some.new.carrier (WaitsOwn c.args.p WaitsForFrame)
    (same_swapped c.args.state.now c.args.carrier.now c.requires.start c.seat.result c.seat.ensures c.come_some.new.state c.come_some.new.carrier
    (come_gives (c.args.state.now).config (c.args.state.now).past (pager c.args.state.now) (c.args.p).0) (come_shape (c.args.state.now).config (c.args.state.now).past (pager c.args.state.now) (c.args.p).0)
    (come_no_faults (c.args.state.now).config (c.args.state.now).past (pager c.args.state.now) (c.args.p).0) _ gives)
    c.find_frame.ensures.step request
    (waits_to_come c.args.state.now (c.args.carrier.now).seat c.args.p request waits c.requires.coming
    (no_frame_is (come_gives (c.args.state.now).config (c.args.state.now).past (pager c.args.state.now) (c.args.p).0).answer _ gives.answer c.in-Again-NoFrame.field-0-is))
