use Rattle.std.proofs.Common.{inl, false, refl}
use Rattle.seat_turns.proofs.OpenWork.{nothing_tried}
use Rattle.seat_turns.specs.declared.asking.Need.TheVariants.{Process, Room, Frame}
use Rattle.seat_turns.proofs.OwnSteps.{need_is}
use Rattle.seat_turns.proofs.Stepped.{no_step}
use Rattle.seat_turns.proofs.asking.meet.Goals as goal

pub returns-in-Nothing-clause-tried : goal.returns-in-Nothing-clause-tried
returns-in-Nothing-clause-tried g c = nothing_tried c.args.state.now c.args.carrier.now c.requires.start false

pub returns-in-Process-clause-step : goal.returns-in-Process-clause-step
returns-in-Process-clause-step g c = λ request waits.
    let known = need_is c.args.state.now (c.args.carrier.now).seat.0 request c.args.p c.args.need Process c.in-Process.is waits in
    c.bring_back.ensures.step request (known.0, record { x = (known.1).x; asks = (known.1).asks; is = (known.1).is })

pub returns-in-Room-clause-step : goal.returns-in-Room-clause-step
returns-in-Room-clause-step g c = λ request waits.
    let known = need_is c.args.state.now (c.args.carrier.now).seat.0 request c.args.p c.args.need Room c.in-Room.is waits in
    c.write_for_room.ensures.step request (inl (record { x = (known.1).x; asks = (known.1).asks; is = (known.1).is }))

pub returns-in-Frame-clause-step : goal.returns-in-Frame-clause-step
returns-in-Frame-clause-step g c = λ request waits.
    let known = need_is c.args.state.now (c.args.carrier.now).seat.0 request c.args.p c.args.need Frame c.in-Frame.is waits in
    c.find_frame.ensures.step request (known.0, record { x = (known.1).x; asks = (known.1).asks; is = (known.1).is })

pub returns-in-Nothing-clause-step : goal.returns-in-Nothing-clause-step
returns-in-Nothing-clause-step g c = λ request waits. no_step c.args.state.now c.args.state.now (c.args.carrier.now).seat.0 request refl
