use Rattle.std.proofs.Common.{false, None, not, ap, ◌∙◌, arith}
use Rattle.std.proofs.lemmas.List.{nil_from_length}
use Rattle.seat_turns.proofs.Joined.{free_after, landed_turned, not_running, short_turned, still_same}
use Rattle.seat_turns.proofs.Resting.{nothing_landed}
use Rattle.vm_state.specs.History.{History}
use Rattle.seat_turns.proofs.Stepped.{stepped_none}
use Rattle.seat_turns.proofs.idle_work.land_idle.Goals as goal

pub returns-then-not-has_room-clause-turned : goal.returns-then-not-has_room-clause-turned
returns-then-not-has_room-clause-turned g c =
    short_turned c.args.state.now c.land_out.new.state c.has_room.new.state c.args.seat c.land_out.ensures.landed (not c.has_room.result) c.has_room.ensures.same
    (ap not c.if-not-has_room.true) None c.land_out.new.carrier c.land_out.ensures.carrier

pub returns-then-some-clause-turned : goal.returns-then-some-clause-turned
returns-then-some-clause-turned g c =
    landed_turned c.args.state.now c.land_out.new.state c.has_room.new.state c.args.seat c.land_out.ensures.landed (c.has_room.ensures.same ∙ (λ i. record c.land_out.new.state { spare = (c.has_room.new.state).spare; halted = not (c.if-not-has_room.false i) }))
    None c.land_out.new.carrier c.land_out.ensures.carrier

pub returns-then-some-clause-halted : goal.returns-then-some-clause-halted
returns-then-some-clause-halted g c = λ was. absurd (not_running c.args.state.now c.land_out.new.state c.args.seat c.land_out.ensures.landed c.has_room.result c.has_room.ensures.halted c.if-not-has_room.false was)

pub returns-clause-halted : goal.returns-clause-halted
returns-clause-halted g c = λ was. absurd (not_running c.args.state.now c.land_out.new.state c.args.seat c.land_out.ensures.landed c.has_room.result c.has_room.ensures.halted c.if-not-has_room.false was)

pub returns-clause-free : goal.returns-clause-free
returns-clause-free g c = λ is.
    free_after c.args.state.now c.land_out.new.state c.has_room.new.state c.args.seat c.land_out.ensures.landed false (c.has_room.ensures.same ∙ (λ i. record c.land_out.new.state { spare = (c.has_room.new.state).spare; halted = not (c.if-not-has_room.false i) }))
    c.requires.there (c.has_room.ensures.room c.if-not-has_room.false)

pub returns-clause-same : goal.returns-clause-same
returns-clause-same g c = λ is.
    still_same c.args.state.now c.land_out.new.state c.has_room.new.state c.args.seat c.land_out.ensures.landed (c.has_room.ensures.same ∙ (λ i. record c.land_out.new.state { spare = (c.has_room.new.state).spare; halted = not (c.if-not-has_room.false i) }))
    (nothing_landed c.args.state.now c.land_out.new.state c.args.seat c.args.carrier.now c.requires.out
    (nil_from_length (c.args.carrier.now).lifts (let count = c.len-some.ensures.count in let none = c.if-some.false in omega (arith, count, none))) c.land_out.ensures.landed)

pub returns-then-not-has_room-clause-step : goal.returns-then-not-has_room-clause-step
returns-then-not-has_room-clause-step g c =
    stepped_none c.args.state.now c.land_out.new.state c.has_room.new.state c.args.seat c.land_out.ensures.landed (ap (λ (x : History). x.config) c.has_room.ensures.same) (ap (λ (x : History). x.past) c.has_room.ensures.same) None

pub returns-then-some-clause-step : goal.returns-then-some-clause-step
returns-then-some-clause-step g c =
    stepped_none c.args.state.now c.land_out.new.state c.has_room.new.state c.args.seat c.land_out.ensures.landed (ap (λ (x : History). x.config) c.has_room.ensures.same) (ap (λ (x : History). x.past) c.has_room.ensures.same) None
