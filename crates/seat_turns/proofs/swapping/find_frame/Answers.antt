use Rattle.std.proofs.Common.{inl, inr, Some, sym, subst, arith}
use Rattle.std.proofs.lemmas.List.{nil_from_length}
use Rattle.vm_state.specs.History.{pager}
use Rattle.vm_types.specs.declared.names.Seat.{Seat}
use Rattle.seat_turns.specs.Stepping.{IsStepWhere, MayChoose}
use Rattle.seat_turns.proofs.OpenWork.{free_at, turn_tried}
use Rattle.seat_turns.proofs.Stepped.{looks_for, works_for_none}
use Rattle.seat_turns.proofs.swapping.find_frame.Goals as goal

pub turn_victim-requires-clause-free : goal.turn_victim-requires-clause-free
turn_victim-requires-clause-free g c κs within = free_at c.args.state.now c.args.carrier.now c.requires.start c.seat.result c.seat.ensures

pub returns-in-None-clause-tried : goal.returns-in-None-clause-tried
returns-in-None-clause-tried g c = turn_tried c.args.state.now c.args.carrier.now c.requires.start c.seat.result c.seat.ensures c.turn_victim.new.state c.turn_victim.result c.turn_victim.ensures.worked c.turn_victim.ensures.none

pub returns-then-modified_len-gt0-clause-step : goal.returns-then-modified_len-gt0-clause-step
returns-then-modified_len-gt0-clause-step g c = λ request waits. c.write_for_room.ensures.step request (inr (inl waits.1))

pub returns-in-Some-clause-step : goal.returns-in-Some-clause-step
returns-in-Some-clause-step g c = λ request waits.
    c.leave.ensures.step request (record {
      leaving = c.in-Some.ensures.leaving;
      why = inl (record {
        but = Some (c.args.p).0;
        looks = looks_for c.args.state.now (c.args.carrier.now).seat.0 (c.args.p).0 request waits.0 waits.1 (nil_from_length (pager c.args.state.now).modified (let none = c.if-modified_len-gt0.false in let count = c.modified_len.ensures in omega (arith, none, count)));
        lowest = sym c.in-Some.ensures.lowest;
      });
    })

pub returns-in-None-clause-step : goal.returns-in-None-clause-step
returns-in-None-clause-step g c = λ request waits.
    subst (λ (x : Seat). IsStepWhere c.args.state.now c.turn_victim.new.state x (MayChoose (Some (c.args.p).0))) c.seat.ensures c.turn_victim.ensures.step request (record {
      looks = looks_for c.args.state.now (c.args.carrier.now).seat.0 (c.args.p).0 request waits.0 waits.1 (nil_from_length (pager c.args.state.now).modified (let none = c.if-modified_len-gt0.false in let count = c.modified_len.ensures in omega (arith, none, count)));
      none_leaving = sym c.in-None.ensures.lowest;
      few = λ none. absurd (works_for_none request waits.1 none);
    })
