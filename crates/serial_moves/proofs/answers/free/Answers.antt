use Rattle.std.proofs.Common.{ℕ, ◌+◌, refl, ap, ◌∙◌, arith}
use Rattle.vm_state.specs.History.{pager}
use Rattle.serial_moves.proofs.AfterAnswers.{here_as, leaves_on, left_there, move_as, none_left}
use Rattle.serial_moves.proofs.IdleCarriers.{carrier_there, empty_at, kept_at}
use Rattle.serial_moves.proofs.answers.free.Goals as goal

-- ---- the process that is being left
pub bounds-carriers-seat : goal.bounds-carriers-seat
bounds-carriers-seat g c = carrier_there c.args.state.now c.args.carriers.now c.requires.may.carriers (c.processes.result + 1) (let count = c.processes.ensures.count in omega (arith, count))

pub leave-requires-clause-may : goal.leave-requires-clause-may
leave-requires-clause-may g c κs within = record {
  steady = c.requires.may.steady;
  there = let count = c.processes.ensures.count in omega (arith, count);
  carrier = empty_at c.args.state.now c.args.carriers.now c.requires.may.carriers (c.processes.result + 1) c.index-carriers-seat.result (let count = c.processes.ensures.count in omega (arith, count));
}

pub leave-requires-clause-process : goal.leave-requires-clause-process
leave-requires-clause-process g c κs within = (left_there c.args.state.now.config (pager c.args.state.now) c.args.leaving c.in-Some.q c.in-Some.is c.requires.left).0

pub leave-requires-clause-leaving : goal.leave-requires-clause-leaving
leave-requires-clause-leaving g c κs within = (left_there c.args.state.now.config (pager c.args.state.now) c.args.leaving c.in-Some.q c.in-Some.is c.requires.left).1

pub leave-requires-clause-here : goal.leave-requires-clause-here
leave-requires-clause-here g c κs within =
    here_as c.args.state.now _ _
    (leaves_on c.args.state.now.config c.args.state.now.past (pager c.args.state.now) c.args.begun (c.args.p).0 c.args.leaving c.in-Some.q (c.processes.result + 1) c.in-Some.is (ap (λ (n : ℕ). n + 1) c.processes.ensures.count))
    c.requires.here

pub returns-in_err-next-in-Some-clause-carriers : goal.returns-in_err-next-in-Some-clause-carriers
returns-in_err-next-in-Some-clause-carriers g c = kept_at c.args.state.now c.args.carriers.now c.requires.may.carriers (c.processes.result + 1) c.index-carriers-seat.result c.leave.new.carrier c.leave.ensures.carrier

pub returns-in_ok-next-in-Some-clause-carriers : goal.returns-in_ok-next-in-Some-clause-carriers
returns-in_ok-next-in-Some-clause-carriers g c = kept_at c.args.state.now c.args.carriers.now c.requires.may.carriers (c.processes.result + 1) c.index-carriers-seat.result c.leave.new.carrier c.leave.ensures.carrier

pub returns-in_ok-next-in-Some-clause-comes : goal.returns-in_ok-next-in-Some-clause-comes
returns-in_ok-next-in-Some-clause-comes g c =
    move_as g.B.Block.tells.content c.args.state.now c.leave.new.state _ _ _
    (leaves_on c.args.state.now.config c.args.state.now.past (pager c.args.state.now) c.args.begun (c.args.p).0 c.args.leaving c.in-Some.q (c.processes.result + 1) c.in-Some.is (ap (λ (n : ℕ). n + 1) c.processes.ensures.count))
    c.in_ok-next-in-Some.ensures.moved

-- ---- a frame is found
pub bounds-carriers-seat-in-Some-finder : goal.bounds-carriers-seat-in-Some-finder
bounds-carriers-seat-in-Some-finder g c =
    carrier_there c.args.state.now c.args.carriers.now c.requires.may.carriers (c.processes.result + 1) (let count = c.processes.ensures.count in omega (arith, count))

pub find_frame-requires-clause-may : goal.find_frame-requires-clause-may
find_frame-requires-clause-may g c κs within = record {
  steady = c.requires.may.steady;
  there = let count = c.processes.ensures.count in omega (arith, count);
  carrier = empty_at c.args.state.now c.args.carriers.now c.requires.may.carriers (c.processes.result + 1) c.index-carriers-seat-in-Some-finder.result (let count = c.processes.ensures.count in omega (arith, count));
}

pub find_frame-requires-clause-there : goal.find_frame-requires-clause-there
find_frame-requires-clause-there g c κs within = c.in-Some-finder.ensures.there

pub find_frame-requires-clause-here : goal.find_frame-requires-clause-here
find_frame-requires-clause-here g c κs within =
    here_as c.args.state.now _ _
    (none_left c.args.state.now.config c.args.state.now.past (pager c.args.state.now) c.args.begun (c.args.p).0 c.args.leaving c.in-None.is
    ∙ c.in-Some-finder.ensures.move_is (c.processes.result + 1) (ap (λ (n : ℕ). n + 1) c.processes.ensures.count))
    c.requires.here

pub returns-in_err-next-in-Some-finder-clause-carriers : goal.returns-in_err-next-in-Some-finder-clause-carriers
returns-in_err-next-in-Some-finder-clause-carriers g c =
    kept_at c.args.state.now c.args.carriers.now c.requires.may.carriers (c.processes.result + 1) c.index-carriers-seat-in-Some-finder.result c.find_frame.new.carrier c.find_frame.ensures.carrier

pub returns-in_ok-next-in-Some-finder-clause-carriers : goal.returns-in_ok-next-in-Some-finder-clause-carriers
returns-in_ok-next-in-Some-finder-clause-carriers g c =
    kept_at c.args.state.now c.args.carriers.now c.requires.may.carriers (c.processes.result + 1) c.index-carriers-seat-in-Some-finder.result c.find_frame.new.carrier c.find_frame.ensures.carrier

pub returns-in_ok-next-in-Some-finder-clause-comes : goal.returns-in_ok-next-in-Some-finder-clause-comes
returns-in_ok-next-in-Some-finder-clause-comes g c =
    move_as g.B.Block.tells.content c.args.state.now c.find_frame.new.state _ _ _
    (none_left c.args.state.now.config c.args.state.now.past (pager c.args.state.now) c.args.begun (c.args.p).0 c.args.leaving c.in-None.is
    ∙ c.in-Some-finder.ensures.move_is (c.processes.result + 1) (ap (λ (n : ℕ). n + 1) c.processes.ensures.count))
    c.in_ok-next-in-Some-finder.ensures.moved

-- ---- the part is over
pub returns-in-None-finder-clause-comes : goal.returns-in-None-finder-clause-comes
returns-in-None-finder-clause-comes g c = record {
  same = refl;
  asks =
      none_left c.args.state.now.config c.args.state.now.past (pager c.args.state.now) c.args.begun (c.args.p).0 c.args.leaving c.in-None.is
      ∙ c.in-None-finder.ensures.move_is (c.processes.result + 1) (ap (λ (n : ℕ). n + 1) c.processes.ensures.count);
  left = tt;
}
