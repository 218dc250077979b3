use Rattle.std.proofs.Common.{◌≡◌, false, List, length, reverse, refl, sym, ap, ◌∙◌, subst, arith}
use Rattle.std.proofs.lemmas.List.{length-reverse}
use Rattle.vm_types.specs.declared.names.Seat.{Seat}
use Rattle.frame_store.specs.LiftView.{LiftView}
use Rattle.lift_carriers.specs.CarrierView.{CarrierView}
use Rattle.lift_carriers.specs.Counted.{counted}
use Rattle.vm_state.specs.LiftsLand.{landed_each}
use Rattle.vm_state.proofs.CarrierLands.{AreLandedTo, all_counted, all_landed, last_is_first, may_land, none_landed, none_turned, nothing_left, one_landed, room, turned_back}
use Rattle.vm_state.proofs.state.State.land.Goals as goal

pub loop-n-init : goal.loop-n-init
loop-n-init g c =
    record {
      seat = refl;
      landed = subst (λ (xs : List (LiftView g.row.B.Denot)). AreLandedTo g.B.Block.seen g.B.Block.tells c.seat-seat.result 0 c.args.self.now xs c.args.self.now xs (record { good = 0; bad = 0; first_bad = false })) (sym (turned_back c.args.carrier.now c.turn.new.self c.turn.ensures))
          (none_landed g.B.Block.seen g.B.Block.tells c.seat-seat.result c.args.self.now c.args.carrier.now c.seat-seat.ensures c.requires);
    }

pub last-lift-requires-after_bounds : goal.last-lift-requires-after_bounds
last-lift-requires-after_bounds g c κs within =
    let many = c.loop-n.invariant.landed.many in
    let left = length-reverse c.loop-n.carrier.lifts in
    let same = ap (λ (lifts : List (LiftView g.row.B.Denot)). length lifts) (turned_back c.args.carrier.now c.turn.new.self c.turn.ensures) in
    omega (arith, many, left, same, c.loop-n-test.true, c.len-count.ensures.count)

pub land_lift-failed-requires-clause-may : goal.land_lift-failed-requires-clause-may
land_lift-failed-requires-clause-may g c κs within = may_land g.B.Block.seen g.B.Block.tells c.seat-seat.result c.loop-n.n c.args.self.now (reverse c.turn.new.self.lifts) c.loop-n.self c.loop-n.self c.last-lift.result (reverse c.last-lift.new.self.lifts) c.loop-n.landed
    (subst (λ (xs : List (LiftView g.row.B.Denot)). AreLandedTo g.B.Block.seen g.B.Block.tells c.seat-seat.result c.loop-n.n c.args.self.now (reverse c.turn.new.self.lifts) c.loop-n.self xs c.loop-n.landed) (last_is_first c.loop-n.carrier c.last-lift.new.self c.last-lift.result c.last-lift.ensures) c.loop-n.invariant.landed)

pub one_more-landed-requires : goal.one_more-landed-requires
one_more-landed-requires g c = room g.B.Block.seen g.B.Block.tells c.seat-seat.result c.loop-n.n c.args.self.now (reverse c.turn.new.self.lifts) c.loop-n.self c.loop-n.self c.last-lift.result (reverse c.last-lift.new.self.lifts) c.loop-n.landed
    (subst (λ (xs : List (LiftView g.row.B.Denot)). AreLandedTo g.B.Block.seen g.B.Block.tells c.seat-seat.result c.loop-n.n c.args.self.now (reverse c.turn.new.self.lifts) c.loop-n.self xs c.loop-n.landed) (last_is_first c.loop-n.carrier c.last-lift.new.self c.last-lift.result c.last-lift.ensures) c.loop-n.invariant.landed)
    (let same = ap (λ (lifts : List (LiftView g.row.B.Denot)). length lifts) (turned_back c.args.carrier.now c.turn.new.self c.turn.ensures) in omega (arith, same, c.len-count.ensures.few, c.len-count.ensures.count))

pub loop-n-preserved : goal.loop-n-preserved
loop-n-preserved g c = record {
  seat = sym (ap (λ (x : CarrierView g.row.B.Denot). x.seat) c.last-lift.ensures) ∙ c.loop-n.invariant.seat;
  landed = one_landed g.B.Block.seen g.B.Block.tells c.seat-seat.result c.loop-n.n c.args.self.now (reverse c.turn.new.self.lifts) c.loop-n.self c.land_lift-failed.new.self c.last-lift.result (reverse c.last-lift.new.self.lifts) c.loop-n.landed
      (subst (λ (xs : List (LiftView g.row.B.Denot)). AreLandedTo g.B.Block.seen g.B.Block.tells c.seat-seat.result c.loop-n.n c.args.self.now (reverse c.turn.new.self.lifts) c.loop-n.self xs c.loop-n.landed) (last_is_first c.loop-n.carrier c.last-lift.new.self c.last-lift.result c.last-lift.ensures) c.loop-n.invariant.landed)
      c.land_lift-failed.ensures.landed c.land_lift-failed.result c.land_lift-failed.ensures.failed
      _ refl c.one_more-landed.result c.one_more-landed.ensures.good c.one_more-landed.ensures.bad c.one_more-landed.ensures.first;
}

pub returns-clause-state : goal.returns-clause-state
returns-clause-state g c =
    subst (λ (p : Seat). c.loop-n.self ≡ landed_each p (c.args.carrier.now).lifts c.args.self.now) c.seat-seat.ensures
    (all_landed g.B.Block.seen g.B.Block.tells c.seat-seat.result c.loop-n.n c.args.self.now (reverse c.turn.new.self.lifts) c.loop-n.self (reverse c.loop-n.carrier.lifts) c.loop-n.landed c.loop-n.invariant.landed (let same = ap (λ (lifts : List (LiftView g.row.B.Denot)). length lifts) (turned_back c.args.carrier.now c.turn.new.self c.turn.ensures) in omega (arith, same, c.loop-n-test.false, c.len-count.ensures.count))
    ∙ ap (λ (lifts : List (LiftView g.row.B.Denot)). landed_each c.seat-seat.result lifts c.args.self.now) (turned_back c.args.carrier.now c.turn.new.self c.turn.ensures))

pub returns-clause-calm : goal.returns-clause-calm
returns-clause-calm g c = c.loop-n.invariant.landed.calm

pub returns-clause-carrier : goal.returns-clause-carrier
returns-clause-carrier g c = λ i. record {
  seat = (c.loop-n.invariant.seat ∙ ap (λ (x : CarrierView g.row.B.Denot). x.seat) c.turn.ensures) i;
  lifts = none_turned c.loop-n.carrier.lifts (nothing_left g.B.Block.seen g.B.Block.tells c.seat-seat.result c.loop-n.n c.args.self.now (reverse c.turn.new.self.lifts) c.loop-n.self (reverse c.loop-n.carrier.lifts) c.loop-n.landed c.loop-n.invariant.landed (let same = ap (λ (lifts : List (LiftView g.row.B.Denot)). length lifts) (turned_back c.args.carrier.now c.turn.new.self c.turn.ensures) in omega (arith, same, c.loop-n-test.false, c.len-count.ensures.count))) i;
}

pub returns-clause-numbers : goal.returns-clause-numbers
returns-clause-numbers g c = all_counted g.B.Block.seen g.B.Block.tells c.seat-seat.result c.loop-n.n c.args.self.now (reverse c.turn.new.self.lifts) c.loop-n.self (reverse c.loop-n.carrier.lifts) c.loop-n.landed c.loop-n.invariant.landed (let same = ap (λ (lifts : List (LiftView g.row.B.Denot)). length lifts) (turned_back c.args.carrier.now c.turn.new.self c.turn.ensures) in omega (arith, same, c.loop-n-test.false, c.len-count.ensures.count)) ∙ ap (λ (lifts : List (LiftView g.row.B.Denot)). counted lifts) (turned_back c.args.carrier.now c.turn.new.self c.turn.ensures)
