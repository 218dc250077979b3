use Rattle.std.proofs.Common.{◌≡◌, ◌<◌, ◌≤◌, length, sym, subst, arith}
use Rattle.std.specs.List.{AllByRecursion}
use Rattle.frame_store.specs.LiftView.{LiftView}
use Rattle.frame_store.specs.declared.lift.Carried.TheVariants.{Waiting}
use Rattle.lift_carriers.specs.CarrierView.{CarrierView}
use Rattle.lift_carriers.specs.Carrying.{AreCarried}
use Rattle.lift_carriers.proofs.Carries.{all_carried, all_still_fit, next_waits, one_more}
use Rattle.lift_carriers.proofs.carrier.Carrier.carry.Goals as goal

pub carry-requires-after_bounds : goal.carry-requires-after_bounds
carry-requires-after_bounds g c κs bounds =
    let within : c.loop-n.n < length c.loop-n.self-inside.lifts.items = omega (arith, c.loop-n-test.true, c.loop-n.invariant.many, c.len-n-end.ensures, c.loop-n.self-inside.lifts.ok.0) in
    next_waits g.B.Block.seen g.B.Block.tells c.loop-n.n c.self.inside.lifts.items c.loop-n.self-inside.lifts.items c.index_mut-lift.result.now c.loop-n.invariant.carried
    within c.index_mut-lift.ensures.value (subst (λ (v : CarrierView g.row.B.Denot). AllByRecursion (λ (lift : LiftView g.row.B.Denot). lift.result ≡ Waiting) v.lifts) (sym c.self.view_is) c.requires)

pub loop-n-preserved : goal.loop-n-preserved
loop-n-preserved g c =
    let within : c.loop-n.n < length c.loop-n.self-inside.lifts.items = omega (arith, c.loop-n-test.true, c.loop-n.invariant.many, c.len-n-end.ensures, c.loop-n.self-inside.lifts.ok.0) in
    record {
      few = c.loop-n.invariant.few;
      seat = c.loop-n.invariant.seat;
      room = c.loop-n.invariant.room;
      many = c.loop-n.invariant.many;
      carried = one_more g.B.Block.seen g.B.Block.tells c.loop-n.n c.self.inside.lifts.items c.loop-n.self-inside.lifts.items
          c.index_mut-lift.result.now c.carry.new.self c.loop-n.invariant.carried within c.index_mut-lift.ensures.value
          (record {
            same = c.carry.ensures.same;
            size = c.carry.ensures.size;
            written = c.carry.ensures.written;
            as_planned = c.carry.ensures.plan;
            read_once = c.carry.ensures.reads;
            written_once = c.carry.ensures.writes;
            result = c.carry.ensures.result;
          });
    }

pub returns-clause-carried : goal.returns-clause-carried
returns-clause-carried g c =
    let past : length c.loop-n.self-inside.lifts.items ≤ c.loop-n.n = omega (arith, c.loop-n-test.false, c.loop-n.invariant.many, c.len-n-end.ensures, c.loop-n.self-inside.lifts.ok.0) in
    subst (λ (v : CarrierView g.row.B.Denot). AreCarried g.B.Block.seen g.B.Block.tells v.lifts c.loop-n.self-inside.lifts.items) c.self.view_is
    (all_carried g.B.Block.seen g.B.Block.tells c.loop-n.n c.self.inside.lifts.items c.loop-n.self-inside.lifts.items c.loop-n.invariant.carried past)

pub returns-clause-fits : goal.returns-clause-fits
returns-clause-fits g c =
    let past : length c.loop-n.self-inside.lifts.items ≤ c.loop-n.n = omega (arith, c.loop-n-test.false, c.loop-n.invariant.many, c.len-n-end.ensures, c.loop-n.self-inside.lifts.ok.0) in
    all_still_fit g.B.Block.seen g.B.Block.tells (c.args.self.now).lifts c.loop-n.self-inside.lifts.items
    (subst (λ (v : CarrierView g.row.B.Denot). AreCarried g.B.Block.seen g.B.Block.tells v.lifts c.loop-n.self-inside.lifts.items) c.self.view_is
    (all_carried g.B.Block.seen g.B.Block.tells c.loop-n.n c.self.inside.lifts.items c.loop-n.self-inside.lifts.items c.loop-n.invariant.carried past))
    c.requires
