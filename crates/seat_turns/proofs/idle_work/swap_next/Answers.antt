use Rattle.std.proofs.Common.{inl, inr, None, refl, ap, sym, subst, arith}
use Rattle.vm_types.specs.declared.config.Config.{Config}
use Rattle.vm_types.specs.declared.names.Seat.{Seat}
use Rattle.lift_carriers.specs.CarrierView.{CarrierView}
use Rattle.vm_state.specs.History.{pager}
use Rattle.call_begins.specs.MayBegin.{empty}
use Rattle.seat_turns.specs.Steps.{HasTurned}
use Rattle.seat_turns.specs.declared.turned.Turned.TheVariants.{Made, Rests}
use Rattle.seat_turns.proofs.Resting.{swapped_lowest, swapped_none}
use Rattle.seat_turns.proofs.OpenWork.{may_start}
use Rattle.seat_turns.proofs.Worked.{waits_turned, worked_turned}
use Rattle.seat_steps.specs.Steps.{IsStep, IsToLeave}
use Rattle.seat_turns.proofs.Stepped.{no_step}
use Rattle.seat_turns.proofs.idle_work.swap_next.Goals as goal

pub leave_lowest-requires-clause-start : goal.leave_lowest-requires-clause-start
leave_lowest-requires-clause-start g c κs within = may_start c.args.state.now c.args.seat c.args.carrier.now c.requires.free c.requires.carrier

pub returns-in-Some-clause-turned : goal.returns-in-Some-clause-turned
returns-in-Some-clause-turned g c =
    subst (λ (x : Seat). HasTurned g.B.Block.seen g.B.Block.tells c.args.state.now c.leave_lowest.new.state x None c.leave_lowest.result c.leave_lowest.new.carrier)
    (ap (λ (x : CarrierView g.row.B.Denot). x.seat) c.requires.carrier) c.leave_lowest.ensures.turned

pub returns-in-Some-clause-rests : goal.returns-in-Some-clause-rests
returns-in-Some-clause-rests g c = λ is.
    swapped_lowest (c.args.state.now).config (c.args.state.now).past (pager c.args.state.now) c.in-Some.q c.in-Some.ensures.lowest (c.leave_lowest.ensures.rests is)

pub returns-then-free_len-config-clause-turned : goal.returns-then-free_len-config-clause-turned
returns-then-free_len-config-clause-turned g c =
    waits_turned c.args.state.now c.args.state.now c.args.seat c.requires.free c.requires.running refl None Rests c.args.carrier.now c.requires.carrier tt refl tt

pub returns-then-free_len-config-clause-rests : goal.returns-then-free_len-config-clause-rests
returns-then-free_len-config-clause-rests g c = λ is.
    swapped_none (c.args.state.now).config (c.args.state.now).past (pager c.args.state.now) c.in_default.ensures.lowest
    (inl (let enough = c.if-free_len-config.true in let free = c.free_len.ensures in let limit = ap (λ (config : Config). config.params.freelim) c.config.ensures in omega (arith, enough, free, limit)))

pub returns-then-turn_victim-clause-turned : goal.returns-then-turn_victim-clause-turned
returns-then-turn_victim-clause-turned g c =
    subst (λ (x : CarrierView g.row.B.Denot). HasTurned g.B.Block.seen g.B.Block.tells c.args.state.now c.turn_victim.new.state c.args.seat None Made x) (sym c.requires.carrier)
    (worked_turned c.args.state.now c.turn_victim.new.state c.args.seat c.requires.free c.requires.running None (empty c.args.seat) c.turn_victim.ensures.worked)

pub returns-else-turn_victim-clause-turned : goal.returns-else-turn_victim-clause-turned
returns-else-turn_victim-clause-turned g c =
    waits_turned c.args.state.now c.turn_victim.new.state c.args.seat c.requires.free c.requires.running (c.turn_victim.ensures.none c.if-turn_victim.false) None Rests c.args.carrier.now c.requires.carrier tt refl tt

pub returns-else-turn_victim-clause-rests : goal.returns-else-turn_victim-clause-rests
returns-else-turn_victim-clause-rests g c = λ is.
    swapped_none (c.args.state.now).config (c.args.state.now).past (pager c.args.state.now) c.in_default.ensures.lowest (inr (c.turn_victim.ensures.nobody c.if-turn_victim.false))

pub returns-in-Some-clause-step : goal.returns-in-Some-clause-step
returns-in-Some-clause-step g c = λ is.
    subst (λ (x : CarrierView g.row.B.Denot). IsToLeave (c.args.state.now).config (c.args.state.now).past (x.seat).0 None (c.in-Some.q).0 → IsStep (c.args.state.now).config (c.args.state.now).past (c.leave_lowest.new.state).past (x.seat).0 None)
    c.requires.carrier c.leave_lowest.ensures.step (record {
      leaving = c.in-Some.ensures.leaving;
      why = inl (record { but = None; looks = ap (λ (x : Seat). x.0) is; lowest = sym c.in-Some.ensures.lowest });
    })

pub returns-then-free_len-config-clause-step : goal.returns-then-free_len-config-clause-step
returns-then-free_len-config-clause-step g c = λ is. no_step c.args.state.now c.args.state.now (c.args.seat).0 None refl

pub returns-then-turn_victim-clause-step : goal.returns-then-turn_victim-clause-step
returns-then-turn_victim-clause-step g c = λ is.
    c.turn_victim.ensures.step None (record {
      looks = ap (λ (x : Seat). x.0) is;
      none_leaving = sym c.in_default.ensures.lowest;
      few = λ none.
          let fewer = c.if-free_len-config.false in
          let free = c.free_len.ensures in
          let limit = ap (λ (config : Config). config.params.freelim) c.config.ensures in
          omega (arith, fewer, free, limit);
    })

pub returns-else-turn_victim-clause-step : goal.returns-else-turn_victim-clause-step
returns-else-turn_victim-clause-step g c = λ is.
    c.turn_victim.ensures.step None (record {
      looks = ap (λ (x : Seat). x.0) is;
      none_leaving = sym c.in_default.ensures.lowest;
      few = λ none.
          let fewer = c.if-free_len-config.false in
          let free = c.free_len.ensures in
          let limit = ap (λ (config : Config). config.params.freelim) c.config.ensures in
          omega (arith, fewer, free, limit);
    })
