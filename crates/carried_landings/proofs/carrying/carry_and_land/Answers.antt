use Rattle.std.proofs.Common.{◌≡◌, false, [], ◌∙◌, ap, sym, subst}
use Rattle.vm_types.specs.declared.names.Seat.{Seat}
use Rattle.pager_model.specs.Flights.{is_busy, open_flights}
use Rattle.lift_carriers.specs.CarrierView.{CarrierView}
use Rattle.vm_state.specs.Based.{base_of}
use Rattle.carried_landings.specs.HaveLanded.{HaveLanded}
use Rattle.carried_landings.specs.SeatFlights.{of_others}
use Rattle.carried_landings.proofs.CarriedLifts.{none_waits}
use Rattle.carried_landings.proofs.CarriedOut.{begun_out, begun_wait, out_carried, own_out}
use Rattle.carried_landings.proofs.carrying.carry_and_land.Goals as goal

pub carry-requires-after_bounds : goal.carry-requires-after_bounds
carry-requires-after_bounds g c κs within = begun_wait c.args.state.now (c.args.carrier.now).seat c.args.carrier.now c.requires.lifts

pub land_carried-requires-clause-out : goal.land_carried-requires-clause-out
land_carried-requires-clause-out g c κs within =
    own_out (base_of c.args.state.now) (c.args.state.now).past (c.args.carrier.now).seat c.carry.new.self
    (out_carried (base_of c.args.state.now) (c.args.state.now).past (c.args.carrier.now).seat c.args.carrier.now c.carry.new.self c.carry.ensures.seat c.carry.ensures.carried
    (c.carry.ensures.fits (c.args.state.now).config (c.args.state.now).past)
    (begun_out c.args.state.now (c.args.carrier.now).seat c.args.carrier.now c.requires.lifts c.requires.whole))

pub land_carried-requires-clause-carried : goal.land_carried-requires-clause-carried
land_carried-requires-clause-carried g c κs within = none_waits g.B.Block.seen g.B.Block.tells (c.args.carrier.now).lifts (c.carry.new.self).lifts c.carry.ensures.carried

pub returns-clause-landed : goal.returns-clause-landed
returns-clause-landed g c =
    subst (λ (own : Seat). HaveLanded (c.args.state.now).config own.0 (c.args.state.now).past (c.land_carried.new.state).past c.land_carried.result) c.carry.ensures.seat c.land_carried.ensures.landed

pub returns-clause-others : goal.returns-clause-others
returns-clause-others g c = c.land_carried.ensures.others ∙ ap (λ (own : Seat). of_others own.0 (open_flights (c.args.state.now).past)) c.carry.ensures.seat

pub returns-clause-idle : goal.returns-clause-idle
returns-clause-idle g c = subst (λ (own : Seat). is_busy own.0 (open_flights (c.land_carried.new.state).past) ≡ false) c.carry.ensures.seat c.land_carried.ensures.idle
