use Rattle.std.proofs.Common.{◌≡◌, ◌+◌, true, IsNone, length, refl, ap}
use Rattle.pager_model.specs.Carrier.{carrying}
use Rattle.pager_model.specs.Flights.{Flight, begun_by, is_busy, open_flights, reading, writing}
use Rattle.row_requests.proofs.Joins.{begun_fails, begun_joins}
use Rattle.row_requests.proofs.turns.joins_fail.Goals as goal

pub returns-in-In-clause-legal : goal.returns-in-In-clause-legal
returns-in-In-clause-legal c =
    let past = c.args.past.now in
    let seat = c.args.e.seat.0 in
    let x : Flight = record { start = length past.past + 1; seat = seat; frame = c.in-In.f.0; block = c.in-In.block; direction = reading c.in-In.role } in
    begun_joins past.config c.config.result.now (carrying seat past.past) c.carrying.result (begun_by (length past.past + 1) seat c.args.e.what) x (IsNone c.read_joins_fail.result)
    c.config.ensures c.carrying.ensures (ap (begun_by (length past.past + 1) seat) c.in-In.is) (c.read_joins_fail.ensures.legal x refl refl)

pub returns-in-In-clause-said : goal.returns-in-In-clause-said
returns-in-In-clause-said c =
    let past = c.args.past.now in
    let seat = c.args.e.seat.0 in
    let x : Flight = record { start = length past.past + 1; seat = seat; frame = c.in-In.f.0; block = c.in-In.block; direction = reading c.in-In.role } in
    begun_fails past.config c.config.result.now (carrying seat past.past) c.carrying.result (begun_by (length past.past + 1) seat c.args.e.what) x (is_busy seat (open_flights past.past) ≡ true) c.read_joins_fail.result
    c.config.ensures c.carrying.ensures (ap (begun_by (length past.past + 1) seat) c.in-In.is) c.requires.busy (c.read_joins_fail.ensures.said x refl refl)

pub returns-in-Out-clause-legal : goal.returns-in-Out-clause-legal
returns-in-Out-clause-legal c =
    let past = c.args.past.now in
    let seat = c.args.e.seat.0 in
    let x : Flight = record { start = length past.past + 1; seat = seat; frame = c.in-Out.f.0; block = c.in-Out.block; direction = writing } in
    begun_joins past.config c.config-in-Out.result.now (carrying seat past.past) c.carrying-in-Out.result (begun_by (length past.past + 1) seat c.args.e.what) x (IsNone c.write_joins_fail.result)
    c.config-in-Out.ensures c.carrying-in-Out.ensures (ap (begun_by (length past.past + 1) seat) c.in-Out.is) (c.write_joins_fail.ensures.legal x refl refl)

pub returns-in-Out-clause-said : goal.returns-in-Out-clause-said
returns-in-Out-clause-said c =
    let past = c.args.past.now in
    let seat = c.args.e.seat.0 in
    let x : Flight = record { start = length past.past + 1; seat = seat; frame = c.in-Out.f.0; block = c.in-Out.block; direction = writing } in
    begun_fails past.config c.config-in-Out.result.now (carrying seat past.past) c.carrying-in-Out.result (begun_by (length past.past + 1) seat c.args.e.what) x (is_busy seat (open_flights past.past) ≡ true) c.write_joins_fail.result
    c.config-in-Out.ensures c.carrying-in-Out.ensures (ap (begun_by (length past.past + 1) seat) c.in-Out.is) c.requires.busy (c.write_joins_fail.ensures.said x refl refl)
