use Rattle.std.proofs.Common.{◌≡◌, ℕ, ◌+◌, ◌∙◌, cond, nat_lt, arith}
use Rattle.pager_model.specs.Flights.{open_flights}
use Rattle.pager_model.specs.Lookups.{shares}
use Rattle.pager_model.specs.Report.{pins_on}
use Rattle.pager_model.specs.Transfers.{reads_on, writes_on}
use Rattle.shadow_pager.specs.Shown.{shown}
use Rattle.log_report.proofs.SmallCounts.{one_flight, small_pins, small_shares}
use Rattle.log_report.proofs.recounting.frame_row.Goals as goal

pub narrowed-shares-requires : goal.narrowed-shares-requires
narrowed-shares-requires c =
    omega (arith, c.shares.ensures, small_shares c.args.past.now.config c.args.past.now.past (shown c.args.pager.now) c.requires (c.args.f).0)

pub narrowed-flights-requires : goal.narrowed-flights-requires
narrowed-flights-requires c =
    omega (arith, c.flights_on.ensures, one_flight c.args.past.now.config c.args.past.now.past (shown c.args.pager.now) c.requires (c.args.f).0)

pub narrowed-pins-requires : goal.narrowed-pins-requires
narrowed-pins-requires c =
    omega (arith, c.pins.ensures, small_pins c.args.past.now.config c.args.past.now.past (shown c.args.pager.now) c.requires (c.args.f).0)

pub refs-requires-clause-pins : goal.refs-requires-clause-pins
refs-requires-clause-pins c =
    omega (arith, c.narrowed-pins.ensures, c.pins.ensures, small_pins c.args.past.now.config c.args.past.now.past (shown c.args.pager.now) c.requires (c.args.f).0)

pub refs-requires-clause-flights : goal.refs-requires-clause-flights
refs-requires-clause-flights c =
    omega (arith, c.narrowed-flights.ensures, c.flights_on.ensures, one_flight c.args.past.now.config c.args.past.now.past (shown c.args.pager.now) c.requires (c.args.f).0)

pub returns : goal.returns
returns c =
    let a = (shown c.args.pager.now).pager in
    let shared : c.narrowed-shares.result ≡ shares a.valid (c.args.f).0 = c.narrowed-shares.ensures ∙ c.shares.ensures in
    let open_on : c.narrowed-flights.result ≡ reads_on (c.args.f).0 (open_flights c.args.past.now.past) + writes_on (c.args.f).0 (open_flights c.args.past.now.past) =
    c.narrowed-flights.ensures ∙ c.flights_on.ensures in
    let held : c.narrowed-pins.result ≡ pins_on a (c.args.f).0 = c.narrowed-pins.ensures ∙ c.pins.ensures in
    let counted = c.refs.ensures ∙ (λ i. (cond {A = ℕ} (nat_lt 0 (shared i)) 1 0 + open_on i) + held i) in
    λ i. record { state = c.state.ensures i; page = c.page.ensures i; modify = c.is_modified.ensures i; refs = counted i; shares = shared i }
