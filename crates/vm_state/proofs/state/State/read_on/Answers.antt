use Rattle.std.proofs.Common.{◌<◌, find, ap, sym, subst, ◌∙◌, arith}
use Rattle.std.specs.Option.{option_map}
use Rattle.std.proofs.lemmas.List.{length-reverse, reverse-reverse}
use Rattle.pager_model.specs.Flights.{open_flights}
use Rattle.pager_model.specs.Transfers.{is_read_on}
use Rattle.vm_state.specs.FlightReadings.{read_by}
use Rattle.vm_state.specs.History.{History}
use Rattle.vm_state.proofs.FlightShows as shows
use Rattle.vm_state.proofs.state.State.read_on.Goals as goal

pub returns-in_err-index : goal.returns-in_err-index
returns-in_err-index g c =
    c.from_residual.ensures
    ∙ sym (ap (option_map read_by) (shows.none_is c.self.invariant c.args.f.0 c.index.result.now (subst (λ (s : History). c.args.f.0 < s.config.frames) (sym c.self.view_is) c.requires) c.index.ensures c.in_err-index.was))
    ∙ ap (λ (s : History). option_map read_by (find (is_read_on c.args.f.0) (open_flights s.past))) c.self.view_is

pub returns-in_err-start : goal.returns-in_err-start
returns-in_err-start g c =
    c.from_residual-in_err-start.ensures
    ∙ sym (ap (option_map read_by) (shows.no_start c.self.invariant c.args.f.0 (subst (λ (s : History). c.args.f.0 < s.config.frames) (sym c.self.view_is) c.requires) c.in_err-start.ensures))
    ∙ ap (λ (s : History). option_map read_by (find (is_read_on c.args.f.0) (open_flights s.past))) c.self.view_is

pub seat_of-seat-requires-clause-some : goal.seat_of-seat-requires-clause-some
seat_of-seat-requires-clause-some g c =
    let both = shows.open_is c.self.invariant c.args.f.0 c.in_ok-start.start c.index.result.now c.in_ok-index.field-0 (subst (λ (s : History). c.args.f.0 < s.config.frames) (sym c.self.view_is) c.requires) c.index.ensures c.in_ok-index.was c.in_ok-start.ensures in
    (both.1).least

pub seat_of-seat-requires-clause-within : goal.seat_of-seat-requires-clause-within
seat_of-seat-requires-clause-within g c =
    let both = shows.open_is c.self.invariant c.args.f.0 c.in_ok-start.start c.index.result.now c.in_ok-index.field-0 (subst (λ (s : History). c.args.f.0 < s.config.frames) (sym c.self.view_is) c.requires) c.index.ensures c.in_ok-index.was c.in_ok-start.ensures in
    let most = (both.1).most in
    let count = length-reverse c.self.inside.journal.entries in
    omega (arith, most, count)

pub returns : goal.returns
returns g c =
    shows.shown_is c.self.invariant c.args.f.0 c.in_ok-start.start c.index.result.now c.in_ok-index.field-0 c.self.inside.journal.entries c.seat_of-seat.result (subst (λ (s : History). c.args.f.0 < s.config.frames) (sym c.self.view_is) c.requires) c.index.ensures c.in_ok-index.was c.in_ok-start.ensures
    (sym (reverse-reverse c.self.inside.journal.entries)) c.seat_of-seat.ensures
    ∙ ap (λ (s : History). option_map read_by (find (is_read_on c.args.f.0) (open_flights s.past))) c.self.view_is
