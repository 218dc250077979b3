use Rattle.std.proofs.Common.{◌≡◌, ℕ, List, Option, nat_lt, ap, ◌∙◌, sym, arith}
use Rattle.std.specs.List.{list_any}
use Rattle.vm_journal.specs.declared.entry.Role.{Role}
use Rattle.pager_model.specs.Flights.{open_flights}
use Rattle.pager_model.specs.Transfers.{has_come}
use Rattle.state_pages.specs.ComeRoles.{comes}
use Rattle.vm_state.specs.History.{History}
use Rattle.vm_state.proofs.FlightShows as shows
use Rattle.vm_state.proofs.state.State.has_come.Goals as goal

pub returns-then-self-gt0 : goal.returns-then-self-gt0
returns-then-self-gt0 g c =
    c.any_comes.ensures
    ∙ ap (λ (xs : List (Option Role)). list_any (comes c.args.p.0) xs) c.deref.ensures.value
    ∙ shows.come_is c.self.invariant c.args.p.0
    ∙ ap (λ (s : History). has_come c.args.p.0 (open_flights s.past)) c.self.view_is

pub returns-else-self-gt0 : goal.returns-else-self-gt0
returns-else-self-gt0 g c =
    ap (λ (k : ℕ). nat_lt 0 k) (let none : c.self.inside.in_flight ≡ 0 = let least = c.if-self-gt0.false in omega (arith, least) in none)
    ∙ sym (shows.none_comes c.self.invariant c.args.p.0 (let none = c.if-self-gt0.false in omega (arith, none)))
    ∙ ap (λ (s : History). has_come c.args.p.0 (open_flights s.past)) c.self.view_is
