use Rattle.std.proofs.Common.{◌≡◌, ◌∙◌, length, vec_len, ap, sym, arith}
use Rattle.std.proofs.lemmas.Bool.{eqb-false, eqb-true}
use Rattle.log_laws.specs.Underway.{between_moves}
use Rattle.log_rundown.specs.Standing.{onward_as}
use Rattle.log_rundown.proofs.Leads.{none_to_land, some_to_land}
use Rattle.log_rundown.proofs.landings.after_landings.Goals as goal

pub returns-then-is_empty : goal.returns-then-is_empty
returns-then-is_empty c =
    let none = eqb-true (vec_len c.args.flights) 0 (sym c.is_empty.ensures ∙ c.if-is_empty.true) in
    let count = (c.args.flights).ok.0 in
    ap between_moves c.goes_on-at.ensures ∙ none_to_land c.args.all (onward_as c.args.onward) (c.args.flights).items (omega (arith, none, count))

pub returns : goal.returns
returns c =
    let count = (c.args.flights).ok.0 in
    some_to_land c.args.all (onward_as c.args.onward) (c.args.flights).items
    (λ (none : length (c.args.flights).items ≡ 0). eqb-false (vec_len c.args.flights) 0 (sym c.is_empty.ensures ∙ c.if-is_empty.false) (omega (arith, none, count)))
