use Rattle.std.proofs.Common.{ℕ, ◌≡◌, ◌∷◌, ◌∙◌, IfOk, List, length, true, ap, subst, sym}
use Rattle.std.proofs.lemmas.Bool.{eqb-false, eqb-true}
use Rattle.pager_model.specs.Flights.{carrier_of}
use Rattle.log_laws.specs.Underway.{Underway as UnderwayIs, after_landings, in_outs}
use Rattle.log_rundown.specs.Standing.{onward_as, standing_as}
use Rattle.log_rundown.specs.Written.{writes_as}
use Rattle.log_rundown.specs.declared.standing.Standing.{Standing}
use Rattle.log_rundown.specs.declared.write.Write.{Write}
use Rattle.log_rundown.proofs.Leads.{a_write_left, no_write_left}
use Rattle.log_rundown.proofs.outs.after_outs.Goals as goal

pub returns-then-is_empty : goal.returns-then-is_empty
returns-then-is_empty c =
    let past = c.args.past.now.past in
    let onward = onward_as c.args.onward in
    subst (λ (u : UnderwayIs). IfOk c.first_landings.result (λ (at : Standing). standing_as at ≡ u))
    (ap (λ (s : ℕ). after_landings (carrier_of s (c.args.e ∷ past)) true onward) c.requires.writer
    ∙ no_write_left c.args.past.now.config past onward c.args.e c.args.writes.now (eqb-true (length c.args.writes.now) 0 (sym c.is_empty.ensures ∙ c.if-is_empty.true)))
    c.first_landings.ensures

pub returns : goal.returns
returns c =
    ap (λ (ws : List Write). in_outs (writes_as ws) (onward_as c.args.onward)) c.in_ok-rest.ensures
    ∙ a_write_left c.args.past.now.config c.args.past.now.past (onward_as c.args.onward) c.args.e c.args.writes.now (eqb-false (length c.args.writes.now) 0 (sym c.is_empty.ensures ∙ c.if-is_empty.false))
