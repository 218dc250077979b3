use Rattle.std.proofs.Common.{◌∙◌, Some, ap, sym}
use Rattle.vm_types.specs.declared.config.Config.{Config}
use Rattle.log_laws.specs.Underway.{Underway as UnderwayIs, is_made}
use Rattle.log_rundown.specs.Standing.{onward_as}
use Rattle.log_rundown.specs.Written.{write_as}
use Rattle.log_rundown.proofs.Leads.{outs_begun, outs_none, outs_other}
use Rattle.log_rundown.proofs.outs.step_outs.Goals as goal

pub returns-in_default : goal.returns-in_default
returns-in_default c = outs_none c.args.past.now.config c.args.past.now.past (onward_as c.args.onward) c.args.e c.args.writes.now c.in_default.ensures.cases

pub returns-then-not-is_begun : goal.returns-then-not-is_begun
returns-then-not-is_begun c =
    outs_other c.args.past.now.config c.args.past.now.past (onward_as c.args.onward) c.args.e c.args.writes.now c.in-Some.rest.now c.in-Some.first.now c.in-Some.ensures.cases.0
    (ap (λ (x : Config). is_made x (write_as c.in-Some.first.now) c.args.e) (sym c.config.ensures) ∙ (sym c.is_begun.ensures ∙ c.if-not-is_begun.true))

pub returns : goal.returns
returns c =
    ap (λ (u : UnderwayIs). Some u) c.in_ok-at.ensures
    ∙ outs_begun c.args.past.now.config c.args.past.now.past (onward_as c.args.onward) c.args.e c.args.writes.now c.in-Some.rest.now c.in-Some.first.now c.in-Some.ensures.cases.0
    (ap (λ (x : Config). is_made x (write_as c.in-Some.first.now) c.args.e) (sym c.config.ensures) ∙ (sym c.is_begun.ensures ∙ c.if-not-is_begun.false))
