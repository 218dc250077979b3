use Rattle.std.proofs.Common.{sym, subst, ◌≡◌, true}
use Rattle.command_messages.specs.Reasons.{begins}
use Rattle.command_messages.proofs.Beginning.{begins_not, begins_with}
use Rattle.command_messages.proofs.reasons.begins.Goals as goal

pub returns-in-Some : goal.returns-in-Some
returns-in-Some c = subst (λ text. true ≡ begins c.args.front.now text) (sym c.in-Some.ensures) (begins_with c.args.front.now c.in-Some.field-0.now)

pub returns-in-None : goal.returns-in-None
returns-in-None c = begins_not c.args.front.now c.args.text.now c.in-None.ensures
