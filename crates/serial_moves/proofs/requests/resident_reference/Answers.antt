use Rattle.std.proofs.Common.{ap, sym, ◌∙◌}
use Rattle.std.proofs.lemmas.Bool.{false≢true}
use Rattle.std.proofs.lemmas.Option.{none-some}
use Rattle.vm_types.specs.Status.{is_resident}
use Rattle.call_begins.proofs.ReadySeats.{is_in_memory}
use Rattle.serial_moves.proofs.AskedMoves.{not_both}
use Rattle.serial_moves.proofs.requests.resident_reference.Goals as goal

pub returns-in-Some-clause-none : goal.returns-in-Some-clause-none
returns-in-Some-clause-none g c = λ none left resident r is. none-some _ (sym left ∙ c.in-Some.is)

pub returns-then-is_resident-clause-some : goal.returns-then-is_resident-clause-some
returns-then-is_resident-clause-some g c =
    record { none_left = c.in-None.is; resident = is_in_memory _ (ap is_resident (sym c.status.ensures) ∙ (sym c.is_resident.ensures ∙ c.if-is_resident.true)); asked = c.in-Reference.is }

pub returns-then-is_resident-clause-none : goal.returns-then-is_resident-clause-none
returns-then-is_resident-clause-none g c = λ none left resident r is. none-some _ (sym none)

pub returns-else-is_resident-clause-none : goal.returns-else-is_resident-clause-none
returns-else-is_resident-clause-none g c = λ none left resident r is. false≢true (sym c.if-is_resident.false ∙ (c.is_resident.ensures ∙ ap is_resident (c.status.ensures ∙ resident)))

pub returns-in-Service-clause-none : goal.returns-in-Service-clause-none
returns-in-Service-clause-none g c = λ none left resident r is. not_both c.in-Service.field-0 r (sym c.in-Service.is ∙ is)
