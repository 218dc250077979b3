use Rattle.std.proofs.Common.{ap, inl, sym, ◌∙◌}
use Rattle.std.proofs.lemmas.Bool.{false≢true}
use Rattle.vm_types.specs.Status.{is_resident}
use Rattle.seat_turns.proofs.refusing.is_failed.Goals as goal

pub returns-then-not-is_resident-clause-waits : goal.returns-then-not-is_resident-clause-waits
returns-then-not-is_resident-clause-waits g c = λ told. inl (λ resident. false≢true (sym c.if-not-is_resident.true ∙ (c.is_resident.ensures ∙ ap is_resident (c.status.ensures ∙ resident))))
