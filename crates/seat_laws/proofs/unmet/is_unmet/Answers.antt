use Rattle.std.proofs.Common.{ap, inl, sym, ◌∙◌}
use Rattle.std.proofs.lemmas.Bool.{false≢true}
use Rattle.vm_types.specs.Status.{is_resident}
use Rattle.vm_state.specs.History.{pager}
use Rattle.seat_laws.proofs.UnmetReferences.{shown_unmet}
use Rattle.seat_laws.proofs.unmet.is_unmet.Goals as goal

pub returns-in-Some : goal.returns-in-Some
returns-in-Some g c = λ invalid. shown_unmet c.args.state.now.config (pager c.args.state.now) (c.args.p).0 c.args.r c.in-Some.found c.in-Some.ensures invalid

pub returns-then-not-is_resident : goal.returns-then-not-is_resident
returns-then-not-is_resident g c = λ told. inl (λ resident. false≢true (sym c.if-not-is_resident.true ∙ (c.is_resident.ensures ∙ ap is_resident (c.status.ensures ∙ resident))))
