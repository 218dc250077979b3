use Rattle.std.proofs.Common.{length, nat_eq, ap, sym, ◌∙◌}
use Rattle.std.proofs.lemmas.Bool.{eq-eqb, ne_eqb}
use Rattle.pager_model.specs.Spoken.{flat_after}
use Rattle.vm_state.specs.History.{History}
use Rattle.vm_state.proofs.FlatShows as shows
use Rattle.vm_state.proofs.state.State.is_all_touched.Goals as goal

pub some_waits-requires-clause-count : goal.some_waits-requires-clause-count
some_waits-requires-clause-count g c = rw c.items-sections.ensures (shows.few_sections c.self.invariant)

pub some_waits-requires-clause-few : goal.some_waits-requires-clause-few
some_waits-requires-clause-few g c = rw c.items-sections.ensures (shows.few_pages c.self.invariant)

pub returns-then-charged-self : goal.returns-then-charged-self
returns-then-charged-self g c =
    shows.all_is c.self.invariant c.charged.result (c.charged.ensures.value ∙ c.self.invariant.parts.file.charges) (eq-eqb _ _ c.if-charged-self.true) c.some_waits.result c.some_waits.ensures.some
    (λ none. (
      λ p within. c.some_waits.ensures.own none p (rw c.items.ensures within),
      λ s within. rw c.items-sections.ensures at (c.some_waits.ensures.shared none s (rw c.items-sections.ensures within)),
    ))
    ∙ ap (λ (s : History). nat_eq (length (flat_after s.config s.past).touched) s.config.pagefile) c.self.view_is

pub returns-else-charged-self : goal.returns-else-charged-self
returns-else-charged-self g c =
    ne_eqb _ _ c.if-charged-self.false
    ∙ sym (shows.not_charged c.self.invariant c.charged.result (c.charged.ensures.value ∙ c.self.invariant.parts.file.charges) (ne_eqb _ _ c.if-charged-self.false))
    ∙ ap (λ (s : History). nat_eq (length (flat_after s.config s.past).touched) s.config.pagefile) c.self.view_is
