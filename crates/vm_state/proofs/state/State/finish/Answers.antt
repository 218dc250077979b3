use Rattle.std.proofs.Common.{[], ◌≡◌, ◌∙◌, ap, reverse, subst, sym}
use Rattle.std.proofs.lemmas.List.{reverse-reverse}
use Rattle.pager_model.specs.Flights.{open_flights}
use Rattle.vm_state.specs.Ends.{AreGivenBack}
use Rattle.vm_state.specs.History.{History}
use Rattle.vm_state.proofs.EndCloses as close
use Rattle.vm_state.proofs.state.State.finish.Goals as goal

pub into_blocks-requires-clause-buffers : goal.into_blocks-requires-clause-buffers
into_blocks-requires-clause-buffers g c κs within = close.all_in c.self.invariant (subst (λ (s : History). open_flights s.past ≡ []) (sym c.self.view_is) c.requires)

pub into_blocks-requires-clause-left : goal.into_blocks-requires-clause-left
into_blocks-requires-clause-left g c κs within = close.full c.self.invariant (subst (λ (s : History). open_flights s.past ≡ []) (sym c.self.view_is) c.requires)

pub into_blocks-requires-clause-blocks : goal.into_blocks-requires-clause-blocks
into_blocks-requires-clause-blocks g c κs within = close.all_home c.self.invariant (subst (λ (s : History). open_flights s.past ≡ []) (sym c.self.view_is) c.requires)

pub returns-clause-blocks : goal.returns-clause-blocks
returns-clause-blocks g c =
    subst (λ (s : History). AreGivenBack g.B.Block.seen g.B.Block.tells s.config s.past c.into_blocks.result.items) c.self.view_is
    (close.given_back c.self.invariant (subst (λ (s : History). open_flights s.past ≡ []) (sym c.self.view_is) c.requires) c.into_blocks.result.items c.into_blocks.ensures.ids c.into_blocks.ensures.blocks)

pub returns-clause-entries : goal.returns-clause-entries
returns-clause-entries g c = λ keeps.
    c.into_entries.ensures (ap (λ (s : History). s.keeps) c.self.view_is ∙ keeps)
    ∙ (sym (reverse-reverse c.self.inside.journal.entries) ∙ ap (λ (s : History). reverse s.past) c.self.view_is)
