use Rattle.std.proofs.Common.{List, ℕ, ◌+◌, slice_index, ap, ◌∙◌, subst, sym, arith}
use Rattle.std.proofs.lemmas.Option.{slice_get_within}
use Rattle.vm_types.specs.Configuration.{IsSectionPage}
use Rattle.vm_types.specs.declared.names.Page.TheVariants.{Shared}
use Rattle.global_pages.specs.GlobalPages.{frame_of}
use Rattle.pager_laws.proofs.SectionNumbers.{number_within}
use Rattle.vm_state.specs.History.{History, pager}
use Rattle.vm_state.specs.PageReadings.{backing_in}
use Rattle.vm_state.proofs.Numbered.{has_number}
use Rattle.vm_state.proofs.PageShows as shows
use Rattle.vm_state.proofs.state.State.shared_backing.Goals as goal

pub section_page-number-requires-clause-section : goal.section_page-number-requires-clause-section
section_page-number-requires-clause-section g c =
    let there = subst (λ (s : History). IsSectionPage s.config.sections c.args.s.0 c.args.i) (sym c.self.view_is) c.requires in
    rw c.deref.ensures.value (slice_get_within c.self.inside.firsts.items c.args.s.0 _ (has_number c.self.invariant c.args.s.0 c.args.i there).first)

pub section_page-number-requires-clause-small : goal.section_page-number-requires-clause-small
section_page-number-requires-clause-small g c =
    let there = subst (λ (s : History). IsSectionPage s.config.sections c.args.s.0 c.args.i) (sym c.self.view_is) c.requires in
    let number = shows.number_is c.self.invariant c.args.s.0 c.args.i there in
    let small = (has_number c.self.invariant c.args.s.0 c.args.i there).small in
    rw c.deref.ensures.value (omega (arith, number, small))

pub frame-frame-requires : goal.frame-frame-requires
frame-frame-requires g c =
    let there = subst (λ (s : History). IsSectionPage s.config.sections c.args.s.0 c.args.i) (sym c.self.view_is) c.requires in
    rw (c.section_page-number.ensures, c.deref.ensures.value, shows.number_is c.self.invariant c.args.s.0 c.args.i there)
    (let within = number_within c.self.inside.config c.args.s.0 c.args.i there in let count = c.self.invariant.parts.globals.count in omega (arith, within, count))

pub returns : goal.returns
returns g c =
    let there = subst (λ (s : History). IsSectionPage s.config.sections c.args.s.0 c.args.i) (sym c.self.view_is) c.requires in
    c.shared_backing.ensures
    ∙ shows.shared_is c.self.invariant c.args.s c.args.i c.at-kept.result c.shared_home.result c.frame-frame.result there c.at-kept.ensures.value c.shared_home.ensures
    (c.frame-frame.ensures ∙ ap (frame_of c.self.inside.globals) (c.section_page-number.ensures ∙ (ap (λ (xs : List ℕ). slice_index xs c.args.s.0 + c.args.i) c.deref.ensures.value ∙ shows.number_is c.self.invariant c.args.s.0 c.args.i there)))
    ∙ ap (λ (s : History). backing_in s.config (pager s) (Shared c.args.s c.args.i)) c.self.view_is
