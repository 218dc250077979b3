use Rattle.std.proofs.Common.{ap, sym, ◌∙◌}
use Rattle.pager_model.specs.Flat.{flat_refusal, is_page_file_full}
use Rattle.pager_model.specs.Maps.{page_number}
use Rattle.pager_model.specs.Spoken.{flat_after}
use Rattle.vm_state.specs.History.{History, pager}
use Rattle.vm_state.specs.PageReadings.{found_in}
use Rattle.vm_state.proofs.FlatShows as shows
use Rattle.vm_state.proofs.state.State.refusal.Goals as goal

pub returns-in-None-clause-value : goal.returns-in-None-clause-value
returns-in-None-clause-value g c =
    shows.unmapped_is c.self.invariant c.args.p.0 c.args.r (sym c.in-None.is ∙ c.requires ∙ ap (λ (s : History). found_in s.config (pager s) c.args.p.0 (page_number (c.args.r.addr).0)) (sym c.self.view_is))
    ∙ ap (λ (s : History). flat_refusal s.config (flat_after s.config s.past) c.args.p.0 c.args.r) c.self.view_is

pub allowed-requires : goal.allowed-requires
allowed-requires g c =
    shows.code_small c.self.invariant c.args.p.0 c.args.r c.in-Some.found
    (sym c.in-Some.is ∙ c.requires ∙ ap (λ (s : History). found_in s.config (pager s) c.args.p.0 (page_number (c.args.r.addr).0)) (sym c.self.view_is))

pub returns-then-not-allowed-clause-value : goal.returns-then-not-allowed-clause-value
returns-then-not-allowed-clause-value g c =
    shows.protected_is c.self.invariant c.args.p.0 c.args.r c.in-Some.found
    (sym c.in-Some.is ∙ c.requires ∙ ap (λ (s : History). found_in s.config (pager s) c.args.p.0 (page_number (c.args.r.addr).0)) (sym c.self.view_is))
    c.changes.result c.allowed.result c.changes.ensures c.allowed.ensures c.if-not-allowed.true
    ∙ ap (λ (s : History). flat_refusal s.config (flat_after s.config s.past) c.args.p.0 c.args.r) c.self.view_is

pub returns-then-is_full-clause-value : goal.returns-then-is_full-clause-value
returns-then-is_full-clause-value g c =
    shows.full_is c.self.invariant c.args.p.0 c.args.r c.in-Some.found
    (sym c.in-Some.is ∙ c.requires ∙ ap (λ (s : History). found_in s.config (pager s) c.args.p.0 (page_number (c.args.r.addr).0)) (sym c.self.view_is))
    c.changes.result c.allowed.result c.changes.ensures c.allowed.ensures c.if-not-allowed.false c.is_full.result
    (c.is_full.ensures ∙ ap (λ (s : History). is_page_file_full s.config (flat_after s.config s.past) c.in-Some.found.page) (sym c.self.view_is)) c.if-is_full.true
    ∙ ap (λ (s : History). flat_refusal s.config (flat_after s.config s.past) c.args.p.0 c.args.r) c.self.view_is

pub returns-else-is_full-clause-value : goal.returns-else-is_full-clause-value
returns-else-is_full-clause-value g c =
    shows.none_is c.self.invariant c.args.p.0 c.args.r c.in-Some.found
    (sym c.in-Some.is ∙ c.requires ∙ ap (λ (s : History). found_in s.config (pager s) c.args.p.0 (page_number (c.args.r.addr).0)) (sym c.self.view_is))
    c.changes.result c.allowed.result c.changes.ensures c.allowed.ensures c.if-not-allowed.false c.is_full.result
    (c.is_full.ensures ∙ ap (λ (s : History). is_page_file_full s.config (flat_after s.config s.past) c.in-Some.found.page) (sym c.self.view_is)) c.if-is_full.false
    ∙ ap (λ (s : History). flat_refusal s.config (flat_after s.config s.past) c.args.p.0 c.args.r) c.self.view_is
