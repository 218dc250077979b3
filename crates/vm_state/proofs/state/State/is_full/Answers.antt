use Rattle.std.proofs.Common.{length, nat_eq, ap, sym, ◌∙◌}
use Rattle.pager_model.specs.Flat.{is_page_file_full}
use Rattle.pager_model.specs.Spoken.{flat_after}
use Rattle.vm_state.specs.History.{History}
use Rattle.state_pages.specs.PagesShown.{is_touched_row}
use Rattle.vm_state.proofs.FlatShows as shows
use Rattle.vm_state.proofs.state.State.is_full.Goals as goal

pub returns-then-not-is_paged : goal.returns-then-not-is_paged
returns-then-not-is_paged g c =
    shows.unpaged_is c.self.invariant c.args.page c.is_paged.result c.is_paged.ensures c.if-not-is_paged.true
    ∙ ap (λ (s : History). is_page_file_full s.config (flat_after s.config s.past) c.args.page) c.self.view_is

pub returns-then-charged-self : goal.returns-then-charged-self
returns-then-charged-self g c =
    shows.blocks_left c.self.invariant c.args.page c.charged.result (c.charged.ensures.value ∙ c.self.invariant.parts.file.charges) c.if-charged-self.true
    ∙ ap (λ (s : History). is_page_file_full s.config (flat_after s.config s.past) c.args.page) c.self.view_is

pub returns-then-not-is_touched_row : goal.returns-then-not-is_touched_row
returns-then-not-is_touched_row g c =
    shows.full_untouched c.self.invariant c.args.page c.is_paged.result c.is_paged.ensures c.if-not-is_paged.false
    c.is_touched_row.result c.is_all_touched.result (c.is_touched_row.ensures ∙ ap is_touched_row c.at.ensures.value) c.if-not-is_touched_row.true
    (c.is_all_touched.ensures ∙ ap (λ (s : History). nat_eq (length (flat_after s.config s.past).touched) s.config.pagefile) (sym c.self.view_is))
    ∙ ap (λ (s : History). is_page_file_full s.config (flat_after s.config s.past) c.args.page) c.self.view_is

pub returns-else-not-is_touched_row : goal.returns-else-not-is_touched_row
returns-else-not-is_touched_row g c =
    shows.full_touched c.self.invariant c.args.page c.is_touched_row.result (c.is_touched_row.ensures ∙ ap is_touched_row c.at.ensures.value) c.if-not-is_touched_row.false
    ∙ ap (λ (s : History). is_page_file_full s.config (flat_after s.config s.past) c.args.page) c.self.view_is
