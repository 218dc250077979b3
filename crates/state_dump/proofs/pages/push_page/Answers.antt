use Rattle.std.proofs.Common.{◌∙◌, ℕ, List, ◌++◌, ap, sym}
use Rattle.std.proofs.lemmas.List.{append-nil}
use Rattle.pager_model.specs.Around.{past_view}
use Rattle.pager_laws.proofs.RunsAreSound.{run_kept}
use Rattle.vm_state.specs.History.{pager}
use Rattle.state_dump.proofs.SlotsShown.{page_shown, read_page}
use Rattle.state_dump.proofs.pages.push_page.Goals as goal

pub returns-in_ok-push-in-Some : goal.returns-in_ok-push-in-Some
returns-in_ok-push-in-Some g c =
    let law = c.run_law.ensures in
    let shown = page_shown c.args.state.now.config (past_view c.args.state.now.past) (pager c.args.state.now) (run_kept c.args.state.now.config c.args.state.now.past law.formed law.run) (c.args.p).0 c.args.n in
    c.in_ok-push-in-Some.ensures.items ∙ ap (λ (vs : List ℕ). c.args.pages.now.items ++ vs) (ap read_page c.in-Some.ensures ∙ shown)

pub returns-in-None : goal.returns-in-None
returns-in-None g c =
    let law = c.run_law.ensures in
    let shown = page_shown c.args.state.now.config (past_view c.args.state.now.past) (pager c.args.state.now) (run_kept c.args.state.now.config c.args.state.now.past law.formed law.run) (c.args.p).0 c.args.n in
    sym (append-nil c.args.pages.now.items) ∙ ap (λ (vs : List ℕ). c.args.pages.now.items ++ vs) (ap read_page c.in-None.ensures ∙ shown)
