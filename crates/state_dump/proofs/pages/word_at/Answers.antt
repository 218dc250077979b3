use Rattle.std.proofs.Common.{◌∙◌, ap}
use Rattle.pager_model.specs.Around.{past_view}
use Rattle.pager_laws.proofs.RunsAreSound.{run_kept}
use Rattle.vm_state.specs.History.{pager}
use Rattle.state_dump.proofs.WordsShown.{read_word, word_shown}
use Rattle.state_dump.proofs.pages.word_at.Goals as goal

pub returns-in-Some : goal.returns-in-Some
returns-in-Some g c =
    let law = c.run_law.ensures in
    let s = c.args.state.now in
    ap read_word c.in-Some.ensures ∙ word_shown s.config (past_view s.past) (pager s) (run_kept s.config s.past law.formed law.run) (c.args.p).0 c.args.vpn c.requires

pub returns-in-None : goal.returns-in-None
returns-in-None g c =
    let law = c.run_law.ensures in
    let s = c.args.state.now in
    ap read_word c.in-None.ensures ∙ word_shown s.config (past_view s.past) (pager s) (run_kept s.config s.past law.formed law.run) (c.args.p).0 c.args.vpn c.requires
