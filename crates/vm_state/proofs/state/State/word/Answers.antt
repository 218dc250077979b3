use Rattle.std.proofs.Common.{Some, None, ap, ◌∙◌}
use Rattle.pfn_database.specs.Frames.{Frames, row_of}
use Rattle.state_pages.specs.MarkedWords.{word_marked}
use Rattle.state_pages.proofs.Looked.{looked}
use Rattle.vm_state.specs.History.{History, pager}
use Rattle.vm_state.specs.Words.{word_in}
use Rattle.vm_state.proofs.WordShows as shows
use Rattle.vm_state.proofs.state.State.word.Goals as goal

pub marked_word-requires-clause-frame : goal.marked_word-requires-clause-frame
marked_word-requires-clause-frame g c =
    let there = looked c.self.inside.tables c.args.p.0 c.args.vpn c.look-look.result (Some c.in_ok-pte.pte) c.look-look.ensures.value c.in_ok-pte.ensures in
    λ f is. rw c.frames.ensures (shows.below c.self.invariant c.args.p.0 c.args.vpn c.in_ok-pte.pte there f is)

pub returns-in_err-pte : goal.returns-in_err-pte
returns-in_err-pte g c =
    c.from_residual.ensures
    ∙ shows.none_is c.self.invariant c.args.p.0 c.args.vpn (looked c.self.inside.tables c.args.p.0 c.args.vpn c.look-look.result None c.look-look.ensures.value c.in_err-pte.ensures)
    ∙ ap (λ (s : History). word_in s.config (pager s) c.args.p.0 c.args.vpn) c.self.view_is

pub returns : goal.returns
returns g c =
    ap Some c.marked_word.ensures
    ∙ ap (λ (fs : Frames). Some (word_marked (λ f. (row_of fs f).modify) c.in_ok-pte.pte)) c.frames.ensures
    ∙ shows.word_is c.self.invariant c.args.p.0 c.args.vpn c.in_ok-pte.pte (looked c.self.inside.tables c.args.p.0 c.args.vpn c.look-look.result (Some c.in_ok-pte.pte) c.look-look.ensures.value c.in_ok-pte.ensures)
    ∙ ap (λ (s : History). word_in s.config (pager s) c.args.p.0 c.args.vpn) c.self.view_is
