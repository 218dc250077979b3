use Rattle.std.proofs.Common.{◌∙◌, List, ap, reverse}
use Rattle.vm_journal.specs.declared.entry.Entry.{Entry}
use Rattle.open_pager.specs.LastAnswer.{last_answer, numbered}
use Rattle.open_pager.specs.Open.{OpenView}
use Rattle.open_pager.proofs.LastAnswers.{read_last}
use Rattle.open_pager.proofs.pager.OpenPager.answer_to.Goals as goal

pub returns : goal.returns
returns g c going known =
    c.numbered.ensures
    ∙ (ap (λ (xs : List Entry). numbered xs c.spoken.result) (c.entries.ensures (c.self.invariant (ap (λ (p : OpenView). p.stopped) c.self.view_is ∙ going)).keeps)
    ∙ (ap (numbered (reverse c.self.inside.state.past)) c.spoken.ensures
    ∙ (read_last c.args.p.0 c.self.inside.state.past ∙ ap (λ (v : OpenView). last_answer c.args.p.0 v.history.past) c.self.view_is)))
