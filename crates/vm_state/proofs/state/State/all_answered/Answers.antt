use Rattle.std.proofs.Common.{◌∙◌, ap}
use Rattle.pager_model.specs.Spoken.{spoken}
use Rattle.state_fits.proofs.AnswersCounted.{answers_spoken}
use Rattle.vm_state.specs.History.{History}
use Rattle.vm_state.proofs.state.State.all_answered.Goals as goal

pub returns : goal.returns
returns g c = c.answers.ensures ∙ (answers_spoken c.self.inside.journal.entries ∙ ap (λ (s : History). spoken s.past) c.self.view_is)
