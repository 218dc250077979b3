use Rattle.std.proofs.Common.{◌<◌, length, ap, sym, subst, ◌∙◌}
use Rattle.vm_state.specs.Answering.{answer_in}
use Rattle.vm_state.specs.History.{History, pager}
use Rattle.vm_state.proofs.AnswerShows as shows
use Rattle.vm_state.proofs.state.State.answer_of.Goals as goal

pub service_answer-requires-clause-slots : goal.service_answer-requires-clause-slots
service_answer-requires-clause-slots g c =
    shows.few_slots c.self.invariant c.args.p.0 c.index.result.now (subst (λ (s : History). c.args.p.0 < length s.config.procs) (sym c.self.view_is) c.requires.process) c.index.ensures c.items.result.now
    (record { limit = 0; quota = 0; extent = 0; locks = 0 }) c.items.ensures

pub returns : goal.returns
returns g c =
    c.service_answer.ensures
    ∙ shows.answer_is c.self.invariant c.args.p.0 c.index.result.now (subst (λ (s : History). c.args.p.0 < length s.config.procs) (sym c.self.view_is) c.requires.process) c.index.ensures c.items.result.now _ c.items.ensures c.args.s
    ∙ ap (λ (s : History). answer_in s.config (pager s) c.args.p.0 c.args.s) c.self.view_is
