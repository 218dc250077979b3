-- The answer to a service after a journal. This project's own.
use Rattle.std.specs.Prelude.{ℕ, Bool, slice_get, if◌then◌else◌}
use Rattle.vm_types.specs.declared.config.Config.{Config}
use Rattle.vm_types.specs.declared.reply.Answer.{Answer}
use Rattle.vm_types.specs.declared.reply.Answer.TheVariants as answer
use Rattle.vm_types.specs.declared.service.Service.{Service}
use Rattle.pager_model.specs.Pager.{Pager}
use Rattle.pager_model.specs.MappedRanges.{is_in_use, is_unmapped}
use Rattle.state_pages.specs.ServiceAnswers.{service_answer}
use Rattle.vm_state.specs.History.{History, pager}

-- to a service of process p
abbrev pub answer_in : Config → Pager → ℕ → Service → Answer
answer_in config a p s = service_answer (is_in_use a p) (is_unmapped a p) (a.ring p) (slice_get config.procs p) s

-- after a transfer that failed, that
abbrev pub answer_after : History → ℕ → Service → Bool → Answer
answer_after s p x fault = if fault then answer.DiskFault else answer_in s.config (pager s) p x
