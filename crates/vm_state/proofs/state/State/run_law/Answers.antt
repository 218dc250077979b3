use Rattle.std.proofs.Common.{◌≡◌, ◌+◌, ◌≤◌, ◌^◌, length, subst}
use Rattle.vm_types.specs.Configuration.{IsWellFormed}
use Rattle.pager_model.specs.Run.{IsRun}
use Rattle.pager_model.specs.Spoken.{IsRight}
use Rattle.vm_state.specs.History.{History, owed}
use Rattle.vm_state.proofs.state.State.run_law.Goals as goal

pub returns-clause-formed : goal.returns-clause-formed
returns-clause-formed g c = subst (λ (s : History). IsWellFormed s.config) c.self.view_is c.self.invariant.formed

pub returns-clause-run : goal.returns-clause-run
returns-clause-run g c = subst (λ (s : History). IsRun s.config s.past) c.self.view_is c.self.invariant.run

pub returns-clause-short : goal.returns-clause-short
returns-clause-short g c = subst (λ (s : History). length s.past + s.spare ≤ 2 ^ 48) c.self.view_is c.self.invariant.short

pub returns-clause-paid : goal.returns-clause-paid
returns-clause-paid g c = subst (λ (s : History). owed s.past ≤ s.spare) c.self.view_is c.self.invariant.paid

pub returns-clause-right : goal.returns-clause-right
returns-clause-right g c = λ told. subst (λ (s : History). IsRight s.config s.past) c.self.view_is (c.self.invariant.right told)
