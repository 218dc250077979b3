use Rattle.std.proofs.Common.{rules, ◌≡◌, ◌∙◌, ℕ, List, All, ap, length, subst, sym}
use Rattle.vm_types.specs.Configuration.{IsTask, IsWellFormed}
use Rattle.vm_types.specs.declared.config.Task.{Task}
use Rattle.vm_state.specs.History.{History}
use Rattle.thread_tests.proofs.Seating.{split_tasks}
use Rattle.thread_tests.proofs.overlaps.landed_beside.Goals as goal

pub landed_on-requires-clause-playable : goal.landed_on-requires-clause-playable
landed_on-requires-clause-playable g c κs within = record {
  keeps = ap (λ (s : History). s.keeps) c.in_ok-state.ensures;
  formed = subst (λ (s : History). IsWellFormed s.config) (sym c.in_ok-state.ensures) c.in_ok-config.ensures;
}

pub landed_on-requires-clause-body : goal.landed_on-requires-clause-body
landed_on-requires-clause-body g c κs within =
    let config = c.in_ok-config.config in
    let left = c.take_last-last.new.items.items in
    let two : length config.procs ≡ 2 = search rules in
    let all = subst (λ (n : ℕ). All (IsTask config.version n) config.body) two (c.in_ok-config.ensures).body in
    let whole = c.in_ok-body.ensures in
    let parts = split_tasks (IsTask config.version 2) config.body left c.take_last-last.result (sym whole ∙ c.take_last-last.ensures) all in
    subst (λ (s : History). All (IsTask s.config.version 2) c.deref.result.now) (sym c.in_ok-state.ensures)
    (subst (λ (tasks : List Task). All (IsTask config.version 2) tasks) (sym c.deref.ensures.value) parts.0)

pub landed_on-requires-clause-last : goal.landed_on-requires-clause-last
landed_on-requires-clause-last g c κs within =
    let config = c.in_ok-config.config in
    let left = c.take_last-last.new.items.items in
    let two : length config.procs ≡ 2 = search rules in
    let all = subst (λ (n : ℕ). All (IsTask config.version n) config.body) two (c.in_ok-config.ensures).body in
    let whole = c.in_ok-body.ensures in
    let parts = split_tasks (IsTask config.version 2) config.body left c.take_last-last.result (sym whole ∙ c.take_last-last.ensures) all in
    subst (λ (s : History). IsTask s.config.version 2 c.take_last-last.result) (sym c.in_ok-state.ensures) parts.1
