use Rattle.std.proofs.Common.{◌∙◌, sym, ap, List}
use Rattle.std.specs.Prelude.{sum_by}
use Rattle.vm_types.specs.declared.config.ProcSpec.{ProcSpec}
use Rattle.vm_types.proofs.VersionOne.{no_pins, pins_are_locks}
use Rattle.trace_lines.proofs.requests.all_pins.Goals as goal

pub returns-then-is_first-clause-value : goal.returns-then-is_first-clause-value
returns-then-is_first-clause-value c = sym (no_pins c.args.config.now (sym c.is_first.ensures ∙ c.if-is_first.true))

pub returns-else-is_first-clause-value : goal.returns-else-is_first-clause-value
returns-else-is_first-clause-value c =
    c.all_locks.ensures ∙ ap (λ (procs : List ProcSpec). sum_by (λ (spec : ProcSpec). spec.locks) procs) c.items.ensures
    ∙ sym (pins_are_locks c.args.config.now (sym c.is_first.ensures ∙ c.if-is_first.false))
