use Rattle.std.proofs.Common.{subst}
use Rattle.vm_types.specs.declared.reference.Width.{Width}
use Rattle.trace_lines.specs.Plain.{IsEndedValue}
use Rattle.trace_lines.proofs.PlainForm.{ended_op}
use Rattle.trace_lines.proofs.first_line.written.Goals as goal

pub returns : goal.returns
returns c =
    ended_op c.args.access c.args.text.now c.in_ok-value.value c.in_ok-op.op c.in_ok-value.rest.now
    (subst (λ (w : Width). IsEndedValue w c.args.text.now c.in_ok-value.value c.in_ok-value.rest.now) c.width_of.ensures c.in_ok-value.ensures) c.in_ok-op.ensures
