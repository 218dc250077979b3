use Rattle.std.proofs.Common.{◌∙◌, ap}
use Rattle.vm_types.specs.Ring.{Ring, filled}
use Rattle.log_report.proofs.recounting.process_row.Goals as goal

pub returns : goal.returns
returns c =
    let count = c.filled.ensures ∙ ap (λ (r : Ring). filled r.slots) c.ring.ensures in
    λ i. record { status = c.status.ensures i; count = count i; limit = c.limit_of.ensures i }
