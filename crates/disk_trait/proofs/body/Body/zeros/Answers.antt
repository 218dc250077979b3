use Rattle.std.proofs.Common.{◌≡◌, List, ℕ, replicate, IfOk, ap, subst}
use Rattle.vm_types.specs.declared.limits.TheConstants.{PAGE_BYTES}
use Rattle.page_pool.specs.Pool.{Buffer}
use Rattle.disk_trait.specs.Body.{BodyView}
use Rattle.disk_trait.proofs.body.Body.zeros.Goals as goal

pub returns : goal.returns
returns c =
    let zeros : c.fill.result.bytes ≡ replicate PAGE_BYTES 0 = ap (λ (x : Buffer). x.bytes) c.fill.ensures in
    subst (λ (bytes : List ℕ). IfOk c.planned.result (λ (b : BodyView). b ≡ record { bytes = bytes; calls = c.args.calls.now; faults = 0 })) zeros c.planned.ensures
