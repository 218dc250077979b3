use Rattle.std.proofs.Common.{rules, ◌≡◌, List, ℕ, replicate, IfOk, subst, sym}
use Rattle.vm_types.specs.declared.limits.TheConstants.{PAGE_BYTES}
use Rattle.disk_trait.specs.Body.{BodyView}
use Rattle.disk_trait.proofs.body.Body.new.Goals as goal

pub returns-then-eq : goal.returns-then-eq
returns-then-eq c =
    let zeros : c.args.bytes.now ≡ replicate PAGE_BYTES 0 = search rules in
    subst (λ (bytes : List ℕ). IfOk c.zeros.result (λ (b : BodyView). b ≡ record { bytes = bytes; calls = c.args.calls.now; faults = 0 })) (sym zeros) c.zeros.ensures
