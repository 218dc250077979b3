use Rattle.std.proofs.Common.{sym, ap, ◌∙◌, arith}
use Rattle.vm_types.specs.Ring.{Ring, choose}
use Rattle.shadow_tables.proofs.Offered.{full_offers_none}
use Rattle.shadow_tables.proofs.ring.Ring.choose.Goals as goal

-- each slot is filled, so a limit past them offers none
pub returns-then-count-slots-clause-chosen : goal.returns-then-count-slots-clause-chosen
returns-then-count-slots-clause-chosen c =
    sym (full_offers_none c.self.inside.ring c.count.ensures.ring.hand c.args.limit (omega arith) (omega arith))
    ∙ ap (λ (ring : Ring). choose ring c.args.limit) c.self.view_is
