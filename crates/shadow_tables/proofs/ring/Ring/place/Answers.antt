use Rattle.std.proofs.Common.{◌≡◌, sym, ap, ◌∙◌, inl, inr, arith}
use Rattle.std.proofs.lemmas.Bool.{cases_lt}
use Rattle.vm_types.specs.Ring.{Ring, filled}
use Rattle.pager_model.specs.Ring.{placed}
use Rattle.shadow_tables.proofs.Offered.{full_takes_none, takes_none}
use Rattle.shadow_tables.proofs.ring.Ring.place.Goals as goal

-- the count is at the limit, or each slot is filled
pub returns-else-count-limit : goal.returns-else-count-limit
returns-else-count-limit c =
    let ring = c.self.inside.ring in
    let stays : placed ring c.args.limit c.args.vpn ≡ ring = elim (cases_lt (filled ring.slots) c.args.limit) [
      | inl below ↦ full_takes_none ring c.count.ensures.ring.hand c.args.limit c.args.vpn (omega arith)
      | inr full ↦ takes_none ring c.args.limit c.args.vpn full
    ] in
    sym c.self.view_is ∙ sym stays ∙ ap (λ (r : Ring). placed r c.args.limit c.args.vpn) c.self.view_is
