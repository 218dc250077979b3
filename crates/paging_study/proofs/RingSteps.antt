-- A page put into a slot that was cleared first.
use Rattle.std.proofs.Common.{◌≡◌, ℕ, false, None, set, refl, ◌∙◌, length-set}
use Rattle.std.proofs.lemmas.List.{set-set}
use Rattle.vm_types.specs.Ring.{Ring, choose}
use Rattle.vm_types.specs.declared.ring_choice.Choice.TheVariants.{Victim}
use Rattle.paging_study.specs.RingFaults.{holds, placed, referenced}

pub victim_replaced : (ring cleared after : Ring) (limit page slot : ℕ) → holds ring page ≡ false → choose ring limit ≡ Victim slot
    → cleared ≡ record { slots = set ring.slots slot None; hand = slot } → after ≡ placed cleared slot page → after ≡ referenced limit ring page
victim_replaced ring cleared after limit page slot misses chosen is placed_is =
    placed_is ∙ rw (is, misses, chosen, set-set, length-set) refl
