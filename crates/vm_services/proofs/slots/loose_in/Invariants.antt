use Rattle.std.proofs.Common.{ℕ}
use Rattle.vm_state.specs.History.{pager}
use Rattle.vm_state.specs.ProcessReadings.{slot_in}
use Rattle.vm_services.specs.Lowest.{purged_in}
use Rattle.vm_services.proofs.Searches.{IsLeastOf}
use Rattle.vm_services.proofs.slots.loose_in.Given as goal

-- of the slots before this one
abbrev pub invariant-loop-n : goal.invariant-loop-n
invariant-loop-n g l = IsLeastOf (λ (k : ℕ). purged_in l.at.0 l.pages (slot_in (pager l.state) l.p.0 k)) l.n l.lowest
