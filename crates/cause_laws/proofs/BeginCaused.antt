-- The writes of a cluster have their cause by the first one.
use Rattle.std.proofs.Common.{◌≡◌, inl, ℕ, zero, suc, ◌||◌, Bool, true, false, cond, List, [], ◌∷◌, Option, Some, None, length, nat_eq, ap}
use Rattle.vm_types.specs.declared.names.BlockId.{BlockId}
use Rattle.vm_types.specs.declared.names.BlockId.TheVariants as block
use Rattle.vm_types.specs.declared.config.Config.{Config}
use Rattle.vm_journal.specs.declared.entry.Entry.{Entry}
use Rattle.vm_journal.specs.declared.entry.What.TheVariants as what
use Rattle.pager_model.specs.Flights.{is_busy, open_flights}
use Rattle.pager_model.specs.Maps.{pfn}
use Rattle.pager_model.specs.Pager.{Pager}
use Rattle.pager_model.specs.Run.{pager_after}
use Rattle.pager_policy.specs.Given.{by_seat, given}
use Rattle.pager_policy.specs.WriteCluster.{Reason, begin_carry, begin_gives, begin_nothing, block_out, is_enough, writes_from, writes_taken}
use Rattle.pager_rules.proofs.Basics.{nat_eq_refl}
use Rattle.entry_causes.specs.Caused.{IsOutCause}
use Rattle.entry_causes.specs.WriteCause.{IsWriteCause}
use Rattle.cause_laws.specs.AreCaused.{AreCaused}

out_caused : (config : Config) (past : List Entry) (a : Pager) (seat : ℕ) (b : BlockId) → IsWriteCause config past a seat → IsOutCause b config past a seat
out_caused config past a seat (block.Swap p n) cause = tt
out_caused config past a seat (block.Section s i) cause = cause
out_caused config past a seat (block.PageFile n) cause = cause

-- with its write open the seat is busy
busy_then : (past : List Entry) (seat f : ℕ) (b : BlockId) → is_busy seat (open_flights (by_seat seat (what.Out (pfn f) b) ∷ past)) ≡ true
busy_then past seat f b = ap (λ (x : Bool). x || is_busy seat (open_flights past)) (nat_eq_refl seat)

module _ (config : Config) (a : Pager) (seat : ℕ) where
  writes_caused : (n : ℕ) (last : Option BlockId) (frames : List ℕ) (past : List Entry) → IsWriteCause config past (pager_after config past) seat → AreCaused config past seat (writes_from config a n last frames)
  writes_caused n last [] past cause = tt
  writes_caused n last (f ∷ frames) past cause = by n (block_out config a last (a.page f)) (λ b m. writes_caused m (Some b) frames (by_seat seat (what.Out (pfn f) b) ∷ past) (inl (busy_then past seat f b)))
    where
      by : (m : ℕ) (o : Option BlockId) → ((b : BlockId) (k : ℕ) → AreCaused config (by_seat seat (what.Out (pfn f) b) ∷ past) seat (writes_from config a k (Some b) frames)) → AreCaused config past seat (writes_taken f m o (λ (b : BlockId) (k : ℕ). writes_from config a k (Some b) frames))
      by zero o rest = tt
      by (suc m) None rest = tt
      by (suc m) (Some b) rest = (out_caused config past (pager_after config past) seat b cause, rest b m)

pub begin_caused : (config : Config) (past : List Entry) (seat : ℕ) (reason : Reason) → IsWriteCause config past (pager_after config past) seat → AreCaused config past seat (begin_gives config (pager_after config past) reason).made
begin_caused config past seat reason cause = by (is_enough config (pager_after config past) reason || nat_eq (length ((pager_after config past).modified)) 0)
  where
    by : (b : Bool) → AreCaused config past seat (cond b (given [] begin_nothing) (given (writes_from config (pager_after config past) config.params.wrtcluster None ((pager_after config past).modified)) begin_carry)).made
    by true = tt
    by false = writes_caused config (pager_after config past) seat config.params.wrtcluster None ((pager_after config past).modified) past cause
