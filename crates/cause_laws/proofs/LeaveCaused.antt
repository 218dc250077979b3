-- What is made for a leaving process has its cause.
use Rattle.std.proofs.Common.{ℕ, Bool, true, false, cond, List, [], ◌∷◌, ◌++◌, Option, Some, None, nat_lt}
use Rattle.vm_types.specs.Ring.{unpinned}
use Rattle.vm_types.specs.declared.names.BlockId.TheVariants as block
use Rattle.vm_types.specs.declared.config.Config.{Config}
use Rattle.vm_journal.specs.declared.entry.Entry.{Entry}
use Rattle.vm_journal.specs.declared.entry.What.TheVariants as what
use Rattle.pager_model.specs.Lookups.{passes}
use Rattle.pager_model.specs.Maps.{pfn, proc}
use Rattle.pager_model.specs.Pager.{Pager}
use Rattle.pager_model.specs.Run.{pager_after}
use Rattle.pager_policy.specs.Given.{Seen, by_seat, is_stopped, seen_at}
use Rattle.pager_policy.specs.Swap.{GivenSwap, is_saved, is_shared_unpinned, is_to_save, leave_gives, leave_page, leave_saved, leave_shared, leave_unsaved, run_from, slot_where, turned_gone, write_slot, write_slots}
use Rattle.cause_laws.specs.AreCaused.{AreCaused}

module _ (config : Config) (seat p : ℕ) (a : Pager) where
  either : (past : List Entry) (b : Bool) (x y : GivenSwap) → AreCaused config past seat x.made → AreCaused config past seat y.made → AreCaused config past seat (cond b x y).made
  either past true x y first second = first
  either past false x y first second = second

  slots_caused : (slots : List ℕ) (past : List Entry) → AreCaused config past seat (write_slots a p slots)
  slots_caused [] past = tt
  slots_caused (n ∷ slots) past = by (seen_at a p n) (λ more. slots_caused slots more)
    where
      by : (o : Option Seen) → ((more : List Entry) → AreCaused config more seat (write_slots a p slots)) → AreCaused config past seat (write_slot p n o ++ write_slots a p slots)
      by None rest = rest past
      by (Some s) rest = (tt, rest (by_seat seat (what.Out (pfn s.frame) (block.Swap (proc p) n)) ∷ past))

  page_caused : (past : List Entry) (o : Option Seen) → AreCaused config past seat (leave_page config past a p o).made
  page_caused past None = tt
  page_caused past (Some s) = either past (is_stopped config past a s.frame) _ _ tt (tt, tt)

  gone_caused : (past : List Entry) → AreCaused config past seat (turned_gone a p).made
  gone_caused past = either past (nat_lt 0 (unpinned (a.ring p).slots)) _ _ tt (tt, tt)

  unsaved_caused : (past : List Entry) (o : Option ℕ) → AreCaused config past seat (leave_unsaved config past a p o).made
  unsaved_caused past (Some n) = slots_caused (run_from (λ (m : ℕ). passes (is_to_save past) (seen_at a p m)) n config.params.wrtcluster) past
  unsaved_caused past None = gone_caused past

  saved_caused : (past : List Entry) (o : Option ℕ) → AreCaused config past seat (leave_saved config past a p o).made
  saved_caused past (Some n) = page_caused past (seen_at a p n)
  saved_caused past None = unsaved_caused past (slot_where a p (λ (n : ℕ) (s : Seen). is_to_save past s))

  shared_caused : (past : List Entry) (o : Option ℕ) → AreCaused config past seat (leave_shared config past a p o).made
  shared_caused past (Some n) = page_caused past (seen_at a p n)
  shared_caused past None = saved_caused past (slot_where a p (is_saved past a p))

pub leave_caused : (config : Config) (past : List Entry) (seat p : ℕ) → AreCaused config past seat (leave_gives config past (pager_after config past) p).made
leave_caused config past seat p = shared_caused config seat p (pager_after config past) past (slot_where (pager_after config past) p (λ (n : ℕ) (s : Seen). is_shared_unpinned s))
