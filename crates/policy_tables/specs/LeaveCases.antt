-- One step of a process that leaves memory, as a table. Source: Kenah and Bate, "VAX/VMS Internals and Data
-- Structures", the swapper: outswap; the steps and their order are this project's own.
use Rattle.std.specs.Prelude.{ℕ, List, [], ◌∷◌, Option, nat_lt}
use Rattle.vm_types.specs.Ring.{unpinned}
use Rattle.vm_types.specs.declared.config.Config.{Config}
use Rattle.vm_types.specs.declared.names.ProcStatus.TheVariants as status
use Rattle.vm_journal.specs.declared.entry.Entry.{Entry}
use Rattle.vm_journal.specs.declared.entry.EvictWhy.TheVariants as evict
use Rattle.vm_journal.specs.declared.entry.What.TheVariants as what
use Rattle.pager_model.specs.Lookups.{passes}
use Rattle.pager_model.specs.Maps.{proc}
use Rattle.pager_model.specs.Pager.{Pager}
use Rattle.pager_policy.specs.Given.{Seen, eviction, given, seen_at}
use Rattle.pager_policy.specs.Swap.{GivenSwap, SwapWhy, is_saved, is_shared_unpinned, is_to_save, run_from, slot_where, swap_again, swap_carry, swap_in_flight, swap_modified_full, swap_more, swap_settled, write_slots}
use Rattle.policy_tables.specs.Rows.{if_there, otherwise, that_is, when}
use Rattle.policy_tables.specs.Words.{may_go, seen_in_slot}

-- of process p, of which a pinned page stays
module _ (config : Config) (past : List Entry) (a : Pager) (p : ℕ) where
  -- what stands in the first slot with a shared page; in the first with a private one that lies in the slot's swap
  -- block, unmodified and without a flight; and the first slot with a private one without a flight
  abbrev shared : Option Seen
  shared = seen_in_slot a p (slot_where a p (λ (n : ℕ) (s : Seen). is_shared_unpinned s))

  abbrev saved : Option Seen
  saved = seen_in_slot a p (slot_where a p (is_saved past a p))

  abbrev unsaved : Option ℕ
  unsaved = slot_where a p (λ (n : ℕ) (s : Seen). is_to_save past s)

  abbrev waits : SwapWhy → GivenSwap
  waits reason = given [] (swap_again reason)

  abbrev evicts : Seen → GivenSwap
  evicts s = given (eviction past a p s.vpn s.frame evict.Leave ∷ []) swap_more

  unfoldable pub leave_cases : List (Option GivenSwap)
  leave_cases =
      -- a slot has a shared page that isn't pinned, and the eviction of the first of them isn't stopped: EVICT of it,
      -- for LEAVE; a step more
      if_there (that_is (may_go config past a) shared) evicts
      -- a slot has a shared page that isn't pinned: none; it waits for the modified list
      ∷ if_there shared (λ (s : Seen). waits swap_modified_full)
      -- a slot has a private page that isn't pinned and is saved (it lies in the slot's swap block, unmodified and
      -- without a flight, so its eviction is never stopped): EVICT of the first of them, for LEAVE; a step more
      ∷ if_there saved evicts
      -- a slot has a private page that isn't pinned, in a frame without a flight: the OUTs from the first such slot on,
      -- as long as the slots behind it are such, to their swap blocks, at most WRTCLUSTER; the writes are carried
      ∷ if_there unsaved (λ (n : ℕ). given (write_slots a p (run_from (λ (m : ℕ). passes (is_to_save past) (seen_at a p m)) n config.params.wrtcluster)) swap_carry)
      -- a slot has a page that isn't pinned: none; it waits for a flight
      ∷ when (nat_lt 0 (unpinned (a.ring p).slots)) (waits swap_in_flight)
      -- no slot has one: TURN to gone; it has left
      ∷ otherwise (given (what.Turn (proc p) status.Gone ∷ []) swap_settled)
      ∷ []
