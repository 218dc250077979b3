-- The transfers that are begun for no reference's own page are no reads of a page fault.
use Rattle.std.proofs.Common.{◌≡◌, ℕ, zero, suc, Bool, true, false, cond, ◌||◌, List, [], ◌∷◌, ◌++◌, Option, Some, None, length, nat_eq, nat_lt, refl}
use Rattle.std.specs.List.{AllByRecursion}
use Rattle.vm_types.specs.Ring.{unpinned}
use Rattle.vm_types.specs.declared.config.Config.{Config}
use Rattle.vm_types.specs.declared.names.BlockId.{BlockId}
use Rattle.vm_types.specs.declared.names.Page.{Page}
use Rattle.vm_journal.specs.declared.entry.Entry.{Entry}
use Rattle.vm_journal.specs.declared.entry.What.{What}
use Rattle.vm_journal.specs.declared.entry.What.TheVariants as what
use Rattle.pager_model.specs.Flights.{open_flights}
use Rattle.pager_model.specs.Forget.{holder}
use Rattle.pager_policy.specs.Given.{Seen, Target, given, is_stopped, reads_made, reuse_first, seen_at}
use Rattle.pager_model.specs.Pager.{Pager}
use Rattle.pager_policy.specs.Swap.{GivenSwap, back_of, back_page, come_free, come_gives, come_out, come_target, come_targets, is_back_on_free, is_out_page, is_saved, is_shared_unpinned, is_to_save, leave_gives, leave_page, leave_saved, leave_shared, leave_unsaved, slot_where, swap_where, write_slot, write_slots}
use Rattle.pager_model.specs.Lying.{lying_in}
use Rattle.pager_model.specs.Transfers.{has_come, is_fault_role}
use Rattle.pager_policy.specs.WriteCluster.{Reason, begin_carry, begin_gives, begin_nothing, block_out, is_enough, writes_from, writes_taken}

-- a read that it begins is none of a page fault
abbrev pub BeginsNoFault : What → Type 0
BeginsNoFault (what.In f b r) = is_fault_role r ≡ false
BeginsNoFault other = Unit {0}

abbrev pub BeginNoFaults : List What → Type 0
BeginNoFaults ws = AllByRecursion BeginsNoFault ws

record Gives (g : GivenSwap) : Type 0 where
  none : BeginNoFaults g.made

either : (b : Bool) (x y : GivenSwap) → Gives x → Gives y → Gives (cond b x y)
either true x y first second = first
either false x y first second = second

join : (xs ys : List What) → BeginNoFaults xs → BeginNoFaults ys → BeginNoFaults (xs ++ ys)
join [] ys first rest = rest
join (x ∷ xs) ys first rest = (first.0, join xs ys first.1 rest)

module _ (config : Config) (past : List Entry) (a : Pager) (p : ℕ) where
  -- ---- a process that leaves
  page_none : (o : Option Seen) → Gives (leave_page config past a p o)
  page_none None = record { none = tt }
  page_none (Some s) = either (is_stopped config past a s.frame) _ _ (record { none = tt }) (record { none = (tt, tt) })

  slot_none : (n : ℕ) (o : Option Seen) → BeginNoFaults (write_slot p n o)
  slot_none n None = tt
  slot_none n (Some s) = (tt, tt)

  slots_none : (slots : List ℕ) → BeginNoFaults (write_slots a p slots)
  slots_none [] = tt
  slots_none (n ∷ slots) = join (write_slot p n (seen_at a p n)) (write_slots a p slots) (slot_none n (seen_at a p n)) (slots_none slots)

  unsaved_none : (o : Option ℕ) → Gives (leave_unsaved config past a p o)
  unsaved_none (Some n) = record { none = slots_none _ }
  unsaved_none None = either (nat_lt 0 (unpinned (a.ring p).slots)) _ _ (record { none = tt }) (record { none = (tt, tt) })

  saved_none : (o : Option ℕ) → Gives (leave_saved config past a p o)
  saved_none (Some n) = page_none (seen_at a p n)
  saved_none None = unsaved_none (slot_where a p (λ (n : ℕ) (s : Seen). is_to_save past s))

  shared_none : (o : Option ℕ) → Gives (leave_shared config past a p o)
  shared_none (Some n) = page_none (seen_at a p n)
  shared_none None = saved_none (slot_where a p (is_saved past a p))

  pub leave_no_faults : BeginNoFaults (leave_gives config past a p).made
  leave_no_faults = (shared_none (slot_where a p (λ (n : ℕ) (s : Seen). is_shared_unpinned s))).none

  -- ---- a process that comes
  abbrev IsMild : Target → Type 0
  IsMild t = is_fault_role t.role ≡ false

  reused : (o : Option Page) (f : ℕ) (ws : List What) → BeginNoFaults ws → BeginNoFaults (reuse_first o f ws)
  reused None f ws none = none
  reused (Some g) f ws none = (tt, none)

  reads_none : (frames : List ℕ) (targets : List Target) → AllByRecursion IsMild targets → BeginNoFaults (reads_made a.page frames targets)
  reads_none [] targets mild = tt
  reads_none (f ∷ frames) [] mild = tt
  reads_none (f ∷ frames) (t ∷ targets) mild = reused (a.page f) f _ (mild.0, reads_none frames targets mild.1)

  target_mild : (n : ℕ) (o : Option Page) (rest : List Target) → AllByRecursion IsMild rest → AllByRecursion IsMild (come_target p n o ++ rest)
  target_mild n None rest mild = mild
  target_mild n (Some g) rest mild = (refl, mild)

  targets_mild : (slots : List ℕ) → AllByRecursion IsMild (come_targets a p slots)
  targets_mild [] = tt
  targets_mild (n ∷ slots) = target_mild n (lying_in a p n) (come_targets a p slots) (targets_mild slots)

  back_none : (g : Page) (o : Option ℕ) → BeginNoFaults (back_of p g o)
  back_none g None = tt
  back_none g (Some f) = (tt, tt)

  back_page_none : (o : Option Page) → BeginNoFaults (back_page config a p o)
  back_page_none None = tt
  back_page_none (Some g) = back_none g (holder config a.page g)

  out_none : (o : Option ℕ) → Gives (come_out config past a p o)
  out_none None = either (has_come p (open_flights past)) _ _ (record { none = tt }) (record { none = (tt, tt) })
  out_none (Some n) = either (nat_eq (length a.free) 0) _ _ (record { none = tt }) (record { none = reads_none a.free _ (targets_mild _) })

  free_none : (o : Option ℕ) → Gives (come_free config past a p o)
  free_none (Some n) = record { none = back_page_none (lying_in a p n) }
  free_none None = out_none (swap_where a p (is_out_page config a))

  pub come_no_faults : BeginNoFaults (come_gives config past a p).made
  come_no_faults = (free_none (swap_where a p (is_back_on_free config a))).none

-- ---- a write cluster
writes_none : (config : Config) (a : Pager) (n : ℕ) (last : Option BlockId) (frames : List ℕ) → BeginNoFaults (writes_from config a n last frames)
writes_none config a n last [] = tt
writes_none config a n last (f ∷ frames) = go n (block_out config a last (a.page f)) (λ (b : BlockId) (m : ℕ). writes_none config a m (Some b) frames)
  where
    go : (n : ℕ) (o : Option BlockId) → ((b : BlockId) (m : ℕ) → BeginNoFaults (writes_from config a m (Some b) frames)) → BeginNoFaults (writes_taken f n o (λ (b : BlockId) (m : ℕ). writes_from config a m (Some b) frames))
    go zero o rest = tt
    go (suc m) None rest = tt
    go (suc m) (Some b) rest = (tt, rest b m)

pub begin_no_faults : (config : Config) (a : Pager) (reason : Reason) → BeginNoFaults (begin_gives config a reason).made
begin_no_faults config a reason = go (is_enough config a reason || nat_eq (length a.modified) 0)
  where
    go : (b : Bool) → BeginNoFaults (cond b (given [] begin_nothing) (given (writes_from config a config.params.wrtcluster None a.modified) begin_carry)).made
    go true = tt
    go false = writes_none config a config.params.wrtcluster None a.modified
