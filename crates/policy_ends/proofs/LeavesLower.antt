-- A process that is left, and the cluster that is written because room is needed.
use Rattle.std.proofs.Common.{◌≡◌, ◌⊎◌, inl, inr, ℕ, zero, suc, ◌<◌, ◌||◌, Bool, true, false, cond, List, [], ◌∷◌, ◌++◌, Option, Some, None, length, nat_eq, nat_lt, refl, ap, subst, arith}
use Rattle.std.proofs.lemmas.Bool.{cases_eq, false≢true}
use Rattle.vm_types.specs.Ring.{unpinned}
use Rattle.vm_types.specs.declared.names.BlockId.{BlockId}
use Rattle.vm_types.specs.declared.names.ProcStatus.{ProcStatus}
use Rattle.vm_types.specs.declared.names.ProcStatus.TheVariants as status
use Rattle.vm_types.specs.declared.config.Config.{Config}
use Rattle.vm_journal.specs.declared.entry.Entry.{Entry}
use Rattle.vm_journal.specs.declared.entry.EvictWhy.{EvictWhy}
use Rattle.vm_journal.specs.declared.entry.EvictWhy.TheVariants as evict
use Rattle.vm_journal.specs.declared.entry.What.{What}
use Rattle.vm_journal.specs.declared.entry.What.TheVariants as what
use Rattle.pager_policy.specs.Given.{Given, Seen, by_seat, eviction, given, is_stopped, seen_at}
use Rattle.pager_model.specs.Lookups.{passes}
use Rattle.pager_model.specs.Maps.{proc}
use Rattle.pager_policy.specs.Moves.{Control, Doing, carries, control, makes, rests, while_leaving}
use Rattle.pager_model.specs.Pager.{Pager}
use Rattle.pager_policy.specs.Policy.{Ends, leave_move, leave_move_by, unless_all_failed, writing_move}
use Rattle.pager_model.specs.Run.{IsRun, pager_after}
use Rattle.pager_policy.specs.Swap.{GivenSwap, is_saved, is_shared_unpinned, is_to_save, leave_page, leave_saved, leave_shared, leave_unsaved, run_from, slot_where, swap_again, swap_in_flight, swap_modified_full, swap_more, swap_settled, turned_gone, write_slot, write_slots}
use Rattle.pager_policy.specs.WriteCluster.{BeginIs, Reason, begin_carry, begin_gives, begin_nothing, block_out, is_enough, reason_need, writes_from, writes_taken}
use Rattle.pager_rules.proofs.Basics.{each_weaker}
use Rattle.serial_laws.specs.Between.{IsBetween}
use Rattle.serial_laws.specs.Controlled.{IsLeft}
use Rattle.serial_laws.proofs.Writes.{Writes, is_out_entry}
use Rattle.policy_ends.specs.Rank.{absence, presence}
use Rattle.policy_ends.proofs.Numbers.{AreLower}
use Rattle.policy_ends.proofs.Places.{IsMute, LowersBy, MoveLowers, carries_lowers, makes_lowers, spoken_same}
use Rattle.policy_ends.proofs.Singles.{evict_lowers, other_turn_lowers, own_turn_lowers}
use Rattle.policy_ends.proofs.WriteCarriers.{writes_lower}

pub rests_lower : (config : Config) (past : List Entry) (c : Control) → MoveLowers config past c rests
rests_lower config past c = record { lowers = λ heard more next made run. absurd made }

-- ---- the writes of a cluster
from_frames : (config : Config) (a : Pager) (n : ℕ) (last : Option BlockId) (frames : List ℕ) → Writes (writes_from config a n last frames)
from_frames config a n last [] = tt
from_frames config a n last (f ∷ frames) = go n (block_out config a last (a.page f)) (λ (b : BlockId) (m : ℕ). from_frames config a m (Some b) frames)
  where
    go : (n : ℕ) (o : Option BlockId) → ((b : BlockId) (m : ℕ) → Writes (writes_from config a m (Some b) frames))
        → Writes (writes_taken f n o (λ (b : BlockId) (m : ℕ). writes_from config a m (Some b) frames))
    go zero o rest = tt
    go (suc m) None rest = tt
    go (suc m) (Some b) rest = (refl, rest b m)

pub cluster_writes : (config : Config) (a : Pager) (reason : Reason) → Writes (begin_gives config a reason).made
cluster_writes config a reason = by (is_enough config a reason || nat_eq (length a.modified) 0)
  where
    by : (b : Bool) → Writes (cond {A = Given BeginIs} b (given [] begin_nothing) (given (writes_from config a config.params.wrtcluster None a.modified) begin_carry)).made
    by true = tt
    by false = from_frames config a config.params.wrtcluster None a.modified

-- ---- the writes of a run of slots
joined : (xs ys : List What) → Writes xs → Writes ys → Writes (xs ++ ys)
joined [] ys first rest = rest
joined (w ∷ xs) ys first rest = (first.0, joined xs ys first.1 rest)

slot_writes : (p n : ℕ) (o : Option Seen) → Writes (write_slot p n o)
slot_writes p n None = tt
slot_writes p n (Some s) = (refl, tt)

slots_write : (a : Pager) (p : ℕ) (slots : List ℕ) → Writes (write_slots a p slots)
slots_write a p [] = tt
slots_write a p (n ∷ slots) = joined (write_slot p n (seen_at a p n)) (write_slots a p slots) (slot_writes p n (seen_at a p n)) (slots_write a p slots)

write_mute : (w : What) → is_out_entry w ≡ true → IsMute w
write_mute (what.Out f b) is = refl
write_mute other is = absurd (false≢true is)

module _ (config : Config) (past : List Entry) (between : IsBetween config past) (c : Control) (p seat : ℕ) (ends : Ends) (doing : Doing) (work : LowersBy config past c p ends doing) where
  abbrev a : Pager
  a = pager_after config past

  pub cluster_lowers : (ws : List What) (d : Control) → d.doing ≡ doing → Writes ws → MoveLowers config past c (carries seat ws (unless_all_failed ends d))
  cluster_lowers ws d there writes =
      carries_lowers config past c p seat ws ends doing d work there (each_weaker (λ (w : What). is_out_entry w ≡ true) IsMute write_mute ws writes)
      (λ outcomes each good run u v most. writes_lower config past seat ws outcomes p u v between.formed between.landed writes each good run most)

  pub writing_lowers : (d : Control) → d.doing ≡ doing → MoveLowers config past c (writing_move config a seat ends d)
  writing_lowers d there = cluster_lowers (begin_gives config a reason_need).made d there (cluster_writes config a reason_need)

  pub eviction_lowers : (q v f : ℕ) (why : EvictWhy) (d : Control) → q < length config.procs → d.doing ≡ doing → MoveLowers config past c (makes seat (eviction past a q v f why ∷ []) d)
  eviction_lowers q v f why d process there =
      makes_lowers config past c seat (eviction past a q v f why ∷ []) d
      (λ reply run. work.on (by_seat seat (eviction past a q v f why) ∷ past) d there (spoken_same seat (eviction past a q v f why) past refl)
      (λ u w most. evict_lowers config past seat p q v f u w why between.formed between.reused process most run))

  -- another process turns nearer to being gone
  pub turn_lowers : (q : ℕ) (s : ProcStatus) (d : Control) → d.doing ≡ doing
      → ((u v : ℕ) → IsRun config (by_seat seat (what.Turn (proc q) s) ∷ past) → AreLower config past (by_seat seat (what.Turn (proc q) s) ∷ past) p u v)
      → MoveLowers config past c (makes seat (what.Turn (proc q) s ∷ []) d)
  turn_lowers q s d there lower =
      makes_lowers config past c seat (what.Turn (proc q) s ∷ []) d
      (λ reply run. work.on (by_seat seat (what.Turn (proc q) s) ∷ past) d there (spoken_same seat (what.Turn (proc q) s) past refl) (λ u v most. lower u v run))

  module _ (q : ℕ) (left : IsLeft config a q) where
    abbrev Leaves : GivenSwap → Type 0
    Leaves g = MoveLowers config past c (leave_move_by config a seat q ends doing g.made g.answer)

    either : (b : Bool) (x y : GivenSwap) → Leaves x → Leaves y → Leaves (cond b x y)
    either true x y first second = first
    either false x y first second = second

    page_left : (o : Option Seen) → Leaves (leave_page config past a q o)
    page_left None = rests_lower config past c
    page_left (Some s) =
        either (is_stopped config past a s.frame) (given [] (swap_again swap_modified_full)) (given (eviction past a q s.vpn s.frame evict.Leave ∷ []) swap_more)
        (writing_lowers (while_leaving doing q) refl) (eviction_lowers q s.vpn s.frame evict.Leave (while_leaving doing q) left.0 refl)

    gone_left : Leaves (turned_gone a q)
    gone_left =
        either (nat_lt 0 (unpinned (a.ring q).slots)) (given [] (swap_again swap_in_flight)) (given (what.Turn (proc q) status.Gone ∷ []) swap_settled)
        (rests_lower config past c) (turn_lowers q status.Gone (control doing) refl (λ u v run. by u v (cases_eq q p)))
      where
        by : (u v : ℕ) → (q ≡ p) ⊎ (q ≡ p → ⊥) → AreLower config past (by_seat seat (what.Turn (proc q) status.Gone) ∷ past) p u v
        by u v (inl same) =
            subst (λ (n : ℕ). AreLower config past (by_seat seat (what.Turn (proc q) status.Gone) ∷ past) n u v) same
            (own_turn_lowers config past a seat q u v status.Gone (let now = ap absence left.1 in omega (arith, now)) (by_seat seat (what.Turn (proc q) status.Gone) ∷ past))
        by u v (inr apart) =
            other_turn_lowers config past a seat q p u v status.Gone left.0 apart (let now = ap presence left.1 in omega (arith, now)) (by_seat seat (what.Turn (proc q) status.Gone) ∷ past)

    unsaved_left : (o : Option ℕ) → Leaves (leave_unsaved config past a q o)
    unsaved_left None = gone_left
    unsaved_left (Some n) =
        let slots = run_from (λ (m : ℕ). passes (is_to_save past) (seen_at a q m)) n config.params.wrtcluster in
        cluster_lowers (write_slots a q slots) (while_leaving doing q) refl (slots_write a q slots)

    saved_left : (o : Option ℕ) → Leaves (leave_saved config past a q o)
    saved_left (Some n) = page_left (seen_at a q n)
    saved_left None = unsaved_left (slot_where a q (λ (n : ℕ) (s : Seen). is_to_save past s))

    shared_left : (o : Option ℕ) → Leaves (leave_shared config past a q o)
    shared_left (Some n) = page_left (seen_at a q n)
    shared_left None = saved_left (slot_where a q (is_saved past a q))

    pub leave_lowers : MoveLowers config past c (leave_move config past a seat q ends doing)
    leave_lowers = shared_left (slot_where a q (λ (n : ℕ) (s : Seen). is_shared_unpinned s))
