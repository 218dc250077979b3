-- A process is left: an eviction, the writes of a run of slots, or its last turn. It never rests there.
use Rattle.std.proofs.Common.{◌≡◌, ℕ, zero, suc, ◌+◌, ◌<◌, ◌≤◌, ◌++◌, Bool, true, false, cond, not, List, [], ◌∷◌, Option, Some, None, nat_lt, refl, sym, ap, ◌∙◌, subst, arith}
use Rattle.std.specs.List.{range_with_len}
use Rattle.std.proofs.lemmas.Bool.{and_from, ltb-false, ltb-true}
use Rattle.vm_types.specs.Ring.{filled, unpinned}
use Rattle.vm_types.specs.declared.names.BlockId.TheVariants as block
use Rattle.vm_types.specs.declared.names.ProcStatus.TheVariants as status
use Rattle.vm_types.specs.declared.config.Config.{Config}
use Rattle.vm_journal.specs.declared.entry.Entry.{Entry}
use Rattle.vm_journal.specs.declared.entry.EvictWhy.{EvictWhy}
use Rattle.vm_journal.specs.declared.entry.EvictWhy.TheVariants as evict
use Rattle.vm_journal.specs.declared.entry.What.{What}
use Rattle.vm_journal.specs.declared.entry.What.TheVariants as what
use Rattle.pager_policy.specs.Given.{Seen, by_seat, eviction, given, is_stopped, leading, seen_at, slots_of}
use Rattle.pager_model.specs.Lookups.{passes}
use Rattle.pager_model.specs.Maps.{pfn, is_private, proc}
use Rattle.pager_policy.specs.Moves.{Control, Doing, control, makes, while_leaving}
use Rattle.pager_model.specs.Pager.{Pager}
use Rattle.pager_policy.specs.Policy.{Ends, leave_move, leave_move_by}
use Rattle.pager_model.specs.Run.{pager_after}
use Rattle.pager_policy.specs.Swap.{GivenSwap, is_saved, is_shared_unpinned, is_still, is_to_save, leave_page, leave_saved, leave_shared, leave_unsaved, run_from, slot_where, swap_again, swap_in_flight, swap_modified_full, swap_more, swap_settled, turned_gone, write_slot, write_slots}
use Rattle.pager_model.specs.Transfers.{is_in_flight}
use Rattle.pager_rules.proofs.Lists.{found_passes}
use Rattle.pager_laws.proofs.RunsAreSound.{run_kept}
use Rattle.call_laws.proofs.ServeLegal.{unfound}
use Rattle.serial_laws.specs.Between.{IsBetween}
use Rattle.serial_laws.specs.Controlled.{IsControlled, IsLeft}
use Rattle.serial_laws.proofs.Begins.{IsWriting, cluster_known, stopped_some, writing_known}
use Rattle.serial_laws.proofs.Known.{MoveIsKnown}
use Rattle.serial_laws.proofs.Slots.{IsSeenAt, passing, unpinned_seen}
use Rattle.serial_laws.proofs.Steps.{none_made, steady_made}
use Rattle.serial_laws.proofs.Turns.{turn_known, turn_legal}
use Rattle.serial_laws.proofs.Work.{IsQuiet, IsWork, calm_quiet, calm_turn, left_quiet}
use Rattle.serial_laws.proofs.Writes.{Writes}

-- an eviction changes no status and answers nothing
pub evict_quiet : (config : Config) (past : List Entry) (seat p v f : ℕ) (why : EvictWhy) → IsQuiet config past (by_seat seat (eviction past (pager_after config past) p v f why) ∷ past)
evict_quiet config past seat p v f why = record {
  steady = steady_made config seat (eviction past (pager_after config past) p v f why ∷ []) past (refl, tt);
  none = none_made config seat (eviction past (pager_after config past) p v f why ∷ []) past (refl, tt);
}

pub evict_known : (config : Config) (past : List Entry) (Rest : Type 0) (seat p v f : ℕ) (why : EvictWhy) (next : Control) → IsControlled config (by_seat seat (eviction past (pager_after config past) p v f why) ∷ past) next
    → MoveIsKnown config past Rest (makes seat (eviction past (pager_after config past) p v f why ∷ []) next)
evict_known config past Rest seat p v f why next controlled = record { known = record { some = omega arith; still = (refl, tt); turned = λ q s is. absurd (cc); controlled = λ reply. controlled } }

-- ---- the writes of a run of slots
joined : (xs ys : List What) → Writes xs → Writes ys → Writes (xs ++ ys)
joined [] ys first rest = rest
joined (w ∷ xs) ys first rest = (first.0, joined xs ys first.1 rest)

slot_out : (p n : ℕ) (o : Option Seen) → Writes (write_slot p n o)
slot_out p n None = tt
slot_out p n (Some s) = (refl, tt)

slots_out : (a : Pager) (p : ℕ) (slots : List ℕ) → Writes (write_slots a p slots)
slots_out a p [] = tt
slots_out a p (n ∷ slots) = joined (write_slot p n (seen_at a p n)) (write_slots a p slots) (slot_out p n (seen_at a p n)) (slots_out a p slots)

-- the first slot of a run is written
run_writes : (a : Pager) (p n m : ℕ) (t : ℕ → Bool) → 1 ≤ m → t n ≡ true → (s : Seen) → seen_at a p n ≡ Some s → IsWriting (write_slots a p (run_from t n m))
run_writes a p n zero t least is s seen = absurd (omega (arith, least))
run_writes a p n (suc m) t least is s seen = record {
  frame = pfn s.frame;
  to = block.Swap (proc p) n;
  rest = write_slots a p (leading t (range_with_len (n + 1) m));
  is = ap (λ (b : Bool). write_slots a p (cond b (n ∷ leading t (range_with_len (n + 1) m)) [])) is ∙ ap (λ (o : Option Seen). write_slot p n o ++ write_slots a p (leading t (range_with_len (n + 1) m))) seen;
  writes = slots_out a p (leading t (range_with_len (n + 1) m));
}

module _ (config : Config) (past : List Entry) (between : IsBetween config past) (Rest : Type 0) (seat q : ℕ) (ends : Ends) (doing : Doing) (work : IsWork config past seat ends doing) (left : IsLeft config (pager_after config past) q) where
  abbrev a : Pager
  a = pager_after config past

  abbrev Leaves : GivenSwap → Type 0
  Leaves g = MoveIsKnown config past Rest (leave_move_by config a seat q ends doing g.made g.answer)

  either : (b : Bool) (x y : GivenSwap) → (b ≡ true → Leaves x) → (b ≡ false → Leaves y) → Leaves (cond b x y)
  either true x y first second = first refl
  either false x y first second = second refl

  goes_on : (more : List Entry) → IsQuiet config past more → IsControlled config more (while_leaving doing q)
  goes_on more quiet = work.left more q (calm_quiet config past more quiet) (left_quiet config past more q quiet left)

  page_left : (t : Seen → Bool) (n : ℕ) → passes t (seen_at a q n) ≡ true → Leaves (leave_page config past a q (seen_at a q n))
  page_left t n is = go (passing t (seen_at a q n) is)
    where
      go : (s : Seen) × (seen_at a q n ≡ Some s) × (t s ≡ true) → Leaves (leave_page config past a q (seen_at a q n))
      go found =
          let s = found.0 in
          subst (λ (o : Option Seen). Leaves (leave_page config past a q o)) (sym found.1) (either (is_stopped config past a s.frame) (given [] (swap_again swap_modified_full)) (given (eviction past a q s.vpn s.frame evict.Leave ∷ []) swap_more)
          (λ stopped. writing_known config past between Rest seat ends (while_leaving doing q) (stopped_some config past between s.frame stopped) goes_on (λ more quiet. work.ended more (calm_quiet config past more quiet)))
          (λ free. evict_known config past Rest seat q s.vpn s.frame evict.Leave (while_leaving doing q) (goes_on _ (evict_quiet config past seat q s.vpn s.frame evict.Leave))))

  -- with no page left but pinned ones it is gone
  gone_left : (0 < unpinned (a.ring q).slots → ⊥) → Leaves (turned_gone a q)
  gone_left empty =
      either (nat_lt 0 (unpinned (a.ring q).slots)) (given [] (swap_again swap_in_flight)) (given (what.Turn (proc q) status.Gone ∷ []) swap_settled)
      (λ some. absurd (empty (ltb-true 0 (unpinned (a.ring q).slots) some)))
      (λ none. turn_known config past Rest seat (proc q) status.Gone (control doing) (turn_legal config past seat q status.Gone between work.seat_there left.0 (left.1, (let most = ltb-false 0 (unpinned (a.ring q).slots) none in omega (arith, most))))
      (work.done _ (calm_turn config past seat q status.Gone (λ is. cc))))

  -- where no slot is shared or is to be saved, none but pinned ones are filled
  all_still : (f : ℕ) → is_still past f ≡ true
  all_still f = ap (λ flights. not (is_in_flight f flights)) between.landed

  none_filled : slot_where a q (λ (n : ℕ) (s : Seen). is_shared_unpinned s) ≡ None → slot_where a q (λ (n : ℕ) (s : Seen). is_to_save past s) ≡ None → 0 < unpinned (a.ring q).slots → ⊥
  none_filled no_shared no_private some = by (unpinned_seen config past (run_kept config past between.formed between.run) q some)
    where
      by : (n : ℕ) × (found : IsSeenAt a q n) × ((found.seen).pinned ≡ false) → ⊥
      by (n, found, off) = go (is_private (found.seen).page) refl
        where
          go : (b : Bool) → is_private (found.seen).page ≡ b → ⊥
          go true is = unfound (λ (m : ℕ). passes (λ (s : Seen). is_to_save past s) (seen_at a q m)) (slots_of a q) n no_private found.listed (ap (passes (λ (s : Seen). is_to_save past s)) found.is ∙ and_from _ _ (and_from _ _ is (ap not off)) (all_still (found.seen).frame))
          go false is = unfound (λ (m : ℕ). passes (λ (s : Seen). is_shared_unpinned s) (seen_at a q m)) (slots_of a q) n no_shared found.listed (ap (passes (λ (s : Seen). is_shared_unpinned s)) found.is ∙ and_from _ _ (ap not is) (ap not off))

  unsaved_left : slot_where a q (λ (n : ℕ) (s : Seen). is_shared_unpinned s) ≡ None → (o : Option ℕ) → slot_where a q (λ (n : ℕ) (s : Seen). is_to_save past s) ≡ o → Leaves (leave_unsaved config past a q o)
  unsaved_left no_shared None found = gone_left (none_filled no_shared found)
  unsaved_left no_shared (Some n) found =
      let is = found_passes (λ (m : ℕ). passes (is_to_save past) (seen_at a q m)) (slots_of a q) n found in
      let seen = passing (is_to_save past) (seen_at a q n) is in
      cluster_known config past between Rest seat ends (while_leaving doing q) _ (run_writes a q n config.params.wrtcluster (λ (m : ℕ). passes (is_to_save past) (seen_at a q m)) between.formed.params.wrtcluster.0 is seen.0 seen.1)
      goes_on (λ more quiet. work.ended more (calm_quiet config past more quiet))

  saved_left : slot_where a q (λ (n : ℕ) (s : Seen). is_shared_unpinned s) ≡ None → (o : Option ℕ) → slot_where a q (is_saved past a q) ≡ o → Leaves (leave_saved config past a q o)
  saved_left no_shared (Some n) found = page_left (is_saved past a q n) n (found_passes (λ (m : ℕ). passes (is_saved past a q m) (seen_at a q m)) (slots_of a q) n found)
  saved_left no_shared None found = unsaved_left no_shared (slot_where a q (λ (n : ℕ) (s : Seen). is_to_save past s)) refl

  shared_left : (o : Option ℕ) → slot_where a q (λ (n : ℕ) (s : Seen). is_shared_unpinned s) ≡ o → Leaves (leave_shared config past a q o)
  shared_left (Some n) found = page_left is_shared_unpinned n (found_passes (λ (m : ℕ). passes is_shared_unpinned (seen_at a q m)) (slots_of a q) n found)
  shared_left None found = saved_left found (slot_where a q (is_saved past a q)) refl

  pub leave_known : MoveIsKnown config past Rest (leave_move config past a seat q ends doing)
  leave_known = shared_left (slot_where a q (λ (n : ℕ) (s : Seen). is_shared_unpinned s)) refl
