-- What a process that leaves makes of the page in a slot, and of a run of pages, as the readers of a state show them.
use Rattle.std.proofs.Common.{◌≡◌, ℕ, true, false, cond, List, [], ◌∷◌, Some, None, refl, sym, ap, ◌∙◌, arith}
use Rattle.vm_types.specs.declared.names.FrameState.{FrameState}
use Rattle.vm_types.specs.declared.names.Proc.{Proc}
use Rattle.vm_types.specs.declared.names.Seat.{Seat}
use Rattle.vm_journal.specs.declared.entry.EvictWhy.TheVariants as evict
use Rattle.vm_journal.specs.declared.entry.What.{What}
use Rattle.vm_journal.specs.declared.entry.What.TheVariants as what
use Rattle.pager_policy.specs.Given.{eviction, given, goes_to, is_stopped, page_address, seen_at}
use Rattle.pager_model.specs.Maps.{proc}
use Rattle.pager_policy.specs.Swap.{leave_page, swap_again, swap_carry, swap_in_flight, swap_modified_full, swap_more}
use Rattle.call_begins.proofs.Branches.{if_false, if_true}
use Rattle.call_begins.proofs.Steps.{paid_first}
use Rattle.lift_carriers.specs.CarrierView.{CarrierView}
use Rattle.vm_state.specs.History.{History, MayAdd, entry_by, pager}
use Rattle.vm_swapper.specs.Cases.{at_slot, at_writes}
use Rattle.vm_swapper.specs.Runs.{frame_at, gathered, writes_from}
use Rattle.vm_swapper.specs.SeenSlots.{seen_as}
use Rattle.vm_swapper.specs.Swaps.{MaySwap}
use Rattle.vm_swapper.specs.declared.seen.Seen.{Seen}
use Rattle.vm_swapper.proofs.Gathered.{writes_are}
use Rattle.vm_swapper.proofs.Makes.{may_as}

module _ (s : History) (p : ℕ) where
  -- ---- the eviction of the page in a slot
  module _ (n : ℕ) (x : Seen) (is : Some (seen_as x) ≡ seen_at (pager s) p n) where
    slot_if : at_slot s p n ≡ cond (is_stopped s.config s.past (pager s) (x.frame).0) (given [] (swap_again swap_modified_full)) (given (eviction s.past (pager s) p x.vpn (x.frame).0 evict.Leave ∷ []) swap_more)
    slot_if = ap (leave_page s.config s.past (pager s) p) (sym is)

    pub stops : is_stopped s.config s.past (pager s) (x.frame).0 ≡ true → at_slot s p n ≡ given [] (swap_again swap_modified_full)
    stops stopped = slot_if ∙ if_true (is_stopped s.config s.past (pager s) (x.frame).0) _ _ stopped

    module _ (to : FrameState) (goes : to ≡ goes_to s.past (pager s) (x.frame).0) (free : is_stopped s.config s.past (pager s) (x.frame).0 ≡ false) where
      pub evicts : at_slot s p n ≡ given (what.Evict (proc p) (page_address x.vpn) x.frame evict.Leave to ∷ []) swap_more
      evicts =
          slot_if
          ∙ (if_false (is_stopped s.config s.past (pager s) (x.frame).0) _ _ free
          ∙ ap (λ (z : FrameState). given (what.Evict (proc p) (page_address x.vpn) x.frame evict.Leave z ∷ []) swap_more) (sym goes))

      pub may_evict : {B : Type 0} {old : CarrierView B} (seat : Seat) (q : Proc) → MaySwap s seat q (at_slot s p n) old → MayAdd s (entry_by seat (what.Evict (proc p) (page_address x.vpn) x.frame evict.Leave to))
      may_evict seat q may =
          let m = may_as _ _ evicts may in
          record { legal = m.legal.0; paid = paid_first s seat (what.Evict (proc p) (page_address x.vpn) x.frame evict.Leave to) 1 (omega arith) refl refl m.room }

  pub none_seen : (n : ℕ) → None ≡ seen_at (pager s) p n → at_slot s p n ≡ given [] (swap_again swap_in_flight)
  none_seen n is = ap (leave_page s.config s.past (pager s) p) (sym is)

  -- ---- the writes of a run
  pub writes_of : (n most : ℕ) (frames : List ℕ) → frames ≡ gathered (frame_at s.past (pager s) p) n most → most ≡ s.config.params.wrtcluster → at_writes s p n ≡ given (writes_from p n frames) swap_carry
  writes_of n most frames is most_is =
      sym (ap (λ (ws : List What). given ws swap_carry)
      (ap (writes_from p n) (is ∙ ap (gathered (frame_at s.past (pager s) p) n) most_is) ∙ writes_are s.past (pager s) p s.config.params.wrtcluster n))
