-- What is made at a place: the eviction, or a cluster; and that the eviction is legal.
use Rattle.std.proofs.Common.{◌≡◌, ℕ, ◌+◌, ◌<◌, ◌^◌, Bool, true, false, cond, not, List, [], ◌∷◌, Some, None, length, refl, sym, ap, ◌∙◌, subst, arith}
use Rattle.std.proofs.lemmas.Bool.{not-true}
use Rattle.std.proofs.lemmas.Option.{same_Some}
use Rattle.vm_types.specs.declared.config.Config.{Config}
use Rattle.vm_types.specs.declared.names.FrameState.{FrameState}
use Rattle.vm_types.specs.declared.names.Seat.{Seat}
use Rattle.vm_journal.specs.declared.entry.Entry.{Entry}
use Rattle.vm_journal.specs.declared.entry.EvictWhy.TheVariants as evict
use Rattle.vm_journal.specs.declared.entry.What.{What}
use Rattle.vm_journal.specs.declared.entry.What.TheVariants as what
use Rattle.pager_policy.specs.Given.{Seen as Shown, by_seat, eviction, goes_to, is_stopped, page_address, seen_at}
use Rattle.pager_model.specs.Lookups.{passes, entry_of}
use Rattle.pager_model.specs.Maps.{is_private}
use Rattle.pager_policy.specs.Moves.{Control as ControlIs, Move, carries, goes, makes}
use Rattle.pager_model.specs.Order.{IsAnswered}
use Rattle.pager_model.specs.Pager.{Pager}
use Rattle.pager_model.specs.Run.{pager_after}
use Rattle.pager_policy.specs.Rundown.{Place as PlaceIs, at_slot, clean_move, is_shared_at, writer_of, written_for_need}
use Rattle.pager_model.specs.Step.{IsLegal}
use Rattle.pager_policy.specs.Swap.{is_shared_seen}
use Rattle.call_laws.proofs.FreeTurn.{free_turn, page_starts, same_number}
use Rattle.call_laws.proofs.WaitsLegal.{IsSeen, is_seen, waits_not}
use Rattle.call_begins.proofs.Branches.{if_false, if_true}
use Rattle.call_begins.proofs.Steps.{paid_first}
use Rattle.serial_laws.specs.Between.{IsBetween}
use Rattle.serial_laws.proofs.Turns.{free_seat}
use Rattle.lift_carriers.specs.CarrierView.{CarrierView}
use Rattle.vm_state.specs.History.{History, MayAdd, added, entry_by, pager}
use Rattle.vm_swapper.specs.SeenSlots.{IsPlaced, seen_as}
use Rattle.vm_swapper.specs.declared.seen.Seen.{Seen}
use Rattle.carried_landings.specs.Moved.{IsMoved}
use Rattle.carried_landings.proofs.Moving.{makes_move}
use Rattle.rundown.specs.Cleans.{CanClean, HasWritten, move_at, writer_seat}
use Rattle.rundown.specs.Places.{IsThere, place_as}
use Rattle.rundown.specs.declared.places.Place.{Place}
use Rattle.rundown.proofs.WrittenOnce.{has_room}

-- ---- which move it is
module _ (s : History) (at : PlaceIs) (failed : Bool) (later : Move) where
  pub none_seen : None ≡ seen_at (pager s) at.process at.slot → move_at s at failed later ≡ later
  none_seen is = ap (clean_move s.config s.past (pager s) at failed later) (sym is)

  module _ (x : Shown) (is : Some x ≡ seen_at (pager s) at.process at.slot) where
    abbrev evicting_it : Move
    evicting_it = makes (writer_of s.config) (eviction s.past (pager s) at.process x.vpn x.frame evict.Rundown ∷ []) (at_slot at.process (at.slot + 1) false)

    abbrev writing_first : Move
    writing_first = carries (writer_of s.config) (written_for_need s.config (pager s)) (λ (all first : Bool). goes (at_slot at.process at.slot all))

    seen_if : move_at s at failed later ≡ cond (not (is_stopped s.config s.past (pager s) x.frame)) evicting_it (cond failed later writing_first)
    seen_if = ap (clean_move s.config s.past (pager s) at failed later) (sym is)

    pub evicts : is_stopped s.config s.past (pager s) x.frame ≡ false → move_at s at failed later ≡ evicting_it
    evicts free = seen_if ∙ if_true (not (is_stopped s.config s.past (pager s) x.frame)) evicting_it (cond failed later writing_first) (ap not free)

    stopped_if : is_stopped s.config s.past (pager s) x.frame ≡ true → move_at s at failed later ≡ cond failed later writing_first
    stopped_if stopped = seen_if ∙ if_false (not (is_stopped s.config s.past (pager s) x.frame)) evicting_it (cond failed later writing_first) (ap not stopped)

    pub goes_later : is_stopped s.config s.past (pager s) x.frame ≡ true → failed ≡ true → move_at s at failed later ≡ later
    goes_later stopped bad = stopped_if stopped ∙ if_true failed later writing_first bad

    pub writes_first : is_stopped s.config s.past (pager s) x.frame ≡ true → failed ≡ false → move_at s at failed later ≡ writing_first
    writes_first stopped good = stopped_if stopped ∙ if_false failed later writing_first good

-- ---- the eviction is legal
module _ (config : Config) (past : List Entry) (between : IsBetween config past) (p n : ℕ) (x : Shown) (is : seen_at (pager_after config past) p n ≡ Some x) (shared : is_shared_at (pager_after config past) p n ≡ true) where
  abbrev a : Pager
  a = pager_after config past

  there : IsSeen a p n x
  there = is_seen a p n x is

  not_private : is_private x.page ≡ false
  not_private = not-true (is_private x.page) (sym (ap (passes is_shared_seen) is) ∙ shared)

  pub evict_legal : IsAnswered config past → p < length config.procs → x.frame < config.frames → x.vpn < 2 ^ 23 → is_stopped config past a x.frame ≡ false
      → IsLegal config past a (by_seat (length config.procs) (eviction past a p x.vpn x.frame evict.Rundown))
  evict_legal answered process within small free = record {
    in_turn = free_turn config past (length config.procs) (eviction past a p x.vpn x.frame evict.Rundown) (free_seat config past (length config.procs) between);
    line = record { seat = omega arith; what = ((process, page_starts x.vpn small), (let most = between.formed.frames.1 in omega (arith, within, most))) };
    row = record {
      writer = refl;
      answered = answered;
      taken = record { entry = there.entry; valid = ap (entry_of a.valid p) (same_number x.vpn) ∙ there.valid; frame = there.frame; goes = refl };
      shared = λ g holds. sym (ap is_private (same_Some x.page g (sym there.page ∙ holds))) ∙ not_private;
      waits = waits_not config past a x.frame free;
    };
  }

-- ---- the page in a slot is evicted
module _ (s : History) (at : Place) (x : Seen) (is : Some (seen_as x) ≡ seen_at (pager s) (at.process).0 at.slot) (seat : Seat) (own : seat ≡ writer_seat s) (to : FrameState) (goes : to ≡ goes_to s.past (pager s) (x.frame).0)
    (free : is_stopped s.config s.past (pager s) (x.frame).0 ≡ false) where
  abbrev evicted : What
  evicted = what.Evict at.process (page_address x.vpn) x.frame evict.Rundown to

  same_what : evicted ≡ eviction s.past (pager s) (at.process).0 x.vpn (x.frame).0 evict.Rundown
  same_what = ap (λ (z : FrameState). what.Evict at.process (page_address x.vpn) x.frame evict.Rundown z) goes

  pub may_evict : {B : Type 0} (c : CarrierView B) → CanClean s c → IsThere s at → IsPlaced s.config x → MayAdd s (entry_by seat evicted)
  may_evict c can found placed = record {
    legal =
        subst (λ (w : What). IsLegal s.config s.past (pager s) (entry_by seat w)) (sym same_what)
        (subst (λ (y : Seat). IsLegal s.config s.past (pager s) (entry_by y (eviction s.past (pager s) (at.process).0 x.vpn (x.frame).0 evict.Rundown))) (sym own)
        (evict_legal s.config s.past can.steady.between (at.process).0 at.slot (seen_as x) (sym is) found.shared can.answered found.within placed.within placed.small free));
    paid = paid_first s seat evicted 1 (omega arith) refl refl (has_room s can.steady);
  }

  pub evicted_moved : (t : History) (tells failed : Bool) (later : Move) → t ≡ added s (entry_by seat evicted) → IsMoved tells s t (move_at s (place_as at) failed later) (at_slot (at.process).0 (at.slot + 1) false)
  evicted_moved t tells failed later made =
      subst (λ (m : Move). IsMoved tells s t m next) (sym (evicts s (place_as at) failed later (seen_as x) is free))
      (subst (λ (w : What). IsMoved tells s t (makes (writer_of s.config) (w ∷ []) next) next) same_what
      (subst (λ (y : Seat). IsMoved tells s t (makes y.0 (evicted ∷ []) next) next) own
      (makes_move s t seat (evicted ∷ []) made tells next (tt, tt))))
    where
      next : ControlIs
      next = at_slot (at.process).0 (at.slot + 1) false

-- ---- or a cluster is written first
module _ (s : History) (at : Place) (x : Seen) (is : Some (seen_as x) ≡ seen_at (pager s) (at.process).0 at.slot) (stopped : is_stopped s.config s.past (pager s) (x.frame).0 ≡ true) where
  pub written_moved : (t : History) (tells failed all_failed : Bool) (later : Move) → failed ≡ false → HasWritten tells s t all_failed → IsMoved tells s t (move_at s (place_as at) failed later) (at_slot (at.process).0 at.slot all_failed)
  written_moved t tells failed all_failed later good written =
      subst (λ (m : Move). IsMoved tells s t m (at_slot (at.process).0 at.slot all_failed)) (sym (writes_first s (place_as at) failed later (seen_as x) is stopped good))
      (written (λ (all first : Bool). goes (at_slot (at.process).0 at.slot all)) (at_slot (at.process).0 at.slot all_failed) (λ first. refl))
