-- The rundown's moves, as they were made at a place, at the next one, or in the rounds.
use Rattle.std.proofs.Common.{◌≡◌, ℕ, ◌+◌, ◌≤◌, Bool, false, List, Option, Some, None, refl, sym, ap, ◌∙◌, subst}
use Rattle.vm_journal.specs.declared.entry.Entry.{Entry}
use Rattle.pager_policy.specs.Cleaning.{Cleaning as CleaningIs, evicting}
use Rattle.pager_policy.specs.Moves.{Control as ControlIs, Move, rests}
use Rattle.pager_model.specs.Order.{IsAnswered}
use Rattle.pager_policy.specs.Rundown.{Place as PlaceIs, cleaning_move, later_move, place_move, rounds_move, shared_place}
use Rattle.policy_tables.specs.Rows.{IsByCases}
use Rattle.policy_tables.specs.RundownCases.{rundown_cases}
use Rattle.policy_tables.proofs.ByRundown.{goes_by_cases}
use Rattle.serial_laws.specs.Between.{IsBetween}
use Rattle.call_begins.specs.MayBegin.{empty}
use Rattle.lift_carriers.specs.CarrierView.{CarrierView}
use Rattle.vm_state.specs.History.{History, pager}
use Rattle.carried_landings.specs.Moved.{IsSameBut, MovesTo}
use Rattle.rundown.specs.Cleans.{CanClean, Cleans, move_at, writer_seat}
use Rattle.rundown.specs.Places.{IsThere}
use Rattle.rundown.specs.declared.places.Place.{Place}

pub moves_as : (tells : Bool) (s t : History) (m other : Move) (o : Option ControlIs) → m ≡ other → MovesTo tells s t other o → MovesTo tells s t m o
moves_as tells s t m other o is moved = subst (λ (x : Move). MovesTo tells s t x o) (sym is) moved

-- ---- which move it is
module _ (s : History) (p n : ℕ) (failed : Bool) where
  pub at_found : (at : PlaceIs) → Some at ≡ shared_place s.config (pager s) p n → cleaning_move s.config s.past (pager s) (evicting p n failed) ≡ move_at s at failed (later_move s.config s.past (pager s) at)
  at_found at is = ap (place_move s.config s.past (pager s) failed (later_move s.config s.past (pager s))) (sym is)

  pub all_evicted : None ≡ shared_place s.config (pager s) p n → cleaning_move s.config s.past (pager s) (evicting p n failed) ≡ rounds_move s.config (pager s) 2 0
  all_evicted is = ap (place_move s.config s.past (pager s) failed (later_move s.config s.past (pager s))) (sym is)

module _ (s : History) (at : PlaceIs) where
  abbrev last : PlaceIs → Move
  last next = rests

  pub next_found : (next : PlaceIs) → Some next ≡ shared_place s.config (pager s) at.process (at.slot + 1) → later_move s.config s.past (pager s) at ≡ move_at s next false rests
  next_found next is = ap (place_move s.config s.past (pager s) false last) (sym is)

  pub none_later : None ≡ shared_place s.config (pager s) at.process (at.slot + 1) → later_move s.config s.past (pager s) at ≡ rounds_move s.config (pager s) 2 0
  none_later is = ap (place_move s.config s.past (pager s) false last) (sym is)

-- ---- a place is the last one that is looked at
cleans_last : (tells : Bool) (s t : History) (at : PlaceIs) (failed : Bool) (o : Option ControlIs) → Cleans tells s t at failed o → MovesTo tells s t (move_at s at failed rests) o
cleans_last tells s t at failed None cleans = record {
  rest = cleans.1 rests;
  none_made = ap (λ (x : History). x.past) cleans.0;
  same = subst (λ (x : History). IsSameBut s x) (sym cleans.0) refl;
}
cleans_last tells s t at failed (Some c) cleans = cleans rests

pub cleaned_last : (tells : Bool) (s t : History) (at next : PlaceIs) (o : Option ControlIs) → Some next ≡ shared_place s.config (pager s) at.process (at.slot + 1) → Cleans tells s t next false o
    → MovesTo tells s t (later_move s.config s.past (pager s) at) o
cleaned_last tells s t at next o is cleans = moves_as tells s t (later_move s.config s.past (pager s) at) (move_at s next false rests) o (next_found s at next is) (cleans_last tells s t next false o cleans)

-- ---- nothing was made at a place
pub can_still : {B : Type 0} (s t : History) (c d : CarrierView B) → t ≡ s → d ≡ c → CanClean s c → CanClean t d
can_still s t c d same kept can =
    subst (λ (x : History). CanClean x d) (sym same) (record { steady = can.steady; answered = can.answered; carrier = kept ∙ can.carrier })

pub there_still : (s t : History) (at : Place) → t ≡ s → IsThere s at → IsThere t at
there_still s t at same there = subst (λ (x : History). IsThere x at) (sym same) there

pub cleaned_later : (tells : Bool) (s t after : History) (at : PlaceIs) (failed : Bool) (o : Option ControlIs) → Cleans tells s t at failed None → MovesTo tells t after (later_move t.config t.past (pager t) at) o
    → MovesTo tells s after (move_at s at failed (later_move s.config s.past (pager s) at)) o
cleaned_later tells s t after at failed o cleans moved =
    moves_as tells s after (move_at s at failed (later_move s.config s.past (pager s) at)) (later_move s.config s.past (pager s) at) o (cleans.1 (later_move s.config s.past (pager s) at))
    (subst (λ (x : History). MovesTo tells x after (later_move x.config x.past (pager x) at) o) cleans.0 moved)

-- ---- room was made first
pub spare_only : (s t : History) → IsSameBut s t → t.past ≡ s.past → t ≡ record s { spare = t.spare }
spare_only s t same past = same ∙ ap (λ (p : List Entry). record s { past = p; spare = t.spare }) past

pub can_clean : {B : Type 0} (s t : History) (c : CarrierView B) → IsSameBut s t → t.past ≡ s.past → IsBetween s.config s.past → IsAnswered s.config s.past → 64 ≤ t.spare → c ≡ empty (writer_seat s) → CanClean t c
can_clean s t c same past between answered room carrier = record {
  steady = record { between = subst (λ (x : History). IsBetween x.config x.past) (sym (spare_only s t same past)) between; room = room };
  answered = subst (λ (x : History). IsAnswered x.config x.past) (sym (spare_only s t same past)) answered;
  carrier = carrier ∙ ap (λ (x : History). empty (writer_seat x)) (sym (spare_only s t same past));
}

from_spare : (tells : Bool) (s after : History) (k : ℕ) (m : Move) (o : Option ControlIs) → MovesTo tells (record s { spare = k }) after m o → MovesTo tells s after m o
from_spare tells s after k m None moved = record { rest = moved.rest; none_made = moved.none_made; same = moved.same }
from_spare tells s after k m (Some c) moved = record { heard = moved.heard; made = moved.made; same = moved.same; right = moved.right }

pub moves_from : (tells : Bool) (s t after : History) (at : CleaningIs) (o : Option ControlIs) → IsSameBut s t → t.past ≡ s.past → MovesTo tells t after (cleaning_move t.config t.past (pager t) at) o
    → MovesTo tells s after (cleaning_move s.config s.past (pager s) at) o
moves_from tells s t after at o same past moved =
    from_spare tells s after t.spare (cleaning_move s.config s.past (pager s) at) o (subst (λ (x : History). MovesTo tells x after (cleaning_move x.config x.past (pager x) at) o) (spare_only s t same past) moved)

-- whatever was made, only entries and spare places have changed
pub moves_same : (tells : Bool) (s t : History) (m : Move) (o : Option ControlIs) → MovesTo tells s t m o → IsSameBut s t
moves_same tells s t m None moved = moved.same
moves_same tells s t m (Some c) moved = moved.same

-- by the rundown's table
pub by_table : (tells : Bool) (s t : History) (at : CleaningIs) (o : Option ControlIs) → MovesTo tells s t (cleaning_move s.config s.past (pager s) at) o
    → IsByCases (rundown_cases s.config s.past (pager s) at) (λ (m : Move). MovesTo tells s t m o)
by_table tells s t at o moved = record { says = cleaning_move s.config s.past (pager s) at; first = goes_by_cases s.config s.past (pager s) at; so = moved }
