-- What the rundown makes at a place, and what the writing of a cluster comes to. This project's own.
use Rattle.std.specs.Prelude.{◌≡◌, ℕ, Bool, Option, Some, None}
use Rattle.vm_types.specs.declared.names.Seat.{Seat}
use Rattle.pager_policy.specs.Given.{seen_at}
use Rattle.pager_policy.specs.Moves.{After, Control as ControlIs, Move, carries, goes}
use Rattle.pager_model.specs.Order.{IsAnswered}
use Rattle.pager_policy.specs.Rundown.{Place as PlaceIs, clean_move, writer_of, written_for_need}
use Rattle.call_begins.specs.MayBegin.{empty}
use Rattle.lift_carriers.specs.CarrierView.{CarrierView}
use Rattle.vm_state.specs.History.{History, pager}
use Rattle.carried_landings.specs.CarriedOn.{IsCarriedOn}
use Rattle.carried_landings.specs.Moved.{IsMoved, IsSteady}

-- the modified page writer's seat
abbrev pub writer_seat : History → Seat
writer_seat s = record { 0 = writer_of s.config }

-- between two moves of the rundown, with room for what one makes, and the writer's carrier has no lifts
pub record CanClean {B : Type 0} (s : History) (c : CarrierView B) : Type 0 where
  pub steady : IsSteady s
  pub answered : IsAnswered s.config s.past
  pub carrier : c ≡ empty (writer_seat s)

-- the seat's flights have landed, and each of them failed or not: the policy goes on where that leads
abbrev pub HasLanded : Bool → History → History → ℕ → Bool → Type 0
HasLanded tells before after seat all_failed =
    (onward : Bool → Bool → After) (c : ControlIs) → ((first : Bool) → onward all_failed first ≡ goes c) → IsCarriedOn tells before after seat onward c

-- the writer's seat has written one cluster, and each of its writes failed or not: the policy goes on where that leads
abbrev pub HasWritten : Bool → History → History → Bool → Type 0
HasWritten tells before after all_failed =
    (onward : Bool → Bool → After) (c : ControlIs) → ((first : Bool) → onward all_failed first ≡ goes c)
    → IsMoved tells before after (carries (writer_of before.config) (written_for_need before.config (pager before)) onward) c

-- the move at a place; where there is none it is the one that comes later
abbrev pub move_at : History → PlaceIs → Bool → Move → Move
move_at s at failed later = clean_move s.config s.past (pager s) at failed later (seen_at (pager s) at.process at.slot)

-- the move at the place was made, whatever would come later; or nothing was, and it is the one that comes later
abbrev pub Cleans : Bool → History → History → PlaceIs → Bool → Option ControlIs → Type 0
Cleans tells before after at failed None = (after ≡ before) × ((later : Move) → move_at before at failed later ≡ later)
Cleans tells before after at failed (Some c) = (later : Move) → IsMoved tells before after (move_at before at failed later) c
