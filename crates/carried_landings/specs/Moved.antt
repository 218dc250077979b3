-- What one move of the serial policy leaves of a history. This project's own.
use Rattle.std.specs.Prelude.{◌≡◌, Bool, true, ◌≤◌, Option, Some, None}
use Rattle.pager_policy.specs.Moves.{Control as ControlIs, Move, rests}
use Rattle.pager_policy.specs.Policy.{move_of}
use Rattle.pager_policy.specs.Serial.{Heard, IsMade}
use Rattle.pager_model.specs.Spoken.{IsRight}
use Rattle.serial_laws.specs.Between.{IsBetween}
use Rattle.serial_laws.specs.Controlled.{IsControlled, IsInBody}
use Rattle.vm_state.specs.History.{History}

-- between two moves, with room for what one makes
pub record IsSteady (s : History) : Type 0 where
  pub between : IsBetween s.config s.past
  pub room : 64 ≤ s.spare

-- the policy is in the body, and this is its move
pub record IsMoveHere (s : History) (m : Move) : Type 0 where
  pub at : ControlIs
  pub fits : IsControlled s.config s.past at
  pub body : IsInBody at.doing
  pub is : move_of s.config s.past at ≡ m

-- but for the entries and the spare places the history is the same
abbrev pub IsSameBut : History → History → Type 0
IsSameBut before after = after ≡ record before { past = after.past; spare = after.spare }

-- the move was made, told something, and the policy goes on there
pub record IsMoved (tells : Bool) (before after : History) (m : Move) (next : ControlIs) : Type 0 where
  pub heard : Heard
  pub made : IsMade before.config before.past heard after.past next m
  pub same : IsSameBut before after
  pub right : tells ≡ true → IsRight before.config before.past → IsRight after.config after.past

-- there is no move, and no entry was made
pub record IsResting (before after : History) (m : Move) : Type 0 where
  pub rest : m ≡ rests
  pub none_made : after.past ≡ before.past
  pub same : IsSameBut before after

-- either the move was made, and the policy goes on there, or there is none
abbrev pub MovesTo : Bool → History → History → Move → Option ControlIs → Type 0
MovesTo tells before after m None = IsResting before after m
MovesTo tells before after m (Some c) = IsMoved tells before after m c
