-- Where the code of the serial policy is, in the words of its table. This project's own.
use Rattle.std.specs.Prelude.{◌≡◌, ℕ, Bool, false, Option, Some, IfSome}
use Rattle.std.specs.Option.{option_map}
use Rattle.vm_types.specs.declared.names.Proc.{Proc}
use Rattle.vm_types.specs.declared.reply.Reply.{Reply}
use Rattle.pager_policy.specs.Moves.{Control as ControlIs, Doing as DoingIs, Move, asking, control, freeing, saving}
use Rattle.pager_policy.specs.Policy.{Ends as EndsIs, asking_move, ends_part, ends_request}
use Rattle.policy_tables.specs.MoveCases.{move_cases}
use Rattle.policy_tables.specs.Rows.{first_case}
use Rattle.policy_tables.specs.Words.{told}
use Rattle.serial_laws.specs.Controlled.{IsLeft}
use Rattle.carried_landings.specs.Moved.{MovesTo}
use Rattle.vm_state.specs.History.{History, pager}
use Rattle.serial_moves.specs.declared.control.Control.{Control}
use Rattle.serial_moves.specs.declared.control.Doing.{Doing}
use Rattle.serial_moves.specs.declared.control.Doing.TheVariants.{Asking, Freeing, Saving}
use Rattle.serial_moves.specs.declared.control.AfterAnswer.{AfterAnswer}
use Rattle.serial_moves.specs.declared.control.AfterAnswer.TheVariants.{Made, Over}

abbrev pub number_of : Proc → ℕ
number_of p = p.0

abbrev pub doing_in : Doing → DoingIs
doing_in Asking = asking
doing_in (Saving begun p) = saving begun p.0
doing_in (Freeing begun p) = freeing begun p.0

abbrev pub control_in : Control → ControlIs
control_in c = record { doing = doing_in c.doing; leaving = option_map number_of c.leaving }

-- what a carrier of it ends of which each lift failed: the request, or a part of the work after an answer
abbrev pub ends_in : Doing → EndsIs
ends_in Asking = ends_request
ends_in (Saving begun p) = ends_part (control (freeing false p.0))
ends_in (Freeing begun p) = ends_part (control asking)

-- the policy's move, in the code's words
abbrev pub Moves : Bool → History → History → Move → Option Control → Type 0
Moves tells before after m goes = MovesTo tells before after m (option_map control_in goes)

-- what was made is the first row of the tables that holds, whatever reply its DONE shows, and the policy goes on there
pub record MovesByTable (tells : Bool) (before after : History) (c : ControlIs) (goes : Option Control) : Type 0 where
  pub says : Move
  pub first : (reply : Reply) → first_case (move_cases before.config before.past (pager before) reply c) ≡ Some (told reply says)
  pub so : Moves tells before after says goes

-- nothing was made, and the policy's move is that of the next request, before which this process is left
pub record AsksNext (before after : History) (m : Move) (leaving : Option Proc) : Type 0 where
  pub same : after ≡ before
  pub asks : m ≡ asking_move before.config before.past (pager before) (option_map number_of leaving)
  pub left : IfSome leaving (λ q. IsLeft before.config (pager before) q.0)

-- what the work after an answer comes to: a move was made, or it is over
abbrev pub ComesTo : Bool → History → History → Move → AfterAnswer → Type 0
ComesTo tells before after m (Made goes) = Moves tells before after m goes
ComesTo tells before after m (Over leaving) = AsksNext before after m leaving
