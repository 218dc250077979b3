-- What goes to standard error beside the output. Source: this project's own.
use Rattle.std.specs.Prelude.{◌≡◌, ◌≢◌, ℕ, List}
use Rattle.std.specs.declared.option.Option.{Option}
use Rattle.vm_types.specs.Moved.{Moved}
use Rattle.outside_io.specs.Views.{SinkView}
use Rattle.command_calls.specs.Moves.{Moves}
use Rattle.command_ends.specs.Concludes.{HasTold}
use Rattle.command_ends.specs.Wrongs.{IsWrong, IsWrongText}
use Rattle.command_ends.specs.declared.wrong.Wrong.{Wrong}
use Rattle.command_messages.specs.Messages.{IsSaid, message_of}
use Rattle.command_messages.specs.declared.faults.LineFault.{LineFault}
use Rattle.program_call.specs.LineTold.{IsLineTold}

-- The message is that for what is wrong.
pub record IsExplained (words : Option (List (List ℕ))) (ends : Moves) (messages : Moved SinkView) (status : ℕ) : Type 0 where
  pub wrong : Option Wrong
  pub line : Option LineFault
  pub text : List ℕ
  -- The text that was written says the same of the input, and of its faulty line these are the first bytes.
  pub says : status ≢ 4 → HasTold (IsWrong wrong) ends.output.before ends.output.after status
  pub quotes : IsWrongText wrong ends.source.before.left text
  -- With status 1 a fault is said that holds of the words, if they are known.
  pub told : status ≡ 1 → IsLineTold words line text
  pub said : IsSaid messages.before messages.after (message_of wrong line text status)
