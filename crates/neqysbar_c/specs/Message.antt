-- What is said beside the status of a call from outside. Source: this project's own.
use Rattle.std.specs.Prelude.{◌≡◌, ℕ, List, Some, None, length}
use Rattle.std.specs.declared.option.Option.{Option}
use Rattle.vm_types.specs.Moved.{Moved}
use Rattle.command_ends.specs.Wrongs.{IsWrong, IsWrongText}
use Rattle.command_ends.specs.declared.wrong.Wrong.{Wrong}
use Rattle.command_messages.specs.LineFaults.{HoldsOfWords, Quotes}
use Rattle.command_messages.specs.Messages.{message_of}
use Rattle.command_messages.specs.declared.faults.LineFault.{LineFault}
use Rattle.neqysbar_c.specs.Call.{HasRun, filled}
use Rattle.neqysbar_c.specs.Words.{words_of}

-- a fault is said that holds of the words, and these are the first bytes of the word that is quoted
abbrev pub IsFaultOf : List (List ℕ) → Option LineFault → List ℕ → Type 0
IsFaultOf words None kept = ⊥
IsFaultOf words (Some fault) kept = HoldsOfWords words fault × Quotes words fault kept

-- The message is that for what is wrong with the input, or with the words.
pub record HasMessage (line input : List ℕ) (status : ℕ) (text message : List ℕ) : Type 0 where
  pub wrong : Option Wrong
  pub fault : Option LineFault
  pub kept : List ℕ
  -- The text says the same of the input, and of its faulty line these are the first bytes.
  pub says : IsWrong wrong status text
  pub quotes : IsWrongText wrong (Some input) kept
  -- With status 1 a fault is said that holds of the words.
  pub told : status ≡ 1 → IsFaultOf (words_of line) fault kept
  pub is : message ≡ message_of wrong fault kept status

-- the buffers before and after, the lengths of the output and of the message that were told, and the status of a call
pub data IsToldCall (line input : List ℕ) (output message : Moved (List ℕ)) (lengths : ℕ × ℕ) : ℕ → Type 0 where
  -- the text of the run and the message were written as far as there was room, and their lengths were told
  ran : (status : ℕ) (text said : List ℕ) → HasRun line input status text → HasMessage line input status text said
      → output.after ≡ filled output.before text → message.after ≡ filled message.before said → lengths ≡ (length text, length said)
      → IsToldCall line input output message lengths status
  -- memory ran out for the words or for a text, and nothing was written
  no_memory : output.after ≡ output.before → message.after ≡ message.before → lengths ≡ (0, 0)
      → IsToldCall line input output message lengths 7
