-- What a call from outside does: the words and the input come as bytes, and the text goes into a
-- buffer. Source: this project's own.
use Rattle.std.specs.Prelude.{◌≡◌, ℕ, List, ◌++◌, length, take, drop}
use Rattle.program_call.specs.ProgramTells.{TellsOfBytes}
use Rattle.neqysbar_c.specs.Words.{IsCommandLine}

-- a command line was run over the input, and the text goes with its status
abbrev pub HasRun : List ℕ → List ℕ → ℕ → List ℕ → Type 0
HasRun line input status text =
    (words : List (List ℕ)) × IsCommandLine line words × TellsOfBytes words input status text

-- a buffer with the text's first bytes, as many as it has room for, and behind a shorter text as it was
abbrev pub filled : List ℕ → List ℕ → List ℕ
filled buffer text = take (length buffer) text ++ drop (length text) buffer

-- the buffer's bytes before and after, the number that was told and the status of a call
pub data IsCall (line input before after : List ℕ) (number : ℕ) : ℕ → Type 0 where
  -- the text of the run was written as far as there was room, and its length was told
  ran : (status : ℕ) (text : List ℕ) → HasRun line input status text → after ≡ filled before text → number ≡ length text
      → IsCall line input before after number status
  -- memory ran out for the words or for the text, and nothing was written
  no_memory : after ≡ before → number ≡ 0 → IsCall line input before after number 7
