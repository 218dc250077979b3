-- What the program tells, by its status. Source: this project's own.
use Rattle.std.specs.Prelude.{◌≡◌, ◌⊎◌, ℕ, ◌≤◌, true, List, [], Some, length, take, IfSome}
use Rattle.std.specs.declared.option.Option.{Option}
use Rattle.std.specs.Io.KnownBytes.{Appends}
use Rattle.vm_types.specs.BlockView.{Retired}
use Rattle.disk_trait.specs.DepotView.{DepotView}
use Rattle.vm_types.specs.Counts.{Rose}
use Rattle.vm_types.specs.Moved.{Moved, moved}
use Rattle.outside_io.specs.Views.{SourceView, SinkView}
use Rattle.run_words.specs.Text.{status_line}
use Rattle.replay_cli.specs.Commands.{Told}
use Rattle.replay_cli.specs.declared.ways.Way.TheVariants.{One, Many}
use Rattle.program_call.specs.Words.{HandsOver}

-- the text that goes with a status of the program; `known` are all words, if they are known
pub data ProgramTells (known : Option (List (List ℕ))) (source : Moved SourceView) (depot : Moved DepotView) : ℕ → List ℕ → Type 0 where
  -- the command was run for which the handed over words ask
  ran : (all words : List (List ℕ)) (status : ℕ) (text : List ℕ) → IfSome known (λ told. all ≡ told) → HandsOver all words
      → Told Many words source depot status text → ProgramTells known source depot status text
  -- memory ran out while the words were copied, nothing was read, and no block was made
  no_words : source.after ≡ source.before → depot.after ≡ depot.before → ProgramTells known source depot 7 (status_line 7)

-- with status 4 a prefix of the text that goes with some other status was taken, and a call of the
-- output failed: a write, or the flush after the whole text
abbrev pub IsPartly : (ℕ → List ℕ → Type 0) → SinkView → SinkView → Type 0
IsPartly tells before after =
    (status : ℕ) × ((text : List ℕ) × ((n : ℕ) × tells status text × (n ≤ length text) × Appends before.taken after.taken (take n text)))
    × (Rose before.failures after.failures ⊎ Rose before.stalls after.stalls)

-- what is seen of a source in memory that never fails, by the bytes that are left
abbrev pub bytes_view : List ℕ → SourceView
bytes_view left = record { left = Some left; failures = 0 }

-- what is seen of a depot in memory that never fails, by what is seen of the blocks that it took back
abbrev pub memory_view : List Retired → DepotView
memory_view retired = record { tells = record { content = true; plan = true }; retired = retired; failures = 0 }

-- the words were run over a source in memory that had these bytes and a depot in memory, on one thread, and the text goes
-- with the status
abbrev pub TellsOfBytes : List (List ℕ) → List ℕ → ℕ → List ℕ → Type 0
TellsOfBytes words input status text = (rest : List ℕ) × ((blocks : List Retired)
    × Told One words (moved (bytes_view input) (bytes_view rest)) (moved (memory_view []) (memory_view blocks)) status text)
