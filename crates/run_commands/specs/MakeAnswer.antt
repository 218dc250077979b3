-- What `make` answers, by what is seen of the depot before and after. A past is a list of entries, the newest
-- first. Source: this project's own.
use Rattle.std.specs.Prelude.{◌≡◌, ◌⊎◌, ℕ, List, ◌++◌, reverse}
use Rattle.vm_types.specs.Moved.{Moved}
use Rattle.vm_journal.specs.declared.entry.Entry.{Entry}
use Rattle.disk_trait.specs.DepotView.{DepotView}
use Rattle.pager_policy.specs.Serial.{IsSerial}
use Rattle.run_words.specs.Text.{status_line}
use Rattle.trace_maker.specs.Made.{made_config}
use Rattle.command_ends.specs.Concludes.{IsOutcome}
use Rattle.run_commands.specs.Headline.{HasNoBlocks, IsRunOver, finished_status}
use Rattle.run_commands.specs.MakeText.{make_lines}
use Rattle.run_commands.specs.declared.make.Make.{Make}

-- the lines of the one finished run of the configuration that is made, its rundown included
pub record IsCountedRun (make : Make) (depot : Moved DepotView) (status : ℕ) (text : List ℕ) : Type 0 where
  pub past : List Entry
  pub rest : List Entry
  pub over : IsRunOver (IsSerial (made_config make.seed make.procs make.refs)) depot (made_config make.seed make.procs make.refs) past rest
  pub ending : status ≡ finished_status (made_config make.seed make.procs make.refs) (rest ++ past)
  pub lines : text ≡ make_lines make (reverse (rest ++ past)) ++ status_line status

abbrev pub IsMakeAnswer : Make → Moved DepotView → ℕ → List ℕ → Type 0
IsMakeAnswer make depot status text = IsCountedRun make depot status text ⊎ HasNoBlocks depot status text

-- the text that goes with a status
pub data MakeTells (make : Make) (depot : Moved DepotView) : ℕ → List ℕ → Type 0 where
  made : (status : ℕ) (text : List ℕ) → IsOutcome status → IsMakeAnswer make depot status text → MakeTells make depot status text
  no_memory : MakeTells make depot 7 (status_line 7)
