-- The command lines, and what each command answers. A further command is a case more of each.
-- Source: this project's own.
use Rattle.std.specs.Prelude.{◌≡◌, ◌⊎◌, ℕ, ◌≤◌, List, [], ◌∷◌, codes, map, None, Some}
use Rattle.std.specs.Borrow.{Bor}
use Rattle.std.specs.declared.option.Option.{Option}
use Rattle.vm_types.specs.declared.limits.TheConstants.{MOST_STUDY_FRAMES}
use Rattle.vm_types.specs.Moved.{Moved}
use Rattle.disk_trait.specs.DepotView.{DepotView}
use Rattle.outside_io.specs.Views.{SourceView}
use Rattle.pager_policy.specs.Serial.{IsSerial}
use Rattle.run_words.specs.Text.{status_line}
use Rattle.check_command.specs.CheckTells.{CheckTells, HasCheckInput}
use Rattle.command_ends.specs.Tells.{IsTrace, Tells}
use Rattle.study_command.specs.CommandLine.{AsksFor}
use Rattle.study_command.specs.StudyText.{IsStudyAnswer}
use Rattle.show_command.specs.ShowTells.{HasDump, ShowTells}
use Rattle.run_commands.specs.DumpAnswer.{DumpTells}
use Rattle.run_commands.specs.Headline.{RunTells}
use Rattle.run_commands.specs.MakeAnswer.{MakeTells}
use Rattle.run_commands.specs.MakeLine.{AsksToMake, IsMakeable}
use Rattle.replay_run.specs.Replayed.{HasWorkedAfterAnswers}
use Rattle.replay_cli.specs.declared.ways.Way.{Way}
use Rattle.replay_cli.specs.declared.ways.Way.TheVariants.{One, Many}
use Rattle.replay_cli.specs.declared.words.Command.{Command}
use Rattle.replay_cli.specs.declared.words.Command.TheVariants.{Serial, Replay, Study, Make, Check, Dump, Show}

-- the words as texts
abbrev pub texts : List (Bor (List ℕ)) → List (List ℕ)
texts words = map (λ word. word.now) words

-- the word of a command that has no options
abbrev pub plain_word : Command → Option (List ℕ)
plain_word Serial = Some (codes "serial")
plain_word Replay = Some (codes "replay")
plain_word (Study study) = None
plain_word (Make make) = None
plain_word Check = Some (codes "check")
plain_word Dump = Some (codes "dump")
plain_word Show = Some (codes "show")

-- the words ask for the command: the word of one that has no options alone, or `study` or `make` and its options
abbrev pub Asks : List (List ℕ) → Command → Type 0
Asks words Serial = words ≡ codes "serial" ∷ []
Asks words Replay = words ≡ codes "replay" ∷ []
Asks words (Study study) = (options : List (List ℕ)) × (words ≡ codes "study" ∷ options) × AsksFor options study
Asks words (Make make) = (options : List (List ℕ)) × (words ≡ codes "make" ∷ options) × AsksToMake options make
Asks words Check = words ≡ codes "check" ∷ []
Asks words Dump = words ≡ codes "dump" ∷ []
Asks words Show = words ≡ codes "show" ∷ []

-- on how many threads the command runs
abbrev pub way_of : Command → Way
way_of Serial = One
way_of Replay = Many
way_of (Study study) = One
way_of (Make make) = One
way_of Check = One
way_of Dump = One
way_of Show = One

-- the command can be run there: on many threads each one, on one thread each but `replay`
abbrev pub Offers : Way → Command → Type 0
Offers One command = way_of command ≡ One
Offers Many command = Unit {0}

-- the words begin with a command that has options
abbrev pub HasOptionWords : List (List ℕ) → Type 0
HasOptionWords words = (options : List (List ℕ)) × ((words ≡ codes "study" ∷ options) ⊎ (words ≡ codes "make" ∷ options))

-- its numbers are ones that it takes
abbrev pub HasNumbersInRange : Command → Type 0
HasNumbersInRange Serial = Unit {0}
HasNumbersInRange Replay = Unit {0}
HasNumbersInRange (Study study) = (1 ≤ study.frames) × (study.frames ≤ MOST_STUDY_FRAMES)
HasNumbersInRange (Make make) = IsMakeable make
HasNumbersInRange Check = Unit {0}
HasNumbersInRange Dump = Unit {0}
HasNumbersInRange Show = Unit {0}

-- what the command reads is known: a trace, a trace and a log that isn't too long, a dump, or nothing
abbrev pub HasInput : Command → SourceView → Type 0
HasInput Serial before = IsTrace before
HasInput Replay before = IsTrace before
HasInput (Study study) before = IsTrace before
HasInput (Make make) before = Unit {0}
HasInput Check before = HasCheckInput before
HasInput Dump before = IsTrace before
HasInput Show before = HasDump before

-- its status if it has its input and nothing fails: 0, or 5 with pages left dirty, or 8 with a line of the log that
-- isn't legal; or 7
abbrev pub IsDoneStatus : Command → ℕ → Type 0
IsDoneStatus Serial status = (status ≡ 0) ⊎ ((status ≡ 5) ⊎ (status ≡ 7))
IsDoneStatus Replay status = (status ≡ 0) ⊎ ((status ≡ 5) ⊎ (status ≡ 7))
IsDoneStatus (Study study) status = (status ≡ 0) ⊎ ((status ≡ 5) ⊎ (status ≡ 7))
IsDoneStatus (Make make) status = (status ≡ 0) ⊎ ((status ≡ 5) ⊎ (status ≡ 7))
IsDoneStatus Check status = (status ≡ 0) ⊎ ((status ≡ 8) ⊎ (status ≡ 7))
IsDoneStatus Dump status = (status ≡ 0) ⊎ (status ≡ 7)
IsDoneStatus Show status = (status ≡ 0) ⊎ (status ≡ 7)

-- what the command tells with a status, by what is seen of the source and of the depot before and after; a study,
-- a check and a dump that is shown make no block, and `make` reads nothing
abbrev pub Obeys : Command → Moved SourceView → Moved DepotView → ℕ → List ℕ → Type 0
Obeys Serial source depot status text = RunTells IsSerial source depot status text
Obeys Replay source depot status text = RunTells HasWorkedAfterAnswers source depot status text
Obeys (Study study) source depot status text = Tells (IsStudyAnswer study) source.before source.after status text × (depot.after ≡ depot.before)
Obeys (Make make) source depot status text = MakeTells make depot status text × (source.after ≡ source.before)
Obeys Check source depot status text = CheckTells source.before source.after status text × (depot.after ≡ depot.before)
Obeys Dump source depot status text = DumpTells source depot status text
Obeys Show source depot status text = ShowTells source.before source.after status text × (depot.after ≡ depot.before)

-- the text that goes with a status, each with its cause: by the words, and by what is seen of the source and of the
-- depot before and after
pub data Told (way : Way) (words : List (List ℕ)) (source : Moved SourceView) (depot : Moved DepotView) : ℕ → List ℕ → Type 0 where
  -- the words ask for no command that can be run there: nothing is read, and no block is made
  usage : ((command : Command) → Asks words command → Offers way command → ⊥) → source.after ≡ source.before → depot.after ≡ depot.before → Told way words source depot 1 (status_line 1)
  -- memory ran out while options were read: nothing is read, and no block is made
  unread_options : HasOptionWords words → source.after ≡ source.before → depot.after ≡ depot.before → Told way words source depot 7 (status_line 7)
  -- what the command tells
  obeyed : (command : Command) (status : ℕ) (text : List ℕ) → Asks words command → Offers way command → Obeys command source depot status text
      → Told way words source depot status text
