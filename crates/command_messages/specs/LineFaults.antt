-- What is wrong with a command line, as a statement about its words, and the line that says it. Source: this
-- project's own.
use Rattle.std.specs.Prelude.{◌≡◌, ◌⊎◌, ℕ, ◌+◌, ◌<◌, Bool, false, List, [], ◌∷◌, ◌++◌, All, codes, get_or, is_some, length, take}
use Rattle.std.specs.List.{flat_map}
use Rattle.std.specs.Str.{IsUtf8}
use Rattle.vm_types.specs.declared.limits.TheConstants.{MOST_PROCESSES, MOST_REQUESTS}
use Rattle.command_options.specs.Numbers.{if_right}
use Rattle.study_command.specs.CommandLine.{frames_named, process_named}
use Rattle.trace_words.specs.Number.{decimal_within}
use Rattle.command_messages.specs.Shown.{shown}
use Rattle.command_messages.specs.declared.faults.CommandName.{CommandName}
use Rattle.command_messages.specs.declared.faults.CommandName.TheVariants.{Serial, Replay, Study, Make, Check, Dump, Show}
use Rattle.command_messages.specs.declared.faults.LineOption.{LineOption}
use Rattle.command_messages.specs.declared.faults.LineOption.TheVariants.{Process, Frames, Seed, Procs, Refs}
use Rattle.command_messages.specs.declared.faults.LineFault.{LineFault}
use Rattle.command_messages.specs.declared.faults.LineFault.TheVariants.{NotText, NoCommand, NoSuchCommand, Missing, BadValue, Other}

-- the first word of a command line
abbrev pub command_word : CommandName → List ℕ
command_word Serial = codes "serial"
command_word Replay = codes "replay"
command_word Study = codes "study"
command_word Make = codes "make"
command_word Check = codes "check"
command_word Dump = codes "dump"
command_word Show = codes "show"

-- an option's word
abbrev pub option_word : LineOption → List ℕ
option_word Process = codes "--process"
option_word Frames = codes "--frames"
option_word Seed = codes "--seed"
option_word Procs = codes "--procs"
option_word Refs = codes "--refs"

-- the command that has the option
abbrev pub command_with : LineOption → CommandName
command_with Process = Study
command_with Frames = Study
command_with Seed = Make
command_with Procs = Make
command_with Refs = Make

-- whether an option may have the value
abbrev pub takes : LineOption → List ℕ → Bool
takes Process value = is_some (process_named value)
takes Frames value = is_some (frames_named value)
takes Seed value = is_some (if_right (decimal_within 0 4294967295 value))
takes Procs value = is_some (if_right (decimal_within 1 MOST_PROCESSES value))
takes Refs value = is_some (if_right (decimal_within 1 MOST_REQUESTS value))

-- the word is the option's and has its value behind =
abbrev pub HasInside : LineOption → List ℕ → List ℕ → Type 0
HasInside option word value = word ≡ option_word option ++ 61 ∷ value

-- the word is the option's, with its value behind = or in the next word
abbrev pub IsOptionWord : LineOption → List ℕ → Type 0
IsOptionWord option word = (word ≡ option_word option) ⊎ ((value : List ℕ) × HasInside option word value)

-- a word of the option stands at this place, with a value that it may not have, or with none
abbrev pub IsBadAt : LineOption → List (List ℕ) → ℕ → Type 0
IsBadAt option words place =
    ((get_or words place [] ≡ option_word option) × (takes option (get_or words (place + 1) []) ≡ false))
    ⊎ ((value : List ℕ) × HasInside option (get_or words place []) value × (takes option value ≡ false))

-- no word is the option's
abbrev pub IsMissing : LineOption → List (List ℕ) → Type 0
IsMissing option words = (place : ℕ) → place < length words → IsOptionWord option (get_or words place []) → ⊥

-- the command's word, and others behind it
abbrev pub Behind : CommandName → List (List ℕ) → (List (List ℕ) → Type 0) → Type 0
Behind command words holds = (rest : List (List ℕ)) × (words ≡ command_word command ∷ rest) × holds rest

-- what is said holds of the words
abbrev pub HoldsOfWords : List (List ℕ) → LineFault → Type 0
HoldsOfWords words NotText = All IsUtf8 words → ⊥
HoldsOfWords words NoCommand = words ≡ []
HoldsOfWords words NoSuchCommand = (first : List ℕ) × ((rest : List (List ℕ)) × (words ≡ first ∷ rest) × ((command : CommandName) → first ≡ command_word command → ⊥))
HoldsOfWords words (Missing option) = Behind (command_with option) words (λ rest. IsMissing option rest)
HoldsOfWords words (BadValue option) = Behind (command_with option) words (λ rest. (place : ℕ) × (place < length rest) × IsBadAt option rest place)
HoldsOfWords words (Other command) = Behind command words (λ rest. Unit {0})

-- which of the words the line quotes
abbrev pub Quotes : List (List ℕ) → LineFault → List ℕ → Type 0
Quotes words NoSuchCommand kept = kept ≡ take 80 (get_or words 0 [])
Quotes words other kept = Unit {0}

-- what an option may be
abbrev pub range_text : LineOption → List ℕ
range_text Process = codes "A to P"
range_text Frames = codes "1 to 1024"
range_text Seed = codes "0 to 4294967295"
range_text Procs = codes "1 to 16"
range_text Refs = codes "1 to 100000"

-- what a command takes
abbrev pub takes_text : CommandName → List ℕ
takes_text Serial = codes "serial takes its trace from standard input: serial < FILE"
takes_text Replay = codes "replay takes its trace from standard input: replay < FILE"
takes_text Study = codes "study takes --process X and --frames K, each once, and no other word"
takes_text Make = codes "make takes --seed N, --procs P and --refs R, each once, and no other word"
takes_text Check = codes "check takes its trace and its log from standard input: check < FILE"
takes_text Dump = codes "dump takes its trace from standard input and writes bytes: dump < TRACE > FILE"
takes_text Show = codes "show takes its dump from standard input: show < FILE"

-- that an option is missing, and what its command takes
abbrev pub missing_text : LineOption → List ℕ
missing_text option = option_word option ++ codes " is missing: " ++ takes_text (command_with option)

-- what is wrong, in words, with the bytes that are quoted
abbrev pub said_text : LineFault → List ℕ → List ℕ
said_text NotText kept = codes "a word isn't UTF-8"
said_text NoCommand kept = codes "no command"
said_text NoSuchCommand kept = codes "no such command: " ++ flat_map shown kept
said_text (Missing option) kept = missing_text option
said_text (BadValue option) kept = option_word option ++ codes " is " ++ range_text option
said_text (Other command) kept = takes_text command

-- the line that says it
abbrev pub line_fault_text : LineFault → List ℕ → List ℕ
line_fault_text fault kept = codes "neqysbar: " ++ said_text fault kept ++ codes "\n"
