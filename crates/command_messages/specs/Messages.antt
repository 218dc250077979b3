-- What goes to standard error beside the program's output. Source: this project's own.
use Rattle.std.specs.Prelude.{◌≡◌, ◌⊎◌, ℕ, ◌≤◌, ◌==◌, ◌||◌, nat_lt, if◌then◌else◌, List, [], ◌++◌, length, take, codes, decimal, None, Some}
use Rattle.std.specs.List.{flat_map}
use Rattle.std.specs.declared.option.Option.{Option}
use Rattle.std.specs.Io.KnownBytes.{Appends}
use Rattle.vm_types.specs.Counts.{Rose}
use Rattle.outside_io.specs.Views.{SinkView}
use Rattle.trace_lines.specs.declared.breach.Breach.{Breach}
use Rattle.command_messages.specs.LogMessage.{log_message}
use Rattle.command_messages.specs.Shown.{shown}
use Rattle.command_ends.specs.declared.wrong.Wrong.{Wrong}
use Rattle.command_ends.specs.declared.wrong.Wrong.TheVariants.{Line, Empty, Unfinished, LogTooLong, LogLine, DumpByte, Undeclared}
use Rattle.command_messages.specs.Bounds.{over_word}
use Rattle.command_messages.specs.LineFaults.{line_fault_text}
use Rattle.command_messages.specs.Marks.{mark_text}
use Rattle.command_messages.specs.Reasons.{reason_text}
use Rattle.command_messages.specs.declared.faults.LineFault.{LineFault}

-- beside status 1
abbrev pub usage_text : List ℕ
usage_text = codes "neqysbar 1.0.0\nusage: neqysbar serial < TRACE\n           reads a trace and runs it; writes each entry, a report, the pages left dirty and the status\n       neqysbar replay < TRACE\n           reads a trace and runs it with a thread for each process, the writer and the swapper; writes what\n           serial writes, of one legal run\n       neqysbar study --process X --frames K < TRACE\n           reads a trace; writes what the references of process X, A to P, cost with K page frames, 1 to 1024\n       neqysbar make --seed N --procs P --refs R\n           reads nothing; makes a trace from the seed N, 0 to 4294967295, with P processes, 1 to 16, and R\n           references, 1 to 100000, and runs it; writes how many entries of each kind the run has\n       neqysbar check < TRACE-AND-LOG\n           reads a trace, a line LOG and a log; writes whether the log is legal, or its first line that isn't\n       neqysbar dump < TRACE > FILE\n           reads a trace and runs it up to the report; writes the dump of the page database there, in bytes\n       neqysbar show < FILE\n           reads a dump; writes what it holds, and each count in it that a recount doesn't give\nexample: neqysbar study --process A --frames 8 < examples/swapping.trace\n"

-- beside a faulty line: its number and why it is at fault; its first bytes; and a mark below the word that breaks
-- the rule, or that is over the bound
abbrev pub fault_message : ℕ → Breach → List ℕ → List ℕ
fault_message number breach text =
    codes "neqysbar: line " ++ decimal number ++ codes ": " ++ reason_text number breach text ++ codes "\n    " ++ flat_map shown text ++ codes "\n" ++ mark_text (over_word breach.word breach.bound text) text

-- beside a log that goes on after as many lines as a log may have
abbrev pub too_long_message : List ℕ
too_long_message = codes "neqysbar: the log has more lines than a log may have, 16777216\n"

-- beside a trace without a faulty line
abbrev pub unfinished_message : List ℕ
unfinished_message = codes "neqysbar: the input ends before the line END of its trace, or before the line LOG that check reads behind END\n"

-- beside an input without bytes
abbrev pub empty_message : List ℕ
empty_message = codes "neqysbar: the input is empty\n"

-- beside a study of a process that the trace doesn't have
abbrev pub undeclared_message : List ℕ
undeclared_message = codes "neqysbar: the trace doesn't declare the process that --process names, so it has no references\n"

-- the letters in front of a dump, of which so many are there
abbrev pub letters_text : ℕ → List ℕ
letters_text bytes = if nat_lt bytes 8 then codes ", whose letters in front are VMSDUMP1" else []

-- beside bytes that are no dump: how many of them begin one
abbrev pub dump_message : ℕ → List ℕ
dump_message bytes = codes "neqysbar: the first " ++ decimal bytes ++ codes " bytes begin a dump" ++ letters_text bytes ++ codes "; the next one is wrong, or is missing\n"

-- by what is wrong with the input, and by the first bytes of its faulty line
abbrev pub wrong_message : Wrong → List ℕ → List ℕ
wrong_message (Line number breach) text = fault_message number breach text
wrong_message Empty text = empty_message
wrong_message Unfinished text = unfinished_message
wrong_message LogTooLong text = too_long_message
wrong_message (LogLine number reason) text = log_message number reason text
wrong_message (DumpByte bytes) text = dump_message bytes
wrong_message (Undeclared proc) text = undeclared_message

-- beside status 1: what is wrong with the command line, if that is handed on, and usage
abbrev pub usage_message : LineFault → List ℕ → List ℕ
usage_message fault text = line_fault_text fault text ++ usage_text

abbrev pub line_message : Option LineFault → List ℕ → List ℕ
line_message (Some fault) text = usage_message fault text
line_message None text = usage_text

-- by the status: what failed; nothing beside the others
abbrev pub status_message : ℕ → List ℕ
status_message status =
    if status == 3 then codes "neqysbar: standard input can't be read\n" else
    if status == 4 then codes "neqysbar: standard output can't be written\n" else
    if status == 6 then codes "neqysbar: a block of the disk can't be made\n" else
    if status == 7 then codes "neqysbar: out of memory\n" else []

-- the message beside a status, by what is wrong with the input, with the command line, and by the bytes that were kept
abbrev pub message_of : Option Wrong → Option LineFault → List ℕ → ℕ → List ℕ
message_of (Some wrong) line text status = if (status == 4) || (status == 7) then status_message status else wrong_message wrong text
message_of None line text status = if status == 1 then line_message line text else status_message status

-- a prefix of the message was taken, and the whole unless a call failed or took nothing
abbrev pub IsSaid : SinkView → SinkView → List ℕ → Type 0
IsSaid before after message =
    (n : ℕ) × (n ≤ length message) × Appends before.taken after.taken (take n message)
    × ((n ≡ length message) ⊎ (Rose before.failures after.failures ⊎ Rose before.stalls after.stalls))
