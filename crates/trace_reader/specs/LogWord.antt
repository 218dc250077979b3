-- A line after END by its words, as the code holds it. Source: this project's own.
use Rattle.std.specs.Prelude.{Result, Ok, Err}
use Rattle.trace_lines.specs.declared.breach.Breach.{Breach}
use Rattle.trace_words.specs.declared.cause.Cause.TheVariants.{UnknownWord, Misplaced}
use Rattle.trace_lines.specs.declared.part.Part.{Part}
use Rattle.trace_lines.specs.Breaches.{at_word}
use Rattle.trace_reader.specs.declared.head.AfterEnd.{AfterEnd}
use Rattle.trace_reader.specs.declared.head.AfterEnd.TheVariants as after
use Rattle.trace_reader.specs.Head.{HeadLine, begins_log, goes_on, is_faulty}

abbrev pub said_by_words : AfterEnd → HeadLine
said_by_words after.Log = begins_log
said_by_words after.Misplaced = is_faulty (at_word 2 Misplaced)
said_by_words after.Unknown = is_faulty (at_word 1 UnknownWord)

-- a line of the trace
abbrev pub plain : Result Part Breach → HeadLine
plain (Ok next) = goes_on next
plain (Err breach) = is_faulty breach
