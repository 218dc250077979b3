-- The lines that say what is wrong with a trace. Source: this project's own.
use Rattle.std.specs.Prelude.{ℕ, List, ◌++◌, codes, decimal}
use Rattle.trace_words.specs.declared.cause.Cause.{Cause}
use Rattle.trace_words.specs.declared.cause.Cause.TheVariants.{LineTooLong, NotAscii, TooMany, UnknownWord, Misplaced, NoSuch, BadNumber, OutOfRange, Unaligned, Repeated}
use Rattle.trace_reader.specs.declared.fault.TraceFault.{TraceFault}
use Rattle.trace_reader.specs.declared.fault.TraceFault.TheVariants as fault
use Rattle.run_words.specs.Text.{ended, status_line}

-- a cause's name in capitals
abbrev pub cause_text : Cause → List ℕ
cause_text LineTooLong = codes "LINETOOLONG"
cause_text NotAscii = codes "NOTASCII"
cause_text TooMany = codes "TOOMANY"
cause_text UnknownWord = codes "UNKNOWNWORD"
cause_text Misplaced = codes "MISPLACED"
cause_text NoSuch = codes "NOSUCH"
cause_text BadNumber = codes "BADNUMBER"
cause_text OutOfRange = codes "OUTOFRANGE"
cause_text Unaligned = codes "UNALIGNED"
cause_text Repeated = codes "REPEATED"

abbrev pub fault_text : ℕ → Cause → List ℕ
fault_text n cause = ended (codes "TRACE " ++ decimal n ++ codes " " ++ cause_text cause)

abbrev pub unfinished_text : List ℕ
unfinished_text = ended (codes "TRACE UNFINISHED")

-- the status of a trace that gives no configuration, and its text
abbrev pub fault_status : TraceFault → ℕ
fault_status (fault.Line n breach) = 2
fault_status fault.Empty = 2
fault_status fault.Unfinished = 2
fault_status fault.ReadFault = 3
fault_status fault.NoMemory = 7

abbrev pub fault_told : TraceFault → List ℕ
fault_told (fault.Line n breach) = fault_text n breach.cause ++ status_line 2
fault_told fault.Empty = unfinished_text ++ status_line 2
fault_told fault.Unfinished = unfinished_text ++ status_line 2
fault_told fault.ReadFault = status_line 3
fault_told fault.NoMemory = status_line 7
