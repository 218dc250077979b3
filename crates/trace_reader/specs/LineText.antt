-- The first bytes of a faulty line, and that there are none. Source: this project's own.
use Rattle.std.specs.Prelude.{◌≡◌, ℕ, List, [], Option, IfSome}
use Rattle.outside_io.specs.LineText.{line_text}
use Rattle.trace_reader.specs.declared.fault.TraceFault.{TraceFault}
use Rattle.trace_reader.specs.declared.fault.TraceFault.TheVariants.{NoMemory, ReadFault, Line, Empty, Unfinished}

-- of a faulty line of the text, if that is known, they were kept; an empty text has no line
abbrev pub IsTextOf : TraceFault → Option (List ℕ) → List ℕ → Type 0
IsTextOf (Line n breach) text kept = IfSome text (λ bytes. kept ≡ line_text n bytes)
IsTextOf NoMemory text kept = Unit {0}
IsTextOf ReadFault text kept = Unit {0}
IsTextOf Empty text kept = IfSome text (λ bytes. bytes ≡ [])
IsTextOf Unfinished text kept = Unit {0}
