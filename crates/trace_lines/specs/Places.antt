-- The parts of a trace, in order. Source: this project's own.
use Rattle.std.specs.Prelude.{ℕ}
use Rattle.trace_lines.specs.declared.places.Place.{Place}
use Rattle.trace_lines.specs.declared.places.Place.TheVariants.{Version, Frames, PageFile, Declarations, Requests, Ended}

-- how many of the lines VMTRACE or LONGTRACE, FRAMES, PAGEFILE, BODY and END come before
abbrev pub rank : Place → ℕ
rank Version = 0
rank Frames = 1
rank PageFile = 2
rank Declarations = 3
rank Requests = 4
rank Ended = 5
