-- The first words of the lines that aren't requests. Source: this project's own.
use Rattle.std.specs.Prelude.{ℕ, ◌==◌, List, Option, Some, None, codes, if◌then◌else◌}
use Rattle.trace_words.specs.Words.{is}
use Rattle.trace_lines.specs.declared.keywords.Keyword.{Keyword}
use Rattle.trace_lines.specs.declared.keywords.Keyword.TheVariants.{Version, Long, Frames, PageFile, Param, Bad, Section, Data, Process, MapZero, MapSection, Fail, Body, End}
use Rattle.trace_lines.specs.declared.places.Place.{Place}
use Rattle.trace_lines.specs.declared.places.Place.TheVariants as place
use Rattle.trace_lines.specs.Places.{rank}

-- LONGTRACE is a keyword of a trace's first line alone
abbrev pub long_at : Place → Option Keyword
long_at at = if rank at == rank place.Version then Some Long else None

-- the keyword that the word is at this place
abbrev pub keyword_of : Place → List ℕ → Option Keyword
keyword_of at word =
    if is word (codes "VMTRACE") then Some Version
    else if is word (codes "LONGTRACE") then long_at at
    else if is word (codes "FRAMES") then Some Frames
    else if is word (codes "PAGEFILE") then Some PageFile
    else if is word (codes "PARAM") then Some Param
    else if is word (codes "BAD") then Some Bad
    else if is word (codes "SECTION") then Some Section
    else if is word (codes "DATA") then Some Data
    else if is word (codes "PROCESS") then Some Process
    else if is word (codes "MAPZERO") then Some MapZero
    else if is word (codes "MAPSEC") then Some MapSection
    else if is word (codes "FAIL") then Some Fail
    else if is word (codes "BODY") then Some Body
    else if is word (codes "END") then Some End
    else None

-- where such a line stands
abbrev pub place_of : Keyword → Place
place_of Version = place.Version
place_of Long = place.Version
place_of Frames = place.Frames
place_of PageFile = place.PageFile
place_of Param = place.Declarations
place_of Bad = place.Declarations
place_of Section = place.Declarations
place_of Data = place.Declarations
place_of Process = place.Declarations
place_of MapZero = place.Declarations
place_of MapSection = place.Declarations
place_of Fail = place.Declarations
place_of Body = place.Declarations
place_of End = place.Requests
