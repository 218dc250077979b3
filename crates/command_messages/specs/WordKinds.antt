-- What a word of a line is by its place, and what may stand there. Source: this project's own.
use Rattle.std.specs.Prelude.{ℕ, ◌==◌, ◌||◌, List, codes, if◌then◌else◌}
use Rattle.trace_words.specs.Words.{is}
use Rattle.trace_lines.specs.Grammar.{is_letter}
use Rattle.command_messages.specs.declared.kinds.WordKind.{WordKind}
use Rattle.command_messages.specs.declared.kinds.WordKind.TheVariants as kind

-- of a line that maps: the word of this number
abbrev pub map_kind : ℕ → WordKind
map_kind number = if number == 2 then kind.Process else kind.Protection

abbrev pub section_map_kind : ℕ → WordKind
section_map_kind number = if number == 5 then kind.Section else map_kind number

-- of a line that declares, by its first word
abbrev pub declared_kind : List ℕ → ℕ → WordKind
declared_kind first number =
    if is first (codes "PARAM") then kind.Parameter
    else if is first (codes "SECTION") then (if number == 2 then kind.Section else kind.SectionKind)
    else if is first (codes "DATA") then kind.Section
    else if is first (codes "PROCESS") then kind.Process
    else if is first (codes "MAPZERO") then map_kind number
    else if is first (codes "MAPSEC") then section_map_kind number
    else if is first (codes "FAIL") then kind.Block
    else kind.Other

-- of a request
abbrev pub request_kind : ℕ → WordKind
request_kind number =
    if number == 1 then kind.Process
    else if number == 2 then kind.Verb
    else kind.Protection

-- of a line with this first word
abbrev pub word_kind : List ℕ → ℕ → WordKind
word_kind first number =
    if is_letter first then request_kind number
    else if number == 1 then kind.First
    else declared_kind first number

-- but in version 1 it would stand there
abbrev pub later_text : List ℕ
later_text = codes "version 1 doesn't have this word, and version 2 does: VMTRACE 2 or LONGTRACE 2"

-- what begins a line
abbrev pub first_text : List ℕ → List ℕ
first_text word =
    if is word (codes "1") || is word (codes "PFN") then codes "a log begins so, and stands behind a line LOG, which check alone reads"
    else codes "a line begins with VMTRACE, LONGTRACE, FRAMES, PAGEFILE, PARAM, BAD, SECTION, DATA, PROCESS, MAPZERO, MAPSEC, FAIL, BODY, END, the letter of a process, or !"

-- what asks for something
abbrev pub verb_text : List ℕ → List ℕ
verb_text word =
    if is word (codes "LCKPAG") || is word (codes "ULKPAG") then later_text
    else codes "a request is R1, R2, R4, W1, W2, W4 or A4, with K, E, S, U or nothing before it, or CRETVA, DELTVA, SETPRT, LKWSET, ULWSET, PURGWS, ADJWSL, or in version 2 LCKPAG or ULKPAG"

-- the kind of a section
abbrev pub section_kind_text : List ℕ → List ℕ
section_kind_text word = if is word (codes "PAGED") then later_text else codes "a section is SHARED or CRF, or in version 2 PAGED"

-- what may stand in the place of this word, which may not
abbrev pub allowed_text : WordKind → List ℕ → List ℕ
allowed_text kind.First word = first_text word
allowed_text kind.Verb word = verb_text word
allowed_text kind.Parameter word = codes "a parameter is PFC, HILIMIT, LOLIMIT, WAITLIMIT, WRTCLUSTER, FREELIM, FREEGOAL, AWSTIME, PFRATH, PFRATL, WSINC, WSDEC, AWSMIN or BORROWLIM"
allowed_text kind.Section word = codes "the name of a section has 2 to 15 capital letters, digits and _, a letter first"
allowed_text kind.SectionKind word = section_kind_text word
allowed_text kind.Process word = codes "a process is a capital letter"
allowed_text kind.Protection word = codes "a protection is NA, KW, KR, UW, EW, ERKW, ER, SW, SREW, SRKW, SR, URSW, UREW, URKW or UR"
allowed_text kind.Block word = codes "a block is S:NAME/n, P:n or X:A/n, with n in digits that don't begin with a zero too many"
allowed_text kind.Other word = codes "the word is none of those that may stand in its place"

-- what an earlier line has to declare
abbrev pub undeclared_text : WordKind → List ℕ
undeclared_text kind.Section = codes "no earlier line SECTION declares a section of this name, with a file if it is for DATA"
undeclared_text kind.Process = codes "no earlier line PROCESS declares this process"
undeclared_text kind.Block = codes "there is no such block: a page of a section with a file, a block below PAGEFILE, or a process's slot below its extent"
undeclared_text _ = codes "no earlier line declares this"

-- what an earlier line has declared, by the first word of this one
abbrev pub repeated_text : List ℕ → List ℕ
repeated_text first =
    if is first (codes "PARAM") then codes "an earlier line PARAM sets this parameter"
    else if is first (codes "BAD") then codes "an earlier line BAD has this frame"
    else if is first (codes "SECTION") then codes "an earlier line SECTION has this name"
    else if is first (codes "MAPZERO") || is first (codes "MAPSEC") then codes "an earlier line MAPZERO or MAPSEC maps one of these pages"
    else if is first (codes "FAIL") then codes "an earlier line FAIL has this block"
    else codes "this was declared before"
