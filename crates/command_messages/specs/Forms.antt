-- Where a line stands and which words it has, by its first word. Source: this project's own.
use Rattle.std.specs.Prelude.{ℕ, ◌==◌, ◌||◌, List, ◌++◌, codes, Option, Some, None, if◌then◌else◌}
use Rattle.trace_words.specs.declared.ops.Access.{Access}
use Rattle.trace_words.specs.declared.ops.Access.TheVariants.{Read, Write, Add}
use Rattle.trace_words.specs.declared.services.ServiceName.{ServiceName}
use Rattle.trace_words.specs.declared.services.ServiceName.TheVariants.{Create, Delete, Protect, Lock, Unlock, Purge, Pin, Unpin, Adjust}
use Rattle.trace_words.specs.declared.verbs.Verb.{Verb}
use Rattle.trace_words.specs.declared.verbs.Verb.TheVariants.{Op, Service}
use Rattle.trace_words.specs.VerbWords.{verb_of}
use Rattle.trace_words.specs.Words.{is}
use Rattle.trace_lines.specs.Grammar.{is_letter}
use Rattle.command_messages.specs.LineWords.{line_word}

-- where a line with this first word stands
abbrev pub place_text : List ℕ → List ℕ
place_text first =
    if is first (codes "VMTRACE") || is first (codes "LONGTRACE") then codes "VMTRACE or LONGTRACE is the first of a trace, and there is one"
    else if is first (codes "FRAMES") then codes "FRAMES is next behind VMTRACE or LONGTRACE, and there is one"
    else if is first (codes "PAGEFILE") then codes "PAGEFILE is next behind FRAMES, and there is one"
    else if is first (codes "BODY") then codes "BODY is behind PAGEFILE and at least one PROCESS, and there is one"
    else if is first (codes "END") then codes "END is behind BODY and the requests, and there is one"
    else if is_letter first then codes "requests are between BODY and END"
    else codes "declarations are between PAGEFILE and BODY"

-- the words of a line of the machine
abbrev pub machine_form : List ℕ → List ℕ
machine_form first =
    if is first (codes "VMTRACE") then codes "VMTRACE 1 or VMTRACE 2"
    else if is first (codes "LONGTRACE") then codes "LONGTRACE 2"
    else if is first (codes "FRAMES") then codes "FRAMES n"
    else if is first (codes "PAGEFILE") then codes "PAGEFILE n"
    else if is first (codes "PARAM") then codes "PARAM name n"
    else if is first (codes "BAD") then codes "BAD f"
    else if is first (codes "FAIL") then codes "FAIL block, and 1 to 16 numbers of calls"
    else if is first (codes "BODY") then codes "BODY"
    else if is first (codes "END") then codes "END"
    else if is first (codes "LOG") then codes "LOG"
    else codes "that of its first word"

-- those of a line that isn't a request
abbrev pub declared_form : List ℕ → List ℕ
declared_form first =
    if is first (codes "SECTION") then codes "SECTION name kind n"
    else if is first (codes "DATA") then codes "DATA name offset bytes"
    else if is first (codes "PROCESS") then codes "PROCESS x limit quota extent locks"
    else if is first (codes "MAPZERO") then codes "MAPZERO x address n protection"
    else if is first (codes "MAPSEC") then codes "MAPSEC x address n name first protection"
    else machine_form first

-- those of a reference, and of a service
abbrev pub access_form : Access → List ℕ
access_form (Read width) = codes "x op address"
access_form (Write width) = codes "x op address value"
access_form Add = codes "x op address value"

abbrev pub service_form : ServiceName → List ℕ
service_form Create = codes "x CRETVA address n protection"
service_form Protect = codes "x SETPRT address n protection"
service_form Delete = codes "x DELTVA address n"
service_form Lock = codes "x LKWSET address n"
service_form Unlock = codes "x ULWSET address n"
service_form Purge = codes "x PURGWS address n"
service_form Pin = codes "x LCKPAG address n"
service_form Unpin = codes "x ULKPAG address n"
service_form Adjust = codes "x ADJWSL limit"

abbrev pub request_form : Option Verb → List ℕ
request_form None = codes "x op address, x op address value, or that of a service"
request_form (Some (Op op)) = access_form op.access
request_form (Some (Service name)) = service_form name

-- those of a line with this first and this second word
abbrev pub form_text : List ℕ → List ℕ → List ℕ
form_text first second = if is_letter first then request_form (verb_of second) else declared_form first

-- why a line has no place, or its word of this number none
abbrev pub misplaced_text : ℕ → List ℕ → List ℕ
misplaced_text word text =
    if word == 1 then codes "the line doesn't belong here: " ++ place_text (line_word 1 text)
    else codes "the line has too many or too few words: its form is " ++ form_text (line_word 1 text) (line_word 2 text)
