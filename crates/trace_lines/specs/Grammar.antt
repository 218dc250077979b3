-- What a line says, or the first rule that it breaks. Source: this project's own.
use Rattle.std.specs.Prelude.{ℕ, ◌-◌, ◌==◌, Bool, ◌&&◌, ◌||◌, nat_le, nat_lt, slice_index, length, take, List, [], ◌∷◌, Option, Some, None, Result, Ok, Err, if◌then◌else◌}
use Rattle.std.specs.List.{list_all}
use Rattle.vm_types.specs.Versions.{most_lines}
use Rattle.trace_words.specs.declared.cause.Cause.TheVariants.{LineTooLong, NotAscii, TooMany, UnknownWord, Misplaced}
use Rattle.trace_words.specs.Judged.{owed}
use Rattle.trace_words.specs.Name.{is_capital}
use Rattle.trace_words.specs.Words.{words}
use Rattle.trace_lines.specs.declared.breach.Bound.TheVariants.{Most}
use Rattle.trace_lines.specs.declared.breach.Breach.{Breach}
use Rattle.trace_lines.specs.declared.breach.Limited.TheVariants as limited
use Rattle.trace_lines.specs.declared.keywords.Keyword.{Keyword}
use Rattle.trace_lines.specs.declared.keywords.Keyword.TheVariants.{Version, Long, Frames, PageFile, Param, Bad, Section, Data, Process, MapZero, MapSection, Fail, Body, End}
use Rattle.trace_lines.specs.declared.part.Part.{Part}
use Rattle.trace_lines.specs.declared.places.Place.TheVariants.{Requests}
use Rattle.trace_lines.specs.Breaches.{at_word, bounded}
use Rattle.trace_lines.specs.Declarations.{section_line, data_line, process_line}
use Rattle.trace_lines.specs.Fails.{fail_line}
use Rattle.trace_lines.specs.Headers.{version_line, long_line, frames_line, pagefile_line, param_line, bad_line}
use Rattle.trace_lines.specs.Keywords.{keyword_of, place_of}
use Rattle.trace_lines.specs.Mappings.{mapzero_line, mapsec_line}
use Rattle.trace_lines.specs.Places.{rank}
use Rattle.trace_lines.specs.Requests.{body_line, end_line, request_line}
use Rattle.trace_lines.specs.Says.{Says, Nothing}

-- a line of this keyword, by its other words
abbrev pub by_keyword : Part → List (List ℕ) → Keyword → Result Says Breach
by_keyword part args Version = version_line args
by_keyword part args Long = long_line args
by_keyword part args Frames = frames_line part.config args
by_keyword part args PageFile = pagefile_line args
by_keyword part args Param = param_line part.given args
by_keyword part args Bad = bad_line part.config args
by_keyword part args Section = section_line part.config args
by_keyword part args Data = data_line part.config args
by_keyword part args Process = process_line part.config args
by_keyword part args MapZero = mapzero_line part.config args
by_keyword part args MapSection = mapsec_line part.config args
by_keyword part args Fail = fail_line part.config args
by_keyword part args Body = body_line part.config args
by_keyword part args End = end_line args

-- where the line of the keyword stands here
abbrev pub placed : Part → List (List ℕ) → Option Keyword → Result Says Breach
placed part args None = Err (at_word 1 UnknownWord)
placed part args (Some keyword) = owed (rank part.place == rank (place_of keyword)) (at_word 1 Misplaced) (by_keyword part args keyword)

-- one capital letter
abbrev pub is_letter : List ℕ → Bool
is_letter word = (length word == 1) && is_capital (slice_index word 0)

-- a first word that begins with !
abbrev pub is_comment : List ℕ → Bool
is_comment word = slice_index word 0 == 33

-- a letter looks up a process among the requests
abbrev pub by_first : Part → List ℕ → List (List ℕ) → Result Says Breach
by_first part first args =
    if is_comment first then Ok Nothing
    else if is_letter first then owed (rank part.place == rank Requests) (at_word 1 Misplaced) (request_line part.config first args)
    else placed part args (keyword_of part.place first)

-- a line without words is skipped
abbrev pub by_words : Part → List (List ℕ) → Result Says Breach
by_words part [] = Ok Nothing
by_words part (first ∷ args) = by_first part first args

-- a byte 13 just before the line's end is dropped
abbrev pub ends_with_return : List ℕ → Bool
ends_with_return line = nat_lt 0 (length line) && (slice_index line (length line - 1) == 13)

abbrev pub content : List ℕ → List ℕ
content line = if ends_with_return line then take (length line - 1) line else line

-- blanks, tabs, and what is printed
abbrev pub is_text : ℕ → Bool
is_text b = (b == 9) || (nat_le 32 b && nat_le b 126)

-- what the line of this number says, or the first rule that it breaks and the word that breaks it; the line
-- as a whole has the number 0
abbrev pub judged : ℕ → Part → List ℕ → Result Says Breach
judged number part line =
    owed (nat_le (length line) 255) (at_word 0 LineTooLong)
    (owed (list_all is_text (content line)) (at_word 0 NotAscii)
    (owed (nat_le number (most_lines part.config.version)) (bounded 0 TooMany (Most limited.Lines (most_lines part.config.version)))
    (by_words part (words (content line)))))
