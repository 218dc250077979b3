-- Why a line of an input is at fault, in words. Source: this project's own.
use Rattle.std.specs.Prelude.{ℕ, ◌==◌, Bool, true, false, ◌&&◌, ◌||◌, if◌then◌else◌, List, [], ◌∷◌, ◌++◌, codes, decimal, length}
use Rattle.trace_words.specs.declared.cause.Cause.{Cause}
use Rattle.trace_words.specs.declared.cause.Cause.TheVariants.{LineTooLong, NotAscii, TooMany, UnknownWord, Misplaced, NoSuch, BadNumber, OutOfRange, Unaligned, Repeated}
use Rattle.trace_words.specs.Words.{is}
use Rattle.trace_lines.specs.Grammar.{is_letter}
use Rattle.trace_lines.specs.declared.breach.Bound.{Bound}
use Rattle.trace_lines.specs.declared.breach.Bound.TheVariants.{Free, Within, Multiple, Next, BelowFrames, Bytes, Pages, Regions, Locks, Quota, Extent, LoLimit, HiLimit, FreeLim, Frames, FramesAndLocks, Most}
use Rattle.trace_lines.specs.declared.breach.Breach.{Breach}
use Rattle.trace_lines.specs.declared.breach.Limited.{Limited}
use Rattle.trace_lines.specs.declared.breach.Limited.TheVariants as limited
use Rattle.command_messages.specs.Bounds.{address_text, bytes_text, extent_text, frame_text, locks_text, next_process_text, pages_text, quota_text, regions_text, value_text}
use Rattle.command_messages.specs.Forms.{misplaced_text}
use Rattle.command_messages.specs.LineWords.{line_word}
use Rattle.command_messages.specs.WordKinds.{allowed_text, repeated_text, undeclared_text, word_kind}

-- the rule of a word that is no number where one stands, behind this first word
abbrev pub number_text : List ℕ → List ℕ
number_text first = if is first (codes "DATA") then codes "the bytes are 1 to 64 pairs of hexadecimal digits" else codes "the word stands in the place of a number and is none"

-- the rule that the word of this number breaks, in a line with these first bytes
abbrev pub rule_text : ℕ → Cause → List ℕ → List ℕ
rule_text word LineTooLong text = codes "the line has more than 255 bytes"
rule_text word NotAscii text = codes "the line has a byte that is neither a blank, a tab nor a printable character"
rule_text word TooMany text = codes "there are more lines, sections, section pages, processes or requests than a trace may have"
rule_text word UnknownWord text = allowed_text (word_kind (line_word 1 text) word) (line_word word text)
rule_text word Misplaced text = misplaced_text word text
rule_text word NoSuch text = undeclared_text (word_kind (line_word 1 text) word)
rule_text word BadNumber text = number_text (line_word 1 text)
rule_text word OutOfRange text = codes "the number is out of its range"
rule_text word Unaligned text = codes "the address isn't a multiple of the page size or of the width of the reference"
rule_text word Repeated text = repeated_text (line_word 1 text)

-- from where to where a number is; a range whose ends are equal is one number
abbrev pub from_to : ℕ → ℕ → List ℕ
from_to low high =
    if low == high then codes "the number is " ++ decimal low
    else codes "the number is from " ++ decimal low ++ codes " to " ++ decimal high

-- a number of frames in version 1
abbrev pub first_frames_text : ℕ → ℕ → List ℕ
first_frames_text low high = from_to low high ++ codes ", and in version 2 to 16384"

-- from where to where the word of this number is, behind this first word: in a request a value, and else a number
abbrev pub within_text : List ℕ → ℕ → ℕ → ℕ → List ℕ
within_text first word low high =
    if is_letter first && (word == 4) && (low == 0) then value_text high
    else if is first (codes "FRAMES") && (high == 4096) then first_frames_text low high
    else from_to low high

-- what a value is, and what follows from it with the same number
abbrev pub with_so : List ℕ → ℕ → List ℕ → List ℕ → List ℕ
with_so name n so back = name ++ codes " is " ++ decimal n ++ codes ", so " ++ so ++ codes " " ++ decimal n ++ back

-- how many of these a trace has at most
abbrev pub most_front : Limited → List ℕ
most_front limited.Lines = codes "a trace of this version has at most "
most_front limited.Requests = codes "a trace of this version has at most "
most_front limited.Sections = codes "a trace has at most "
most_front limited.SectionPages = codes "a trace has at most "
most_front limited.Processes = codes "a trace has at most "

abbrev pub most_back : Limited → List ℕ
most_back limited.Lines = codes " lines"
most_back limited.Requests = codes " requests"
most_back limited.Sections = codes " sections"
most_back limited.SectionPages = codes " pages of sections"
most_back limited.Processes = codes " processes"

abbrev pub most_text : Limited → ℕ → List ℕ
most_text what n = most_front what ++ decimal n ++ most_back what

-- of the frames that BODY finds to be too few; of another bound nothing
abbrev pub frames_text : Bound → List ℕ
frames_text (Frames n) = with_so (codes "FRAMES") n (codes "the greatest extent, the bad frames and 2 are together at most") []
frames_text (FramesAndLocks n) = with_so (codes "FRAMES") n (codes "the greatest extent, the bad frames, the locks of all processes and 2 are together at most") []
frames_text other = []

-- of a bound that BODY finds broken: the order of parameters, or the frames; of another none
abbrev pub body_text : Bound → List ℕ
body_text (LoLimit n) = with_so (codes "HILIMIT") n (codes "LOLIMIT is at most") (codes "; without lines PARAM they are 128 and 32")
body_text (HiLimit n) = with_so (codes "WAITLIMIT") n (codes "HILIMIT is at most") (codes "; without lines PARAM they are 256 and 128")
body_text (FreeLim n) = with_so (codes "FREEGOAL") n (codes "FREELIM is at most") (codes "; without lines PARAM both are 0")
body_text other = frames_text other

-- what may stand in the place of the word of this number, which breaks a rule, with the numbers that are at play; of a
-- word that may be anything the rule
abbrev pub bound_text : Bound → ℕ → Cause → List ℕ → List ℕ
bound_text Free word cause text = rule_text word cause text
bound_text (Within low high) word cause text = within_text (line_word 1 text) word low high
bound_text (Multiple bytes) word cause text = address_text cause bytes
bound_text (Next p) word cause text = next_process_text p
bound_text (BelowFrames n) word cause text = frame_text n text
bound_text (Bytes n) word cause text = bytes_text n text
bound_text (Pages n) word cause text = pages_text n text
bound_text Regions word cause text = regions_text text
bound_text (Locks n) word cause text = locks_text n text
bound_text (Quota n) word cause text = quota_text n text
bound_text (Extent n) word cause text = extent_text n text
bound_text (Most what n) word cause text = most_text what n
bound_text other word cause text = body_text other

-- why a line with these first bytes is at fault
abbrev pub breach_text : Breach → List ℕ → List ℕ
breach_text breach text = bound_text breach.bound breach.word breach.cause text

-- whether the first word of a line begins none, or none here
abbrev pub is_no_start : Cause → Bool
is_no_start UnknownWord = true
is_no_start Misplaced = true
is_no_start other = false

-- why the first line of an input is at fault, where it can be a trace's
abbrev pub start_text : Breach → List ℕ → List ℕ
start_text breach text = if (breach.word == 1) && is_no_start breach.cause then codes "a trace begins with VMTRACE 1, VMTRACE 2 or LONGTRACE 2" else breach_text breach text

-- whether the text begins with these bytes
abbrev pub begins : List ℕ → List ℕ → Bool
begins [] text = true
begins (byte ∷ front) [] = false
begins (byte ∷ front) (first ∷ text) = (byte == first) && begins front text

-- what stands in the place of a trace, by the first bytes of its first line: a byte order mark of UTF-8, one of
-- UTF-16, a log, or a dump
abbrev pub is_marked : List ℕ → Bool
is_marked text = begins (239 ∷ 187 ∷ 191 ∷ []) text

abbrev pub is_wide : List ℕ → Bool
is_wide text = begins (254 ∷ 255 ∷ []) text || begins (255 ∷ 254 ∷ []) text

abbrev pub is_log : List ℕ → Bool
is_log text = begins (codes "1 ") text || begins (codes "PFN AT ") text

abbrev pub is_dump : List ℕ → Bool
is_dump text = begins (codes "VMSDUMP") text

-- why a first line is at fault: what it is, if its first bytes say so, else this
abbrev pub first_reason : List ℕ → List ℕ → List ℕ
first_reason reason text =
    if is_marked text then codes "a byte order mark stands in front of the trace, which is plain ASCII" else
    if is_wide text then codes "the input begins as UTF-16 does, and a trace is plain ASCII" else
    if is_log text then codes "the input begins as a log does, and a trace begins with VMTRACE" else
    if is_dump text then codes "the input begins as a dump does, and a trace begins with VMTRACE" else reason

-- why a later line is at fault: it begins the log that check reads, or else this
abbrev pub later_reason : List ℕ → List ℕ → List ℕ
later_reason reason text = if (length text == 3) && begins (codes "LOG") text then codes "LOG stands behind the line END, and check alone reads it" else reason

-- why a line of this number is at fault
abbrev pub reason_text : ℕ → Breach → List ℕ → List ℕ
reason_text number breach text = if number == 1 then first_reason (start_text breach text) text else later_reason (breach_text breach text) text
