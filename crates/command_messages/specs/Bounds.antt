-- The bound that is at play, with the numbers, and the word that is over it. Source: this project's own.
use Rattle.std.specs.Prelude.{ℕ, ◌-◌, ◌/◌, ◌==◌, Bool, ◌&&◌, false, nat_le, nat_lt, List, [], ◌++◌, codes, decimal, Option, Some, None, if◌then◌else◌}
use Rattle.vm_types.specs.declared.limits.TheConstants.{PAGE_BYTES}
use Rattle.vm_text.specs.Hex.{hex}
use Rattle.vm_text.specs.Names.{process_name}
use Rattle.trace_words.specs.declared.cause.Cause.{Cause}
use Rattle.trace_words.specs.declared.cause.Cause.TheVariants as cause
use Rattle.trace_lines.specs.declared.breach.Bound.{Bound}
use Rattle.trace_lines.specs.declared.breach.Bound.TheVariants.{Bytes, Pages, Regions, Locks}
use Rattle.command_messages.specs.LineWords.{line_address, line_number}

-- the digits of a value up to this
abbrev pub digits_of : ℕ → ℕ
digits_of high = if nat_le high 255 then 2 else if nat_le high 65535 then 4 else 8

-- from where to where a value of a request is
abbrev pub value_text : ℕ → List ℕ
value_text high = codes "the value has 1 to 8 hexadecimal digits, and is from 0 to " ++ hex (digits_of high) high

-- a text with a number
abbrev pub with_one : List ℕ → ℕ → List ℕ → List ℕ
with_one front n back = front ++ decimal n ++ back

-- what a value is, if it is known
abbrev pub value_is : Option ℕ → List ℕ
value_is None = []
value_is (Some n) = codes " is " ++ decimal n ++ codes ", and"

-- the same, and what it has to be
abbrev pub has_to_be : List ℕ → Option ℕ → List ℕ → ℕ → List ℕ
has_to_be name value bound n = name ++ value_is value ++ codes " has to be " ++ bound ++ codes ", which is " ++ decimal n

-- an address that is a multiple of this
abbrev pub address_text : Cause → ℕ → List ℕ
address_text cause.Unaligned n = if n == PAGE_BYTES then codes "the address is a multiple of 512, which is 200 in hexadecimal digits" else with_one (codes "the address is a multiple of ") n []
address_text other n = codes "the address has 1 to 8 hexadecimal digits, and nothing before them"

-- the next process, of this number from 0
abbrev pub next_letter_text : ℕ → List ℕ
next_letter_text p = codes "the next process is " ++ process_name p ++ codes ": they are declared in the order of their letters"

-- the same, if a trace may have one more
abbrev pub next_process_text : ℕ → List ℕ
next_process_text p = if nat_lt p 16 then next_letter_text p else codes "a trace has at most 16 processes, A to P"

-- a frame's number, a quota and an extent
abbrev pub frame_text : ℕ → List ℕ → List ℕ
frame_text n text = has_to_be (codes "the frame's number") (line_number 2 text) (codes "below FRAMES") n

abbrev pub quota_text : ℕ → List ℕ → List ℕ
quota_text n text = has_to_be (codes "the quota") (line_number 4 text) (codes "at least the limit") n

abbrev pub extent_text : ℕ → List ℕ → List ℕ
extent_text n text = has_to_be (codes "the extent") (line_number 5 text) (codes "at least the quota") n

-- whether the number is there, and below the other
abbrev pub is_below : Option ℕ → ℕ → Bool
is_below None n = false
is_below (Some value) n = nat_lt value n

-- how many behind so many of so many are left
abbrev pub left_of : Option ℕ → ℕ → ℕ
left_of None n = n
left_of (Some value) n = n - value

-- a number of locks of a process with this limit, or that limit
abbrev pub locks_text : ℕ → List ℕ → List ℕ
locks_text n text =
    if nat_lt n 2 then with_one (codes "the limit is ") n (codes ", and has to be at least 2")
    else has_to_be (codes "the number of locks") (line_number 6 text) (codes "at most the limit less 2") (n - 2)

-- a place in a section of so many bytes, or bytes from there on
abbrev pub bytes_text : ℕ → List ℕ → List ℕ
bytes_text n text =
    if is_below (line_number 3 text) n then has_to_be (codes "the number of bytes") None (codes "at most what the section has from that offset on") (left_of (line_number 3 text) n)
    else has_to_be (codes "the offset") (line_number 3 text) (codes "below the section's number of bytes") n

-- a page of a section of so many pages, or pages from there on
abbrev pub pages_text : ℕ → List ℕ → List ℕ
pages_text n text =
    if is_below (line_number 6 text) n then has_to_be (codes "the number of pages") (line_number 4 text) (codes "at most what the section has from there on") (left_of (line_number 6 text) n)
    else has_to_be (codes "the first page") (line_number 6 text) (codes "below the section's number of pages") n

-- the pages from an address on that may be mapped, where it is in one of the two regions
abbrev pub pages_from : Option ℕ → ℕ
pages_from None = 0
pages_from (Some at) =
    if nat_lt at 2097152 then (2097152 - at) / PAGE_BYTES
    else if nat_le 2146959360 at && nat_lt at 2147483648 then (2147483648 - at) / PAGE_BYTES
    else 0

-- an address in one of the two regions, or pages from there on
abbrev pub regions_text : List ℕ → List ℕ
regions_text text =
    if nat_lt 0 (pages_from (line_address 3 text)) then has_to_be (codes "the number of pages") (line_number 4 text) (codes "at most what may be mapped from there on") (pages_from (line_address 3 text))
    else codes "the address is from 00000000 to 001FFE00, or from 7FF80000 to 7FFFFE00"

-- the number of the word that is over its bound: that of the word that breaks the rule, but where another may be too great
abbrev pub over_word : ℕ → Bound → List ℕ → ℕ
over_word word (Locks n) text = if nat_lt n 2 then 3 else word
over_word word (Bytes n) text = if is_below (line_number 3 text) n then 4 else word
over_word word (Pages n) text = if is_below (line_number 6 text) n then 4 else word
over_word word Regions text = if nat_lt 0 (pages_from (line_address 3 text)) then 4 else word
over_word word other text = word
