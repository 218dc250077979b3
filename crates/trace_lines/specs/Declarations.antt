-- The lines that declare sections, their bytes, and processes. Source: this project's own.
use Rattle.std.specs.Prelude.{ℕ, ◌+◌, ◌==◌, Bool, ◌&&◌, nat_le, nat_lt, not, is_some, sum_by, length, List, [], ◌∷◌, Result, Ok, Err, codes, if◌then◌else◌}
use Rattle.vm_types.specs.declared.limits.TheConstants.{MOST_EXTENT, MOST_PROCESSES, MOST_SECTIONS, MOST_SECTION_PAGES}
use Rattle.vm_types.specs.Configuration.{section_pages}
use Rattle.vm_types.specs.declared.config.Config.{Config}
use Rattle.vm_types.specs.declared.config.ProcSpec.{ProcSpec}
use Rattle.vm_types.specs.declared.config.Section.{Section as Held}
use Rattle.vm_types.specs.declared.config.SectionKind.{SectionKind}
use Rattle.vm_types.specs.declared.config.SectionKind.TheVariants as kind
use Rattle.vm_types.specs.declared.config.Version.{Version}
use Rattle.vm_types.specs.Versions.{is_first}
use Rattle.trace_words.specs.declared.cause.Cause.{Cause}
use Rattle.trace_words.specs.declared.cause.Cause.TheVariants.{UnknownWord, Misplaced, NoSuch, OutOfRange, Repeated, TooMany}
use Rattle.trace_words.specs.Judged.{◌>>=◌, owed}
use Rattle.trace_words.specs.Letter.{letter}
use Rattle.trace_words.specs.Name.{is_name}
use Rattle.trace_words.specs.Number.{decimal}
use Rattle.trace_words.specs.Pairs.{pairs}
use Rattle.trace_words.specs.Words.{is}
use Rattle.trace_lines.specs.declared.breach.Bound.{Bound}
use Rattle.trace_lines.specs.declared.breach.Bound.TheVariants.{Free, Bytes, Next, Locks, Quota, Extent, Most}
use Rattle.trace_lines.specs.declared.breach.Breach.{Breach}
use Rattle.trace_lines.specs.declared.breach.Limited.TheVariants as limited
use Rattle.trace_lines.specs.Breaches.{at_word, bounded, counted, marked, miscounted, ranged}
use Rattle.trace_lines.specs.Lookups.{bytes_at, has_file, number_named, section}
use Rattle.trace_lines.specs.Says.{Says, Section, Data, Process}

-- every version but 1 has sections in the page file
abbrev pub paged_kind : Version → Result SectionKind Cause
paged_kind v = if is_first v then Err UnknownWord else Ok kind.Paged

-- SHARED or CRF; in every version but 1 also PAGED
abbrev pub section_kind : Version → List ℕ → Result SectionKind Cause
section_kind v word =
    if is word (codes "SHARED") then Ok kind.Shared
    else if is word (codes "CRF") then Ok kind.Crf
    else if is word (codes "PAGED") then paged_kind v
    else Err UnknownWord

-- the sections and their pages don't get too many
abbrev pub has_room : List Held → ℕ → Bool
has_room sections pages = nat_lt (length sections) MOST_SECTIONS && nat_le (sum_by section_pages sections + pages) MOST_SECTION_PAGES

-- which of the two get too many, where they do
abbrev pub crowded : List Held → Bound
crowded sections = if nat_lt (length sections) MOST_SECTIONS then Most limited.SectionPages MOST_SECTION_PAGES else Most limited.Sections MOST_SECTIONS

-- SECTION name SHARED n, SECTION name CRF n, SECTION name PAGED n
abbrev pub section_line : Config → List (List ℕ) → Result Says Breach
section_line config (name ∷ word ∷ n ∷ []) =
    owed (is_name name) (at_word 2 UnknownWord)
    (marked 3 Free (section_kind config.version word) >>= λ of_kind. ranged 4 1 4294967295 n >>= λ pages.
    owed (not (is_some (number_named config.sections name))) (at_word 2 Repeated)
    (owed (has_room config.sections pages) (bounded 4 TooMany (crowded config.sections)) (Ok (Section name of_kind pages))))
section_line config other = Err (miscounted 2 3 other)

-- DATA name offset hex, inside a section that has a file
abbrev pub data_line : Config → List (List ℕ) → Result Says Breach
data_line config (name ∷ offset ∷ hex ∷ []) =
    marked 2 Free (section config.sections name) >>= λ s. owed (has_file config.sections s) (at_word 2 NoSuch)
    (marked 3 (Bytes (bytes_at config.sections s)) (decimal offset) >>= λ at. marked 4 Free (pairs hex) >>= λ bytes.
    owed (nat_le (at + length bytes) (bytes_at config.sections s)) (bounded 3 OutOfRange (Bytes (bytes_at config.sections s))) (Ok (Data s at bytes)))
data_line config other = Err (miscounted 2 3 other)

-- the bounds between the numbers of a process
abbrev pub are_ordered : ProcSpec → Bool
are_ordered spec = nat_le (spec.locks + 2) spec.limit && nat_le spec.limit spec.quota && nat_le spec.quota spec.extent

-- the first of them that a number breaks
abbrev pub disordered : ProcSpec → Breach
disordered spec =
    if nat_lt spec.limit (spec.locks + 2) then bounded 6 OutOfRange (Locks spec.limit)
    else if nat_lt spec.quota spec.limit then bounded 4 OutOfRange (Quota spec.limit)
    else bounded 5 OutOfRange (Extent spec.quota)

-- PROCESS x limit quota extent locks, of the next letter
abbrev pub process_line : Config → List (List ℕ) → Result Says Breach
process_line config (x ∷ limit ∷ quota ∷ extent ∷ locks ∷ []) =
    marked 2 (Next (length config.procs)) (letter x) >>= λ p.
    owed (p == length config.procs) (bounded 2 Misplaced (Next (length config.procs)))
    (counted 3 limit >>= λ limit. counted 4 quota >>= λ quota. ranged 5 0 MOST_EXTENT extent >>= λ extent. counted 6 locks >>= λ locks.
    let spec : ProcSpec = record { limit = limit; quota = quota; extent = extent; locks = locks } in
    owed (are_ordered spec) (disordered spec) (owed (nat_lt (length config.procs) MOST_PROCESSES) (bounded 2 TooMany (Most limited.Processes MOST_PROCESSES)) (Ok (Process spec))))
process_line config other = Err (miscounted 2 5 other)
