-- What a word names of what was declared before. Source: this project's own.
use Rattle.std.specs.Prelude.{ℕ, ◌+◌, ◌-◌, ◌*◌, ◌%◌, ◌^◌, ◌==◌, Bool, ◌&&◌, ◌||◌, nat_le, nat_lt, bytes_eq, not, position, slice_get, length, List, Option, Result, Ok, Err}
use Rattle.std.specs.Option.{option_map_or}
use Rattle.vm_types.specs.declared.limits.TheConstants.{P0_PAGES, P1_PAGES, PAGE_BYTES}
use Rattle.vm_types.specs.Configuration.{section_pages}
use Rattle.vm_types.specs.Kinds.{paged_of}
use Rattle.vm_types.specs.SectionBlocks.{section_block_count}
use Rattle.vm_types.specs.declared.config.ProcSpec.{ProcSpec}
use Rattle.vm_types.specs.declared.config.Section.{Section}
use Rattle.trace_words.specs.declared.cause.Cause.{Cause}
use Rattle.trace_words.specs.declared.cause.Cause.TheVariants.{UnknownWord, NoSuch, Unaligned}
use Rattle.trace_words.specs.Judged.{◌>>=◌, owed}
use Rattle.trace_words.specs.Letter.{letter}
use Rattle.trace_words.specs.Name.{is_name}
use Rattle.trace_words.specs.Number.{hexadecimal}

-- the process of this letter
abbrev pub process : List ProcSpec → List ℕ → Result ℕ Cause
process procs word = letter word >>= λ p. owed (nat_lt p (length procs)) NoSuch (Ok p)

-- the number of the section of this name
abbrev pub number_named : List Section → List ℕ → Option ℕ
number_named sections name = position (λ section. bytes_eq section.name name) sections

abbrev pub or_none : Option ℕ → Result ℕ Cause
or_none found = option_map_or Ok found (Err NoSuch)

abbrev pub section : List Section → List ℕ → Result ℕ Cause
section sections word = owed (is_name word) UnknownWord (or_none (number_named sections word))

-- the pages, the bytes and the section blocks of the section of this number
abbrev pub pages_at : List Section → ℕ → ℕ
pages_at sections s = option_map_or section_pages (slice_get sections s) 0

abbrev pub bytes_at : List Section → ℕ → ℕ
bytes_at sections s = option_map_or (λ section. length section.bytes) (slice_get sections s) 0

abbrev pub blocks_at : List Section → ℕ → ℕ
blocks_at sections s = option_map_or section_block_count (slice_get sections s) 0

-- whether the section of this number has a file: not if it is in the page file
abbrev pub has_file : List Section → ℕ → Bool
has_file sections s = not (paged_of (slice_get sections s))

-- an address that is a multiple of this
abbrev pub aligned : ℕ → List ℕ → Result ℕ Cause
aligned bytes word = hexadecimal word >>= λ at. owed (at % bytes == 0) Unaligned (Ok at)

-- pages from an address on lie in the pages of P0, or in those of P1, that may be mapped
abbrev pub is_inside : ℕ → ℕ → Bool
is_inside at pages =
    nat_le (at + PAGE_BYTES * pages) (PAGE_BYTES * P0_PAGES)
    || (nat_le (2 ^ 31 - PAGE_BYTES * P1_PAGES) at && nat_le (at + PAGE_BYTES * pages) (2 ^ 31))
