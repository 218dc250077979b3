-- The names of blocks. Source: this project's own.
use Rattle.std.specs.Prelude.{ℕ, Bool, ◌==◌, ◌&&◌, nat_le, nat_lt, not, List, length, slice_index, Option, Some, None, Result, Ok, Err, codes, if◌then◌else◌}
use Rattle.std.specs.List.{list_all}
use Rattle.trace_words.specs.declared.cause.Cause.{Cause}
use Rattle.trace_words.specs.declared.cause.Cause.TheVariants.{UnknownWord, NoSuch}
use Rattle.trace_words.specs.declared.blocks.BlockName.{BlockName}
use Rattle.trace_words.specs.declared.blocks.BlockName.TheVariants as held
use Rattle.trace_words.specs.Judged.{◌>>=◌, owed}
use Rattle.trace_words.specs.Letter.{letter}
use Rattle.trace_words.specs.Name.{is_name}
use Rattle.trace_words.specs.Number.{decimal}
use Rattle.trace_words.specs.Words.{is, cut_at}

-- a block by its name: the section's name and page, the block of the page file, or the process's slot
pub data Named : Type 0 where
  Section : List ℕ → ℕ → Named
  PageFile : ℕ → Named
  Swap : ℕ → ℕ → Named

-- as the code holds it
abbrev pub name_of : BlockName → Named
name_of (held.Section name page) = Section name.now page
name_of (held.PageFile block) = PageFile block
name_of (held.Swap proc slot) = Swap proc slot

abbrev pub named : Result BlockName Cause → Result Named Cause
named (Ok block) = Ok (name_of block)
named (Err cause) = Err cause

abbrev pub is_digit : ℕ → Bool
is_digit b = nat_le 48 b && nat_le b 57

-- a number that isn't 0 begins with 0
abbrev pub has_leading_zero : List ℕ → Bool
has_leading_zero word = nat_lt 1 (length word) && (slice_index word 0 == 48)

-- digits, without leading zeros
abbrev pub is_plain : List ℕ → Bool
is_plain word = nat_lt 0 (length word) && not (has_leading_zero word) && list_all is_digit word

-- no block has a number of 2^32 or more
abbrev pub or_none : Result ℕ Cause → Result ℕ Cause
or_none (Ok n) = Ok n
or_none (Err cause) = Err NoSuch

abbrev pub plain_number : List ℕ → Result ℕ Cause
plain_number word = owed (is_plain word) UnknownWord (or_none (decimal word))

-- NAME/n
abbrev pub section_parts : Option (List ℕ × List ℕ) → Result Named Cause
section_parts None = Err UnknownWord
section_parts (Some parts) = owed (is_name parts.0) UnknownWord (plain_number parts.1 >>= λ page. Ok (Section parts.0 page))

abbrev pub section_block_name : List ℕ → Result Named Cause
section_block_name rest = section_parts (cut_at 47 rest)

-- A/n
abbrev pub swap_parts : Option (List ℕ × List ℕ) → Result Named Cause
swap_parts None = Err UnknownWord
swap_parts (Some parts) = letter parts.0 >>= λ p. plain_number parts.1 >>= λ slot. Ok (Swap p slot)

abbrev pub swap_block_name : List ℕ → Result Named Cause
swap_block_name rest = swap_parts (cut_at 47 rest)

abbrev pub page_file_block_name : List ℕ → Result Named Cause
page_file_block_name rest = plain_number rest >>= λ block. Ok (PageFile block)

-- by what stands before the colon
abbrev pub of_kind : Option (List ℕ × List ℕ) → Result Named Cause
of_kind None = Err UnknownWord
of_kind (Some parts) =
    if is parts.0 (codes "S") then section_block_name parts.1
    else if is parts.0 (codes "P") then page_file_block_name parts.1
    else if is parts.0 (codes "X") then swap_block_name parts.1
    else Err UnknownWord

-- S:NAME/n, P:n and X:A/n
abbrev pub block_name : List ℕ → Result Named Cause
block_name word = of_kind (cut_at 58 word)
