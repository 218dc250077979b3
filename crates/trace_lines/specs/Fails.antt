-- The lines that say which calls of a block fail. Source: this project's own.
use Rattle.std.specs.Prelude.{ℕ, ◌+◌, ◌==◌, Bool, false, ◌&&◌, nat_le, nat_lt, not, slice_get, length, List, [], ◌∷◌, Result, Ok, Err}
use Rattle.std.specs.Option.{option_map_or}
use Rattle.std.specs.List.{list_any}
use Rattle.vm_types.specs.declared.limits.TheConstants.{MOST_FAILS}
use Rattle.arrayvec.specs.ArrayVec.{ArrayVec}
use Rattle.vm_types.specs.declared.names.BlockId.{BlockId}
use Rattle.vm_types.specs.declared.names.BlockId.TheVariants as block
use Rattle.vm_types.specs.declared.config.Config.{Config}
use Rattle.vm_types.specs.declared.config.ProcSpec.{ProcSpec}
use Rattle.trace_words.specs.declared.cause.Cause.{Cause}
use Rattle.trace_words.specs.declared.cause.Cause.TheVariants.{Misplaced, NoSuch, Repeated}
use Rattle.trace_words.specs.Judged.{◌>>=◌, owed}
use Rattle.trace_words.specs.BlockWords.{Named, Section, PageFile, Swap, block_name}
use Rattle.trace_lines.specs.declared.breach.Bound.TheVariants.{Free}
use Rattle.trace_lines.specs.declared.breach.Breach.{Breach}
use Rattle.trace_lines.specs.Breaches.{at_word, marked, miscounted, ranged}
use Rattle.trace_lines.specs.Lookups.{blocks_at, number_named, or_none}
use Rattle.trace_lines.specs.Says.{Says, Fail}

-- whether both are one block
abbrev pub is_same : BlockId → BlockId → Bool
is_same (block.Section s n) (block.Section t m) = (s.0 == t.0) && (n == m)
is_same (block.Section s n) (block.PageFile c) = false
is_same (block.Section s n) (block.Swap q m) = false
is_same (block.PageFile b) (block.Section t m) = false
is_same (block.PageFile b) (block.PageFile c) = b == c
is_same (block.PageFile b) (block.Swap q m) = false
is_same (block.Swap p n) (block.Section t m) = false
is_same (block.Swap p n) (block.PageFile c) = false
is_same (block.Swap p n) (block.Swap q m) = (p.0 == q.0) && (n == m)

-- the swap blocks of the process of this number
abbrev pub slots_at : List ProcSpec → ℕ → ℕ
slots_at procs p = option_map_or (λ spec. spec.extent) (slice_get procs p) 0

-- the block of this name, if it is there; a section in the page file has none
abbrev pub block_named : Config → Named → Result BlockId Cause
block_named config (Section name page) =
    or_none (number_named config.sections name) >>= λ s.
    owed (nat_lt page (blocks_at config.sections s)) NoSuch (Ok (block.Section (record { 0 = s }) page))
block_named config (PageFile b) = owed (nat_lt b config.pagefile) NoSuch (Ok (block.PageFile b))
block_named config (Swap p slot) = owed (nat_lt slot (slots_at config.procs p)) NoSuch (Ok (block.Swap (record { 0 = p }) slot))

-- the block that the word names, if it is there
abbrev pub block_of : Config → List ℕ → Result BlockId Cause
block_of config word = block_name word >>= block_named config

-- the numbers of calls, from 1, of which the first stands in this place of the line
abbrev pub call_numbers : ℕ → List (List ℕ) → Result (List ℕ) Breach
call_numbers place [] = Ok []
call_numbers place (word ∷ words) = ranged place 1 4294967295 word >>= λ n. call_numbers (place + 1) words >>= λ more. Ok (n ∷ more)

abbrev pub fail_of : Config → List ℕ → List (List ℕ) → Result Says Breach
fail_of config name words =
    marked 2 Free (block_of config name) >>= λ id. call_numbers 3 words >>= λ calls.
    owed (not (list_any (λ fails. is_same fails.block id) config.fails)) (at_word 2 Repeated) (Ok (Fail id calls))

-- as the code holds them
abbrev pub kept : Result (ArrayVec ℕ) Breach → Result (List ℕ) Breach
kept (Ok calls) = Ok calls.items
kept (Err breach) = Err breach

-- FAIL block, followed by 1 to 16 numbers; each block once
abbrev pub fail_line : Config → List (List ℕ) → Result Says Breach
fail_line config [] = Err (at_word 2 Misplaced)
fail_line config (name ∷ words) = owed (nat_le 1 (length words) && nat_le (length words) MOST_FAILS) (miscounted 3 MOST_FAILS words) (fail_of config name words)
