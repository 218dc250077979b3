-- How the number of a block is found: by the number of its row's first block. No contract of a public
-- call names these definitions. This project's own.
use Rattle.std.specs.Prelude.{◌≡◌, ℕ, ◌+◌, ◌-◌, List, [], ◌∷◌, ◌++◌, Some, length, map, sum, take, slice_get, slice_index_or}
use Rattle.std.specs.List.{range_with_len}
use Rattle.vm_types.specs.declared.names.BlockId.{BlockId}
use Rattle.vm_types.specs.declared.names.BlockId.TheVariants as block
use Rattle.frame_store.specs.Blocks.{file_blocks, row_by_row, section_block, swap_block}

-- rows of these lengths, one after another, the first one from a number on: with which number each begins
abbrev pub firsts : ℕ → List ℕ → List ℕ
firsts from lengths = map (λ row. from + sum (take row lengths)) (range_with_len 0 (length lengths))

abbrev pub first_at : List ℕ → ℕ → ℕ
first_at numbers row = slice_index_or numbers row 0

-- the number of a block, by the numbers of the first blocks of each section, of the page file and of each process
abbrev pub number_by : List ℕ → ℕ → List ℕ → BlockId → ℕ
number_by sections file swaps (block.Section s page) = first_at sections s.0 + page
number_by sections file swaps (block.PageFile b) = file + b
number_by sections file swaps (block.Swap p slot) = first_at swaps p.0 + slot

-- each listed block is found at its place
abbrev pub AreNumbers : (BlockId → ℕ) → List BlockId → Type 0
AreNumbers number ids = (n : ℕ) (b : BlockId) → slice_get ids n ≡ Some b → number b ≡ n

-- how long rows are that begin with these numbers, the last one up to a number
abbrev pub lengths_between : List ℕ → ℕ → List ℕ
lengths_between [] end = []
lengths_between (first ∷ numbers) end = (slice_index_or numbers 0 end - first) ∷ lengths_between numbers end

-- so many blocks in their order, by the same numbers
unfoldable pub listed_by : List ℕ → ℕ → List ℕ → ℕ → List BlockId
listed_by sections file swaps count =
    row_by_row section_block 0 (lengths_between sections file)
    ++ (file_blocks (slice_index_or swaps 0 count - file) ++ row_by_row swap_block 0 (lengths_between swaps count))
