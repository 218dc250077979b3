-- The blocks of a configuration, listed by the numbers of their rows' first blocks.
use Rattle.std.proofs.Common.{◌≡◌, ℕ, zero, suc, ◌+◌, ◌-◌, ◌<◌, List, [], ◌∷◌, ◌++◌, length, sum, take, slice_index_or, refl, sym, ap, ◌∙◌, arith}
use Rattle.std.proofs.lemmas.List.{ext_get_or}
use Rattle.std.proofs.lemmas.List.FromFn.{length-map-range_with_len}
use Rattle.std.proofs.lemmas.List.Sums.{sum_by-cons}
use Rattle.vm_types.specs.declared.config.Config.{Config}
use Rattle.frame_store.specs.Blocks.{blocks_of, extents, file_blocks, block_counts, row_by_row, section_block, swap_block}
use Rattle.frame_store.specs.Numbers.{firsts, lengths_between, listed_by}
use Rattle.frame_store.proofs.Blocks.{file_first, section_firsts, swap_firsts}
use Rattle.frame_store.proofs.Counts.{count_is}
use Rattle.frame_store.proofs.Rows.{first_is}

length_firsts : (from : ℕ) (lengths : List ℕ) → length (firsts from lengths) ≡ length lengths
length_firsts from lengths = length-map-range_with_len (λ row. from + sum (take row lengths)) 0 (length lengths)

firsts_cons : (from n : ℕ) (lengths : List ℕ) → firsts from (n ∷ lengths) ≡ from ∷ firsts (from + n) lengths
firsts_cons from n lengths = ext_get_or 0 (firsts from (n ∷ lengths)) (from ∷ firsts (from + n) lengths) long at
  where
    long : length (firsts from (n ∷ lengths)) ≡ length (from ∷ firsts (from + n) lengths)
    long = length_firsts from (n ∷ lengths) ∙ sym (ap suc (length_firsts (from + n) lengths))

    at : (i : ℕ) → i < length (firsts from (n ∷ lengths)) → slice_index_or (firsts from (n ∷ lengths)) i 0 ≡ slice_index_or (from ∷ firsts (from + n) lengths) i 0
    at zero below =
        let first = first_is from (n ∷ lengths) 0 (omega (arith, below, length_firsts from (n ∷ lengths))) in
        first ∙ omega arith
    at (suc i) below =
        let many = length_firsts from (n ∷ lengths) in
        let within : i < length lengths = omega (arith, below, many) in
        let first = first_is from (n ∷ lengths) (suc i) (omega (arith, within)) in
        let other = first_is (from + n) lengths i within in
        let total = sum_by-cons (λ k. k) n (take i lengths) in
        first ∙ (omega (arith, total) ∙ sym other)

first_head : (from : ℕ) (lengths : List ℕ) → slice_index_or (firsts from lengths) 0 (from + sum lengths) ≡ from
first_head from [] = omega arith
first_head from (n ∷ lengths) = ap (λ numbers. slice_index_or numbers 0 (from + sum (n ∷ lengths))) (firsts_cons from n lengths)

pub lengths_are : (from end : ℕ) (lengths : List ℕ) → end ≡ from + sum lengths → lengths_between (firsts from lengths) end ≡ lengths
lengths_are from end [] is = refl
lengths_are from end (n ∷ lengths) is =
    let total = sum_by-cons (λ k. k) n lengths in
    let rest : end ≡ from + n + sum lengths = omega (arith, is, total) in
    let next : slice_index_or (firsts (from + n) lengths) 0 end ≡ from + n = ap (slice_index_or (firsts (from + n) lengths) 0) rest ∙ first_head (from + n) lengths in
    let long : slice_index_or (firsts (from + n) lengths) 0 end - from ≡ n = omega (arith, next) in
    ap (λ numbers. lengths_between numbers end) (firsts_cons from n lengths)
    ∙ (λ i. long i ∷ lengths_are (from + n) end lengths rest i)

pub listed_are : (config : Config) → listed_by (section_firsts config) (file_first config) (swap_firsts config) (length (blocks_of config)) ≡ blocks_of config
unfolding blocks_of listed_by
listed_are config =
    let all = count_is config in
    let count = length (blocks_of config) in
    let end : count ≡ file_first config + config.pagefile + sum (extents config.procs) = all in
    let sections = lengths_are 0 (file_first config) (block_counts config.sections) (omega arith) in
    let swaps = lengths_are (file_first config + config.pagefile) count (extents config.procs) end in
    let first : slice_index_or (swap_firsts config) 0 count ≡ file_first config + config.pagefile =
    ap (slice_index_or (swap_firsts config) 0) end ∙ first_head (file_first config + config.pagefile) (extents config.procs) in
    let file : slice_index_or (swap_firsts config) 0 count - file_first config ≡ config.pagefile = omega (arith, first) in
    λ i. row_by_row section_block 0 (sections i) ++ (file_blocks (file i) ++ row_by_row swap_block 0 (swaps i))
