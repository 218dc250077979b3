-- How many blocks a configuration has.
use Rattle.std.proofs.Common.{◌≡◌, ◌+◌, ◌*◌, ◌<◌, ◌≤◌, ◌^◌, List, [], ◌∷◌, ◌++◌, length, sum, sym, subst, arith, length-append}
use Rattle.std.specs.Prelude.{sum_by}
use Rattle.std.proofs.lemmas.List.Elements.{All-weaker}
use Rattle.std.proofs.lemmas.List.FromFn.{length-map-range_with_len}
use Rattle.std.proofs.lemmas.List.Sums.{sum-map, sum_by-cons, sum_by-le}
use Rattle.vm_types.specs.declared.limits.TheConstants.{MOST_EXTENT, MOST_SECTION_PAGES}
use Rattle.vm_types.specs.Configuration.{IsProcess, IsWellFormed, all_pins, section_pages}
use Rattle.vm_types.specs.SectionBlocks.{section_block_count}
use Rattle.vm_types.specs.declared.config.Config.{Config}
use Rattle.vm_types.specs.declared.config.ProcSpec.{ProcSpec}
use Rattle.vm_types.specs.declared.config.Section.{Section}
use Rattle.vm_types.specs.declared.names.BlockId.TheVariants as block
use Rattle.vm_types.proofs.SectionBlocks.{few_blocks as section_few}
use Rattle.frame_store.specs.Blocks.{blocks_of, extents, file_blocks, block_counts, section_block, section_blocks, swap_block, swap_blocks}
use Rattle.frame_store.proofs.Rows.{length_rows}

pub count_is : (config : Config) → length (blocks_of config) ≡ sum (block_counts config.sections) + config.pagefile + sum (extents config.procs)
unfolding blocks_of
count_is config =
    let sections : length (section_blocks config.sections) ≡ sum (block_counts config.sections) = length_rows section_block 0 (block_counts config.sections) in
    let file = length-map-range_with_len block.PageFile 0 config.pagefile in
    let swaps : length (swap_blocks config.procs) ≡ sum (extents config.procs) = length_rows swap_block 0 (extents config.procs) in
    let later = length-append (file_blocks config.pagefile) (swap_blocks config.procs) in
    let all = length-append (section_blocks config.sections) (file_blocks config.pagefile ++ swap_blocks config.procs) in
    omega (arith, sections, file, swaps, later, all)

-- at most as many section blocks as pages
fewer : (sections : List Section) → sum (block_counts sections) ≤ sum_by section_pages sections
fewer [] = omega arith
fewer (x ∷ sections) =
    let counts = sum_by-cons (λ n. n) (section_block_count x) (block_counts sections) in
    let pages = sum_by-cons section_pages x sections in
    omega (arith, counts, pages, section_few x, fewer sections)

-- they have 32-bit numbers
pub few_pages : (config : Config) → IsWellFormed config → sum (block_counts config.sections) ≤ MOST_SECTION_PAGES
few_pages config formed = let pages = formed.sections.pages in omega (arith, pages, fewer config.sections)

pub few_slots : (config : Config) → IsWellFormed config → sum (extents config.procs) ≤ length config.procs * MOST_EXTENT
few_slots config formed =
    subst (λ n. n ≤ length config.procs * MOST_EXTENT) (sym (sum-map (λ (spec : ProcSpec). spec.extent) config.procs))
    (sum_by-le (λ (spec : ProcSpec). spec.extent) MOST_EXTENT config.procs (All-weaker (IsProcess config.frames (length config.bad + all_pins config)) (λ (spec : ProcSpec). spec.extent ≤ MOST_EXTENT) (λ (spec : ProcSpec) is. is.limited.most) config.procs formed.procs))

pub few_blocks : (config : Config) → IsWellFormed config → sum (block_counts config.sections) + config.pagefile + sum (extents config.procs) < 2 ^ 32
few_blocks config formed = omega (arith, few_pages config formed, few_slots config formed, formed.some_process.1, formed.pagefile.1)
