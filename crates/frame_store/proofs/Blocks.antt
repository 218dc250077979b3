-- The blocks of a configuration: which they are, and their numbers.
use Rattle.std.proofs.Common.{◌≡◌, ℕ, ◌+◌, ◌-◌, ◌<◌, ◌≤◌, Bool, true, false, cond, List, ◌++◌, Option, Some, None, length, map, sum, slice_get, slice_set, refl, inl, inr, sym, ap, ◌∙◌, subst, arith}
use Rattle.std.specs.Prelude.{◌⊎◌, IsSome}
use Rattle.std.specs.Option.{option_map}
use Rattle.std.proofs.lemmas.Bool.{cases_lt}
use Rattle.std.proofs.lemmas.List.{get_or-set_same, get_or-set_other}
use Rattle.std.proofs.lemmas.List.FromFn.{length-map-range_with_len}
use Rattle.std.proofs.lemmas.Option.{none-some, same_Some, slice_get-map, slice_get_within}
use Rattle.vm_types.specs.Configuration.{IsBlock, IsSectionPage, section_pages}
use Rattle.vm_types.specs.Kinds.{is_paged_kind, paged_of}
use Rattle.vm_types.specs.SectionBlocks.{section_block_count}
use Rattle.vm_types.specs.declared.config.Config.{Config}
use Rattle.vm_types.specs.declared.config.ProcSpec.{ProcSpec}
use Rattle.vm_types.specs.declared.config.Section.{Section}
use Rattle.vm_types.specs.declared.names.BlockId.{BlockId}
use Rattle.vm_types.specs.declared.names.BlockId.TheVariants as block
use Rattle.frame_store.specs.Blocks.{block_at, blocks_of, extents, number_of, file_blocks, block_counts, section_block, section_blocks, swap_block, swap_blocks}
use Rattle.frame_store.specs.Numbers.{firsts, number_by}
use Rattle.frame_store.proofs.Places.{held_below, number_below, number_finds}
use Rattle.frame_store.proofs.Rows.{IsIn, first_is, get_before, get_left, get_past, get_right, get_row, in_rows, length_rows, rows_have}

abbrev Found : Config → BlockId → Type 0
Found config b = (k : ℕ) × (slice_get (blocks_of config) k ≡ Some b)

-- each block of the configuration is listed
pub listed : (config : Config) (b : BlockId) → IsBlock config b → Found config b
unfolding blocks_of
listed config (block.Section s page) is =
    let there = is.0 in
    let counted = slice_get-map section_block_count config.sections s.0 ∙ ap (option_map section_block_count) there.1 in
    let all : section_block_count there.0 ≡ section_pages there.0 = ap (λ (b : Bool). cond b 0 (section_pages there.0)) (ap paged_of (sym there.1) ∙ is.1) in
    let found = rows_have section_block 0 (block_counts config.sections) s.0 (section_block_count there.0) page counted (subst (λ n. page < n) (sym all) there.2) in
    (found.0, get_left (section_blocks config.sections) (file_blocks config.pagefile ++ swap_blocks config.procs) found.0 (block.Section s page) (found.1 ∙ ap (λ n. Some (section_block n page)) (omega arith)))
listed config (block.PageFile b) is =
    let found = get_left (file_blocks config.pagefile) (swap_blocks config.procs) b (block.PageFile b) (get_row block.PageFile config.pagefile b is) in
    (length (section_blocks config.sections) + b, get_right (section_blocks config.sections) (file_blocks config.pagefile ++ swap_blocks config.procs) b (block.PageFile b) found)
listed config (block.Swap p slot) is =
    let counted = slice_get-map (λ (spec : ProcSpec). spec.extent) config.procs p.0 ∙ ap (option_map (λ (spec : ProcSpec). spec.extent)) is.1 in
    let row = rows_have swap_block 0 (extents config.procs) p.0 (is.0).extent slot counted is.2 in
    let found = get_right (file_blocks config.pagefile) (swap_blocks config.procs) row.0 (block.Swap p slot) (row.1 ∙ ap (λ n. Some (swap_block n slot)) (omega arith)) in
    (length (section_blocks config.sections) + (length (file_blocks config.pagefile) + row.0), get_right (section_blocks config.sections) (file_blocks config.pagefile ++ swap_blocks config.procs) _ (block.Swap p slot) found)

-- a mapped list has an item where the list has one
mapped : {X Y : Type 0} (f : X → Y) (xs : List X) (k : ℕ) (y : Y) → slice_get (map f xs) k ≡ Some y → (x : X) × (slice_get xs k ≡ Some x) × (f x ≡ y)
mapped {X} {Y} f xs k y there = go (slice_get xs k) refl
  where
    go : (o : Option X) → slice_get xs k ≡ o → (x : X) × (slice_get xs k ≡ Some x) × (f x ≡ y)
    go None is = absurd (none-some y (sym (slice_get-map f xs k ∙ ap (option_map f) is) ∙ there))
    go (Some x) is = (x, is, same_Some _ _ (sym (slice_get-map f xs k ∙ ap (option_map f) is) ∙ there))

-- the numbers of the first blocks of a configuration's rows
abbrev pub section_firsts : Config → List ℕ
section_firsts config = firsts 0 (block_counts config.sections)

abbrev pub file_first : Config → ℕ
file_first config = sum (block_counts config.sections)

abbrev pub swap_firsts : Config → List ℕ
swap_firsts config = firsts (file_first config + config.pagefile) (extents config.procs)

abbrev IsNumbered : Config → ℕ → BlockId → Type 0
IsNumbered config k b = IsBlock config b × (number_by (section_firsts config) (file_first config) (swap_firsts config) b ≡ k)

-- a section with section blocks has a file, and as many pages
has_file : (config : Config) (s : ℕ) (section : Section) (page : ℕ) → slice_get config.sections s ≡ Some section → page < section_block_count section → IsSectionPage config.sections s page × (paged_of (slice_get config.sections s) ≡ false)
has_file config s section page there less = go (is_paged_kind section.kind) refl less
  where
    go : (b : Bool) → is_paged_kind section.kind ≡ b → page < cond b 0 (section_pages section) → IsSectionPage config.sections s page × (paged_of (slice_get config.sections s) ≡ false)
    go true paged less = absurd (omega (arith, less))
    go false file less = ((section, there, less), ap paged_of there ∙ file)

in_sections : (config : Config) (k : ℕ) (b : BlockId) → IsIn section_block 0 (block_counts config.sections) k b → IsNumbered config k b
in_sections config k b in_row =
    let at = in_row.at in
    let same : b ≡ section_block in_row.row in_row.place = in_row.named ∙ ap (λ n. section_block n in_row.place) (omega arith) in
    let section = mapped section_block_count config.sections in_row.row in_row.count in_row.there in
    let page = has_file config in_row.row section.0 in_row.place section.1 (subst (λ n. in_row.place < n) (sym section.2) in_row.within) in
    let first = first_is 0 (block_counts config.sections) in_row.row (slice_get_within (block_counts config.sections) in_row.row in_row.count in_row.there) in
    subst (IsNumbered config k) (sym same) (page, omega (arith, at, first))

in_file : (config : Config) (k : ℕ) (b : BlockId) → slice_get (file_blocks config.pagefile) k ≡ Some b → IsNumbered config (file_first config + k) b
in_file config k b there =
    let below : k < config.pagefile = subst (λ n. k < n) (length-map-range_with_len block.PageFile 0 config.pagefile) (slice_get_within (file_blocks config.pagefile) k b there) in
    subst (IsNumbered config (file_first config + k)) (same_Some _ _ (sym (get_row block.PageFile config.pagefile k below) ∙ there)) (below, refl)

in_swaps : (config : Config) (k : ℕ) (b : BlockId) → IsIn swap_block 0 (extents config.procs) k b → IsNumbered config (file_first config + config.pagefile + k) b
in_swaps config k b in_row =
    let at = in_row.at in
    let same : b ≡ swap_block in_row.row in_row.place = in_row.named ∙ ap (λ n. swap_block n in_row.place) (omega arith) in
    let spec = mapped (λ (spec : ProcSpec). spec.extent) config.procs in_row.row in_row.count in_row.there in
    let first = first_is (file_first config + config.pagefile) (extents config.procs) in_row.row (slice_get_within (extents config.procs) in_row.row in_row.count in_row.there) in
    subst (IsNumbered config (file_first config + config.pagefile + k)) (sym same) ((spec.0, spec.1, subst (λ n. in_row.place < n) (sym spec.2) in_row.within), omega (arith, at, first))

-- each listed block is one of the configuration, and has the number by which it is found
pub numbered : (config : Config) (k : ℕ) (b : BlockId) → slice_get (blocks_of config) k ≡ Some b → IsNumbered config k b
unfolding blocks_of
numbered config k b there = by_section (cases_lt k (file_first config))
  where
    sections : List BlockId
    sections = section_blocks config.sections

    file : List BlockId
    file = file_blocks config.pagefile

    swaps : List BlockId
    swaps = swap_blocks config.procs

    long : length sections ≡ file_first config
    long = length_rows section_block 0 (block_counts config.sections)

    by_file : slice_get (file ++ swaps) (k - file_first config) ≡ Some b → file_first config ≤ k → (k - file_first config < config.pagefile) ⊎ (config.pagefile ≤ k - file_first config) → IsNumbered config k b
    by_file later past (inl below) =
        let size = length-map-range_with_len block.PageFile 0 config.pagefile in
        subst (λ n. IsNumbered config n b) (omega (arith, past)) (in_file config (k - file_first config) b (get_before file swaps (k - file_first config) b (omega (arith, size, below)) later))
    by_file later past (inr more) =
        let size = length-map-range_with_len block.PageFile 0 config.pagefile in
        subst (λ n. IsNumbered config n b) (omega (arith, past, more))
        (in_swaps config (k - file_first config - config.pagefile) b (in_rows swap_block 0 (extents config.procs) _ b (get_past file swaps config.pagefile (k - file_first config) b size more later)))

    by_section : (k < file_first config) ⊎ (file_first config ≤ k) → IsNumbered config k b
    by_section (inl below) = in_sections config k b (in_rows section_block 0 (block_counts config.sections) k b (get_before sections (file ++ swaps) k b (omega (arith, long, below)) there))
    by_section (inr past) = by_file (get_past sections (file ++ swaps) (file_first config) k b long past there) past (cases_lt (k - file_first config) config.pagefile)

-- ---- for callers: a block and its number
pub number_there : (config : Config) (b : BlockId) → IsBlock config b → slice_get (blocks_of config) (number_of config b) ≡ Some b
number_there config b is = let found = listed config b is in number_finds (blocks_of config) b (number_below (blocks_of config) found.0 b found.1)

pub number_within : (config : Config) (b : BlockId) → IsBlock config b → number_of config b < length (blocks_of config)
number_within config b is = slice_get_within (blocks_of config) (number_of config b) b (number_there config b is)

pub is_block : (config : Config) (k : ℕ) (b : BlockId) → slice_get (blocks_of config) k ≡ Some b → IsBlock config b
is_block config k b there = (numbered config k b there).0

-- no block is listed twice
pub number_only : (config : Config) (k : ℕ) (b : BlockId) → slice_get (blocks_of config) k ≡ Some b → number_of config b ≡ k
number_only config k b there =
    let first = numbered config (number_of config b) b (number_there config b (is_block config k b there)) in
    sym first.1 ∙ (numbered config k b there).1

-- two blocks have two numbers
pub numbers_apart : (config : Config) (b c : BlockId) → IsBlock config b → (b ≡ c → ⊥) → number_of config c ≡ number_of config b → ⊥
numbers_apart config b c is apart same =
    let at = number_within config b is in
    let there = number_finds (blocks_of config) c (subst (λ n. n < length (blocks_of config)) (sym same) at) in
    apart (same_Some b c (sym (number_there config b is) ∙ (ap (slice_get (blocks_of config)) (sym same) ∙ there)))

-- ---- for callers: the blocks by their numbers
module _ {B : Type 0} (config : Config) (blocks : List (Option B)) (many : length blocks ≡ length (blocks_of config)) where
  pub only_blocks : (b : BlockId) (x : B) → block_at config blocks b ≡ Some x → IsBlock config b
  only_blocks b x there =
      let below = held_below blocks (number_of config b) (subst IsSome (sym there) refl) in
      is_block config (number_of config b) b (number_finds (blocks_of config) b (omega (arith, below, many)))

  module _ (b : BlockId) (is : IsBlock config b) (o : Option B) where
    pub block_set : block_at config (slice_set blocks (number_of config b) o) b ≡ o
    block_set = get_or-set_same blocks (number_of config b) o None (let within = number_within config b is in omega (arith, within, many))

    pub block_kept : (c : BlockId) → (b ≡ c → ⊥) → block_at config (slice_set blocks (number_of config b) o) c ≡ block_at config blocks c
    block_kept c apart = get_or-set_other blocks (number_of config b) (number_of config c) o None (numbers_apart config b c is apart)
