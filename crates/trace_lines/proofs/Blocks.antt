-- Blocks that are there have keys of their own.
use Rattle.std.proofs.Common.{◌≡◌, ℕ, zero, suc, ◌≤◌, eqb, List, [], ◌∷◌, Option, Some, None, slice_get, All, refl, arith}
use Rattle.std.specs.Prelude.{sum_by}
use Rattle.std.specs.List.{list_any, AllByRecursion}
use Rattle.std.specs.Option.{option_map_or}
use Rattle.std.proofs.lemmas.List.Sums.{sum_by-cons}
use Rattle.std.proofs.lemmas.List.Elements.{recursion_from_All}
use Rattle.vm_types.specs.declared.limits.TheConstants.{MOST_EXTENT}
use Rattle.vm_types.specs.Configuration.{section_pages}
use Rattle.vm_types.specs.SectionBlocks.{section_block_count}
use Rattle.vm_types.specs.declared.names.BlockId.{BlockId}
use Rattle.vm_types.specs.declared.names.BlockId.TheVariants as block
use Rattle.vm_types.specs.declared.config.Fails.{Fails}
use Rattle.vm_types.specs.declared.config.ProcSpec.{ProcSpec}
use Rattle.vm_types.specs.declared.config.Section.{Section as Held}
use Rattle.vm_types.proofs.SectionBlocks.{few_blocks}
use Rattle.trace_lines.specs.Fails.{is_same, slots_at}
use Rattle.trace_lines.specs.Lookups.{blocks_at, pages_at}
use Rattle.trace_lines.specs.Keys.{block_key}
use Rattle.trace_lines.specs.Seen.{IsKeyed}

-- two keyed blocks are one exactly if their keys are
same_key : (a b : BlockId) → IsKeyed a → IsKeyed b → is_same a b ≡ eqb (block_key a) (block_key b)
same_key (block.Section s n) (block.Section t m) h k = grind (arith, h.0, h.1, k.0, k.1)
same_key (block.Section s n) (block.PageFile c) h k = grind (arith, h.0, h.1)
same_key (block.Section s n) (block.Swap q m) h k = grind (arith, h.0, h.1)
same_key (block.PageFile b) (block.Section t m) h k = grind (arith, k.0, k.1)
same_key (block.PageFile b) (block.PageFile c) h k = grind arith
same_key (block.PageFile b) (block.Swap q m) h k = grind arith
same_key (block.Swap p n) (block.Section t m) h k = grind (arith, k.0, k.1)
same_key (block.Swap p n) (block.PageFile c) h k = grind arith
same_key (block.Swap p n) (block.Swap q m) h k = grind arith

same_keys_all : (fails : List Fails) (id : BlockId) → AllByRecursion (λ f. IsKeyed f.block) fails → IsKeyed id → list_any (λ f. is_same f.block id) fails ≡ list_any (λ f. eqb (block_key f.block) (block_key id)) fails
same_keys_all [] id keyed own = refl
same_keys_all (f ∷ fails) id keyed own = rw (same_key f.block id keyed.0 own, same_keys_all fails id keyed.1 own) refl

pub same_keys : (fails : List Fails) (id : BlockId) → All (λ f. IsKeyed f.block) fails → IsKeyed id → list_any (λ f. is_same f.block id) fails ≡ list_any (λ f. eqb (block_key f.block) (block_key id)) fails
same_keys fails id keyed own = same_keys_all fails id (recursion_from_All (λ (f : Fails). IsKeyed f.block) fails keyed) own

-- a section of this number has at most the pages of all
pub pages_at_most : (sections : List Held) (s : ℕ) → pages_at sections s ≤ sum_by section_pages sections
pages_at_most [] s = omega arith
pages_at_most (x ∷ sections) zero = let more = sum_by-cons section_pages x sections in rw more (omega arith)
pages_at_most (x ∷ sections) (suc s) = let more = sum_by-cons section_pages x sections in let rest = pages_at_most sections s in rw more (omega arith)

-- and at most as many blocks as pages
pub blocks_at_most : (sections : List Held) (s : ℕ) → blocks_at sections s ≤ sum_by section_pages sections
blocks_at_most sections s = let pages = pages_at_most sections s in let few = fewer (slice_get sections s) in omega (arith, pages, few)
  where
    fewer : (o : Option Held) → option_map_or section_block_count o 0 ≤ option_map_or section_pages o 0
    fewer None = omega arith
    fewer (Some x) = few_blocks x

slots_most : (procs : List ProcSpec) (p : ℕ) → AllByRecursion (λ spec. spec.extent ≤ MOST_EXTENT) procs → slots_at procs p ≤ MOST_EXTENT
slots_most [] p each = omega arith
slots_most (x ∷ procs) zero each = each.0
slots_most (x ∷ procs) (suc p) each = slots_most procs p each.1

-- a process has at most 1024 slots
pub slots_at_most : (procs : List ProcSpec) (p : ℕ) → All (λ spec. spec.extent ≤ MOST_EXTENT) procs → slots_at procs p ≤ MOST_EXTENT
slots_at_most procs p each = slots_most procs p (recursion_from_All (λ (spec : ProcSpec). spec.extent ≤ MOST_EXTENT) procs each)
