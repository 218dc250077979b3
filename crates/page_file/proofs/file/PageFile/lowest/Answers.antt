use Rattle.std.proofs.Common.{◌≡◌, ℕ, ◌<◌, ◌≤◌, ◌+◌, ◌-◌, ◌^◌, List, Option, ap, arith, drop, length, subst, sym, take, ◌∙◌}
use Rattle.std.specs.List.{position, position_or_len}
use Rattle.std.specs.Option.{is_none, unwrap_or}
use Rattle.std.proofs.lemmas.List.{take_rest}
use Rattle.vm_types.specs.declared.names.Page.{Page}
use Rattle.page_file.specs.Blocks.{Blocks, AreBlocks, IsFreeBlock, NoneFreeBelow, assigned_blocks, blocks_of}
use Rattle.page_file.proofs.FirstFree.{first_from, first_is_free, first_is_lowest, or_length}
use Rattle.page_file.proofs.Written.{first_written}
use Rattle.page_file.proofs.file.PageFile.lowest.Goals as goal

-- the lowest block that is free
record IsLowest (blocks : Blocks) (found : ℕ) : Type 0 where
  free : IsFreeBlock blocks found
  lowest : (k : ℕ) → k < found → ¬ IsFreeBlock blocks k
  numbered : found < 2 ^ 32

abbrev rest : List (Option Page) → ℕ → List (Option Page)
rest owners hint = take (length owners - hint) (drop hint owners)

-- what is found among those that are written, or the first one after them
lowest : (charged count hint first : ℕ) (written owners : List (Option Page)) (now : Blocks) → blocks_of charged written count ≡ now → AreBlocks (blocks_of charged written count) → NoneFreeBelow (blocks_of charged written count) hint → hint ≤ length written → assigned_blocks now < now.charged → owners ≡ written → (found : Option ℕ) → found ≡ position is_none (rest owners hint) → first ≡ unwrap_or found (length (rest owners hint)) → IsLowest now (hint + first)
lowest charged count hint first written owners now is_view are below within fewer are_written found is_found is_first =
    let are_now = subst AreBlocks is_view are in
    let none_below = subst (λ (b : Blocks). NoneFreeBelow b hint) is_view below in
    let is_rest : rest owners hint ≡ drop hint written = take_rest owners hint ∙ ap (drop hint) are_written in
    let looked : first ≡ position_or_len is_none (drop hint written) = is_first ∙ (ap (λ o. unwrap_or o (length (rest owners hint))) is_found ∙ or_length (rest owners hint) ∙ ap (position_or_len is_none) is_rest) in
    let place : first_from now hint ≡ hint + first =
    sym (ap (λ (b : Blocks). first_from b hint) is_view) ∙ ap (λ n. hint + n) (first_written written count hint within ∙ sym looked) in
    let charged_now = are_now.charged in
    let numbered_now = are_now.numbered in
    let free : IsFreeBlock now (first_from now hint) = first_is_free now hint none_below (omega (arith, fewer, charged_now)) in
    let exists = free.exists in
    let all : IsLowest now (first_from now hint) = record {
      free = free;
      lowest = first_is_lowest now hint none_below;
      numbered = omega (arith, exists, numbered_now);
    } in
    subst (IsLowest now) place all

pub overflow_add-result : goal.overflow_add-result
overflow_add-result c = let below = (lowest c.self.inside.charges c.self.inside.blocks c.self.inside.hint c.unwrap_or.result c.self.inside.owners.items c.deref.result.now c.args.self.now c.self.view_is c.self.invariant.1 c.self.invariant.5 c.self.invariant.4 c.requires c.deref.ensures.value c.first_free.result c.first_free.ensures c.unwrap_or.ensures).numbered in omega (arith, below)

pub overflow_cast-result : goal.overflow_cast-result
overflow_cast-result c = let below = (lowest c.self.inside.charges c.self.inside.blocks c.self.inside.hint c.unwrap_or.result c.self.inside.owners.items c.deref.result.now c.args.self.now c.self.view_is c.self.invariant.1 c.self.invariant.5 c.self.invariant.4 c.requires c.deref.ensures.value c.first_free.result c.first_free.ensures c.unwrap_or.ensures).numbered in omega (arith, below)

pub returns-clause-free : goal.returns-clause-free
returns-clause-free c = (lowest c.self.inside.charges c.self.inside.blocks c.self.inside.hint c.unwrap_or.result c.self.inside.owners.items c.deref.result.now c.args.self.now c.self.view_is c.self.invariant.1 c.self.invariant.5 c.self.invariant.4 c.requires c.deref.ensures.value c.first_free.result c.first_free.ensures c.unwrap_or.ensures).free

pub returns-clause-lowest : goal.returns-clause-lowest
returns-clause-lowest c = (lowest c.self.inside.charges c.self.inside.blocks c.self.inside.hint c.unwrap_or.result c.self.inside.owners.items c.deref.result.now c.args.self.now c.self.view_is c.self.invariant.1 c.self.invariant.5 c.self.invariant.4 c.requires c.deref.ensures.value c.first_free.result c.first_free.ensures c.unwrap_or.ensures).lowest
