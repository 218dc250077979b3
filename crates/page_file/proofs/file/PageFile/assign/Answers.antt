use Rattle.std.proofs.Common.{◌≡◌, ℕ, ◌+◌, ◌<◌, ◌≤◌, List, Option, Some, ap, arith, inl, inr, refl, slice_set, vec_capacity}
use Rattle.std.specs.Prelude.{◌⊎◌}
use Rattle.vm_types.specs.declared.names.Page.{Page}
use Rattle.page_file.specs.Blocks.{Blocks, IsFreeBlock, all_owners, assigned_blocks}
use Rattle.page_file.specs.contracts.file.PageFile.{the_invariant, the_view}
use Rattle.page_file.specs.declared.file.PageFile.TheInside.{Inside}
use Rattle.page_file.proofs.Changes.{IsChanged, assign_changes, with_owner}
use Rattle.page_file.proofs.file.PageFile.assign.Goals as goal

-- the page file after the block is written
assigned : (file : Inside) (now : Blocks) → the_view file ≡ now → the_invariant file → (block : ℕ) (page : Page) → IsFreeBlock now block → assigned_blocks now < now.charged → (reached : List (Option Page)) → reached ≡ all_owners file.owners.items (block + 1) → (next : ℕ) → (next ≤ file.hint) ⊎ ((next ≡ file.hint + 1) × (block ≡ file.hint)) → IsChanged (file.assignments + 1) file.charges file.blocks next (slice_set reached block (Some page)) (with_owner now block (Some page))
assigned file now is_view keeps block page free fewer reached is_reached next passes =
    assign_changes file.assignments file.charges file.blocks file.hint file.owners.items now is_view (record { counted = keeps.0; are = keeps.1; below = keeps.5 }) keeps.2 keeps.4 block page reached next is_reached free fewer passes

pub invariant_of-self : goal.invariant_of-self
invariant_of-self c =
    let after = assigned c.self.inside c.args.self.now c.self.view_is c.self.invariant c.args.block c.args.page c.requires.free c.requires.charged c.reach.new.owners.items c.reach.ensures.owners (c.self.inside.hint + 1) (inr (refl, c.if-block-self.true)) in
    let capacity : c.self.inside.blocks ≤ vec_capacity c.reach.new.owners = omega (arith, c.reach.ensures.capacity, c.self.invariant.3) in
    (after.kept.counted, after.kept.are, after.few, capacity, after.within, after.kept.below)

pub invariant_of-self-else-block-self : goal.invariant_of-self-else-block-self
invariant_of-self-else-block-self c =
    let after = assigned c.self.inside c.args.self.now c.self.view_is c.self.invariant c.args.block c.args.page c.requires.free c.requires.charged c.reach.new.owners.items c.reach.ensures.owners c.self.inside.hint (inl (omega arith)) in
    let capacity : c.self.inside.blocks ≤ vec_capacity c.reach.new.owners = omega (arith, c.reach.ensures.capacity, c.self.invariant.3) in
    (after.kept.counted, after.kept.are, after.few, capacity, after.within, after.kept.below)

pub returns-then-block-self-clause-value : goal.returns-then-block-self-clause-value
returns-then-block-self-clause-value c = (assigned c.self.inside c.args.self.now c.self.view_is c.self.invariant c.args.block c.args.page c.requires.free c.requires.charged c.reach.new.owners.items c.reach.ensures.owners (c.self.inside.hint + 1) (inr (refl, c.if-block-self.true))).view

pub returns-then-block-self-clause-assigned : goal.returns-then-block-self-clause-assigned
returns-then-block-self-clause-assigned c =
    let after = assigned c.self.inside c.args.self.now c.self.view_is c.self.invariant c.args.block c.args.page c.requires.free c.requires.charged c.reach.new.owners.items c.reach.ensures.owners (c.self.inside.hint + 1) (inr (refl, c.if-block-self.true)) in
    let counted = after.kept.counted in
    let before = ap assigned_blocks c.self.view_is in
    omega (arith, counted, before, c.self.invariant.0)

pub returns-then-block-self-clause-blocks : goal.returns-then-block-self-clause-blocks
returns-then-block-self-clause-blocks c = (assigned c.self.inside c.args.self.now c.self.view_is c.self.invariant c.args.block c.args.page c.requires.free c.requires.charged c.reach.new.owners.items c.reach.ensures.owners (c.self.inside.hint + 1) (inr (refl, c.if-block-self.true))).kept.are

pub returns-else-block-self-clause-value : goal.returns-else-block-self-clause-value
returns-else-block-self-clause-value c = (assigned c.self.inside c.args.self.now c.self.view_is c.self.invariant c.args.block c.args.page c.requires.free c.requires.charged c.reach.new.owners.items c.reach.ensures.owners c.self.inside.hint (inl (omega arith))).view

pub returns-else-block-self-clause-assigned : goal.returns-else-block-self-clause-assigned
returns-else-block-self-clause-assigned c =
    let after = assigned c.self.inside c.args.self.now c.self.view_is c.self.invariant c.args.block c.args.page c.requires.free c.requires.charged c.reach.new.owners.items c.reach.ensures.owners c.self.inside.hint (inl (omega arith)) in
    let counted = after.kept.counted in
    let before = ap assigned_blocks c.self.view_is in
    omega (arith, counted, before, c.self.invariant.0)

pub returns-else-block-self-clause-blocks : goal.returns-else-block-self-clause-blocks
returns-else-block-self-clause-blocks c = (assigned c.self.inside c.args.self.now c.self.view_is c.self.invariant c.args.block c.args.page c.requires.free c.requires.charged c.reach.new.owners.items c.reach.ensures.owners c.self.inside.hint (inl (omega arith))).kept.are
