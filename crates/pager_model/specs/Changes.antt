-- Elementary changes of lists, pages and blocks. This project's own.
use Rattle.std.specs.Prelude.{ℕ, Bool, true, false, List, [], ◌∷◌, ◌++◌, Option, Some, None, filter, not, if◌then◌else◌}
use Rattle.vm_types.specs.Same.{same_page}
use Rattle.vm_types.specs.declared.names.Page.{Page}
use Rattle.vm_types.specs.declared.names.FrameState.{FrameState}
use Rattle.vm_types.specs.declared.names.FrameState.TheVariants as state
use Rattle.vm_types.specs.declared.names.BlockId.{BlockId}
use Rattle.vm_types.specs.declared.names.BlockId.TheVariants as block
use Rattle.pager_model.specs.Lookups.{is_assigned_to, is_entry}
use Rattle.pager_model.specs.Pager.{Assigned, Valid}
use Rattle.pager_model.specs.Sets.{at_page}

-- a frame added at the tail, where it is to be
abbrev pub pushed_if : Bool → List ℕ → ℕ → List ℕ
pushed_if b xs f = if b then (xs ++ f ∷ []) else xs

-- the pages but this one
abbrev pub without_page : List Page → Page → List Page
without_page pages g = filter (λ (x : Page). not (same_page g x)) pages

-- the assignments but those of this page
abbrev pub without_assigned : List Assigned → Page → List Assigned
without_assigned assigned g = filter (λ (x : Assigned). not (is_assigned_to g x)) assigned

-- the entries but this one
abbrev pub without_entry : List Valid → ℕ → ℕ → List Valid
without_entry valid p v = filter (λ (e : Valid). not (is_entry p v e)) valid

abbrev pub valid_at : ℕ → ℕ → ℕ → Valid
valid_at p v f = record { proc = p; vpn = v; frame = f }

-- the page, if there is one, lies nowhere
abbrev pub lies_nowhere : (Page → Option BlockId) → Option Page → Page → Option BlockId
lies_nowhere lies None = lies
lies_nowhere lies (Some g) = at_page lies g None

-- where a frame that no entry shares settles: on the modified list where its modify mark is set, else
-- on the free list
abbrev pub settled_to : Bool → FrameState
settled_to modify = if modify then state.Modified else state.Free

abbrev pub is_section_block : BlockId → Bool
is_section_block (block.Section s i) = true
is_section_block other = false

-- the slot of a swap block
abbrev pub swap_slot : BlockId → ℕ
swap_slot (block.Swap p n) = n
swap_slot other = 0
