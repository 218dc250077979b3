-- Lists of which only proofs keep the items, and what is kept of them. This project's own.
use Rattle.std.specs.Prelude.{◌≡◌, ℕ, ◌≤◌, Bool, false, List, [], ◌∷◌, Option, Some, None, count_by, filter, find, length, nat_eq, slice_index_or}
use Rattle.std.specs.Option.{option_map}
use Rattle.vm_types.specs.Same.{same_page}
use Rattle.vm_types.specs.declared.names.BlockId.TheVariants as block
use Rattle.vm_types.specs.declared.names.Page.{Page}
use Rattle.vm_types.specs.PagePlaces.{item_at}
use Rattle.pager_model.specs.Changes.{without_assigned, without_entry, without_page}
use Rattle.pager_model.specs.Lookups.{block_of, count_page, entries_at, entry_of, is_assigned_to, is_owner}
use Rattle.pager_model.specs.Pager.{Assigned, Valid}
use Rattle.shadow_tables.specs.declared.changes.Change.{Change}
use Rattle.shadow_tables.specs.declared.changes.Change.TheVariants as change

-- the pages that were put and not taken away again, the newest first
abbrev pub pages_after : List Change → List Page
pages_after [] = []
pages_after (change.Put g ∷ changes) = g ∷ pages_after changes
pages_after (change.Taken g ∷ changes) = without_page (pages_after changes) g
pages_after (other ∷ changes) = pages_after changes

-- and the blocks that were assigned and not freed
abbrev pub assigned_after : List Change → List Assigned
assigned_after [] = []
assigned_after (change.Given g n ∷ changes) = record { page = g; block = n } ∷ assigned_after changes
assigned_after (change.Taken g ∷ changes) = without_assigned (assigned_after changes) g
assigned_after (other ∷ changes) = assigned_after changes

-- and the entries that became valid and are still
abbrev pub valid_after : List Change → List Valid
valid_after [] = []
valid_after (change.Entered p v f ∷ changes) = record { proc = p.0; vpn = v; frame = f.0 } ∷ valid_after changes
valid_after (change.Left p v ∷ changes) = without_entry (valid_after changes) p.0 v
valid_after (other ∷ changes) = valid_after changes

abbrev pub or_none : Option ℕ → ℕ
or_none None = 0
or_none (Some n) = n

-- how often each page stands in a list, and how long it is
pub record ArePageCounts (pages : List Page) (counts : Page → Option ℕ) (len : ℕ) : Type 0 where
  pub each : (g : Page) → or_none (counts g) ≡ count_page pages g
  pub all : len ≡ length pages

abbrev pub held_by : Page → Option Page → Bool
held_by g None = false
held_by g (Some h) = same_page g h

-- how many frames hold each page
abbrev pub AreHolders : List (Option Page) → (Page → Option ℕ) → Type 0
AreHolders held counts = (g : Page) → or_none (counts g) ≡ count_by (held_by g) held

-- the block of each page, how many pages each block is of, and how many blocks there are
pub record AreAssigned (assigned : List Assigned) (blocks : Page → Option ℕ) (owners : List ℕ) (len : ℕ) : Type 0 where
  pub each : (g : Page) → blocks g ≡ block_of assigned g
  pub once : (g : Page) → count_by (is_assigned_to g) assigned ≤ 1
  pub owned : (n : ℕ) → slice_index_or owners n 0 ≡ count_by (is_owner (block.PageFile n)) assigned
  pub all : len ≡ length assigned

abbrev pub frame_of : Option Valid → Option ℕ
frame_of e = option_map (λ (x : Valid). x.frame) e

-- the entries of a frame
abbrev pub entries_of : List Valid → ℕ → List Valid
entries_of valid f = filter (λ (e : Valid). nat_eq e.frame f) valid

-- by the place of a page the frame of its entry, of which there is one at most for a page of a process, and the entries of each frame
pub record AreEntries (valid : List Valid) (frames : List (Option ℕ)) (sharers : List (List Valid)) : Type 0 where
  pub each : (p v : ℕ) → item_at frames p v ≡ frame_of (entry_of valid p v)
  pub once : (p v : ℕ) → entries_at valid p v ≤ 1
  pub shared : (f : ℕ) → slice_index_or sharers f [] ≡ entries_of valid f
