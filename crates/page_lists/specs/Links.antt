-- How two lists stand in link cells. Source: Kenah and Bate, "VAX/VMS Internals and Data
-- Structures", the PFN database: the forward and the backward link, the heads, tails and counts of
-- the page lists. The marks are this project's own.
use Rattle.std.specs.Prelude.{◌≡◌, ℕ, ◌+◌, ◌-◌, ◌<◌, ◌≤◌, ◌^◌, zero, suc, Bool, true, false, if◌then◌else◌, List, [], ◌∷◌, Option, None, Some, length, map, slice_index, slice_index_or}
use Rattle.std.specs.List.{range_with_len}
use Rattle.page_lists.specs.declared.list_name.ListName.{ListName}
use Rattle.page_lists.specs.declared.list_name.ListName.TheVariants.{Free, Modified}
use Rattle.page_lists.specs.declared.ends.Ends.{Ends}
use Rattle.page_lists.specs.Lists.{count_of}

-- so many frames, from this one on along the forward links
abbrev pub followed : List ℕ → ℕ → ℕ → List ℕ
followed forward head zero = []
followed forward head (suc n) = head ∷ followed forward (slice_index forward head) n

-- the list with these ends
abbrev pub items_of : List ℕ → Ends → List ℕ
items_of forward ends = followed forward ends.head ends.count

-- these frames, each once, are linked both ways between these ends
pub record IsLinked (forward backward items : List ℕ) (ends : Ends) : Type 0 where
  pub counted : length items ≡ ends.count
  pub first : 0 < ends.count → slice_index items 0 ≡ ends.head
  pub last : 0 < ends.count → slice_index items (ends.count - 1) ≡ ends.tail
  pub within : (place : ℕ) → place < ends.count → slice_index items place < length forward
  pub once : (frame : ℕ) → count_of items frame ≤ 1
  pub next : (place : ℕ) → place + 1 < ends.count → slice_index forward (slice_index items place) ≡ slice_index items (place + 1)
  pub previous : (place : ℕ) → place + 1 < ends.count → slice_index backward (slice_index items (place + 1)) ≡ slice_index items place

-- the cells of every frame but these are as before
pub record KeepsOthers (items forward_old backward_old forward_new backward_new : List ℕ) : Type 0 where
  pub forward : (frame : ℕ) → count_of items frame ≡ 0 → slice_index forward_new frame ≡ slice_index forward_old frame
  pub backward : (frame : ℕ) → count_of items frame ≡ 0 → slice_index backward_new frame ≡ slice_index backward_old frame

-- a frame that has cells isn't on the list with these ends, which has room for it
pub record CanJoin (forward backward : List ℕ) (ends : Ends) (frame : ℕ) : Type 0 where
  pub below : frame < length forward
  pub cells : length backward ≡ length forward
  pub linked : IsLinked forward backward (items_of forward ends) ends
  pub absent : count_of (items_of forward ends) frame ≡ 0
  pub room : ends.count + 1 < 2 ^ 32

-- the list with these ends has these items once a frame has joined it
pub record HasJoined (forward_old backward_old forward_new backward_new list : List ℕ) (ends : Ends) : Type 0 where
  pub items : items_of forward_new ends ≡ list
  pub linked : IsLinked forward_new backward_new (items_of forward_new ends) ends
  pub others : KeepsOthers (items_of forward_new ends) forward_old backward_old forward_new backward_new
  pub count : length forward_new ≡ length forward_old
  pub same_count : length backward_new ≡ length backward_old

-- the mark of a frame: the list that it is on
abbrev pub mark_of : List (Option ListName) → ℕ → Option ListName
mark_of marks frame = slice_index_or marks frame None

-- whether the mark is of this list
abbrev pub is_marked : Option ListName → ListName → Bool
is_marked (Some Free) Free = true
is_marked (Some Modified) Modified = true
is_marked mark name = false

-- the list of this name is linked, and has exactly the frames with its mark
pub record IsMarked (forward backward : List ℕ) (marks : List (Option ListName)) (name : ListName) (ends : Ends) : Type 0 where
  pub linked : IsLinked forward backward (items_of forward ends) ends
  pub marked : (frame : ℕ) → count_of (items_of forward ends) frame ≡ (if is_marked (mark_of marks frame) name then 1 else 0)

-- both lists, with a cell of each kind and a mark for each frame
pub record AreLinked (forward backward : List ℕ) (marks : List (Option ListName)) (free modified : Ends) : Type 0 where
  pub cells_count : length backward ≡ length forward
  pub marks_count : length marks ≡ length forward
  pub short : length forward < 2 ^ 32
  pub free_list : IsMarked forward backward marks Free free
  pub modified_list : IsMarked forward backward marks Modified modified

-- what the cells of a frame with this mark are for callers
abbrev pub lent_cells : Option ListName → ℕ → ℕ → ℕ × ℕ
lent_cells None first second = (first, second)
lent_cells (Some name) first second = (0, 0)

-- the same for each frame
abbrev pub all_cells : List ℕ → List ℕ → List (Option ListName) → List (ℕ × ℕ)
all_cells forward backward marks =
    map (λ frame. lent_cells (mark_of marks frame) (slice_index forward frame) (slice_index backward frame)) (range_with_len 0 (length forward))
