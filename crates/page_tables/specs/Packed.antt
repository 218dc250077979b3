-- How the code keeps the entries: a word for each place. The word of a place without an entry has the
-- reserved protection code, which no entry's word has. No contract of a public call names these
-- definitions.
use Rattle.std.specs.Prelude.{◌≡◌, ℕ, false, ◌*◌, ◌/◌, ◌%◌, ◌^◌, ◌<◌, ◌&&◌, not, List, Option, Some, None, length, map, nat_eq, nat_lt, slice_index, if◌then◌else◌}
use Rattle.vm_types.specs.declared.limits.TheConstants.{PRIVATE_PAGES}
use Rattle.pte_forms.specs.Word.{word_of}
use Rattle.pte_forms.specs.declared.pte.Pte.{Pte}
use Rattle.pte_forms.specs.declared.pte.Place.{Place}
use Rattle.pte_forms.specs.declared.pte.Place.TheVariants.{Valid, DemandZero, Transition, PageFile, SectionIndex, GlobalIndex, Swap}
use Rattle.page_tables.specs.PageTables.{IsEntry}

-- the word of a place without an entry: the reserved code, and nothing else
abbrev pub absent : ℕ
absent = 2 ^ 27

-- the word at a place, if it stands for an entry
abbrev pub word_in : List ℕ → ℕ → Option ℕ
word_in words place =
    if nat_lt place (length words) && not (nat_eq (slice_index words place) absent) then Some (slice_index words place) else None

-- the place that a valid bit, a kind and a number name
abbrev pub place_by : ℕ → ℕ → ℕ → Place
place_by valid kind number =
    if nat_eq valid 1 then Valid (nat_eq kind 4) (record { 0 = number })
    else if nat_eq kind 0 then DemandZero
    else if nat_eq kind 1 then Transition (record { 0 = number })
    else if nat_eq kind 2 then PageFile number
    else if nat_eq kind 3 then SectionIndex number
    else if nat_eq kind 4 then GlobalIndex number
    else Swap number

-- the entry that a word stands for
unfoldable pub entry_by : ℕ → Pte
entry_by word = record { prot = word / 2 ^ 27 % 16; place = place_by (word / 2 ^ 31) (word / 2 ^ 24 % 8) (word % 2 ^ 21) }

-- what a word keeps
abbrev pub kept_by : ℕ → Option Pte
kept_by word = if nat_eq word absent then None else Some (entry_by word)

-- what is kept at each place, in order
unfoldable pub entries_in : List ℕ → List (Option Pte)
entries_in words = map kept_by words

-- a word stands for an entry that the tables may have
pub record IsKeptWord (word : ℕ) : Type 0 where
  pub is : word_of (entry_by word) ≡ word
  pub entry : IsEntry (entry_by word)

-- 5120 words for each process; each of them but that of no entry stands for an entry
pub record ArePacked (procs : ℕ) (words : List ℕ) : Type 0 where
  pub count : length words ≡ procs * PRIVATE_PAGES
  pub kept : (place : ℕ) → place < length words → nat_eq (slice_index words place) absent ≡ false → IsKeptWord (slice_index words place)
