-- What contracts see of a run's record. Source: this project's own.
use Rattle.std.specs.Prelude.{◌≡◌, ℕ, ◌+◌, ◌^◌, ◌≤◌, Bool, true, false, List, length, map, min, vec_len, vec_capacity}
use Rattle.vm_journal.specs.Journal.{answers_in}
use Rattle.vm_journal.specs.declared.entry.Entry.{Entry}
use Rattle.run_record.specs.Tallies.{tallies_of}
use Rattle.run_record.specs.declared.run_record.Kept.{Kept}
use Rattle.run_record.specs.declared.run_record.Kept.TheVariants as kept

-- the entries, oldest first; how many more can be written without memory; and whether the entries themselves are
-- kept, so that code can read them
pub record Recorded : Type 0 where
  pub entries : List Entry
  pub spare : ℕ
  pub keeps : Bool

-- whether all entries are kept
abbrev pub keeps_all : Kept → Bool
keeps_all (kept.All entries) = true
keeps_all (kept.Counts counts) = false

-- the seats of entries, in a byte each
abbrev pub seat_bytes : List Entry → List ℕ
seat_bytes entries = map (λ (e : Entry). min (e.seat).0 255) entries

-- what is kept is that of these entries, with room for so many more
abbrev pub IsRecorded : List Entry → ℕ → Kept → Type 0
IsRecorded entries spare (kept.All items) = record {
  all : items.items ≡ entries;
  room : vec_len items + spare ≤ vec_capacity items;
}
IsRecorded entries spare (kept.Counts counts) = record {
  kinds : counts.kinds ≡ tallies_of entries;
  bytes : (counts.seats).items ≡ seat_bytes entries;
  room : vec_len counts.seats + spare ≤ vec_capacity counts.seats;
}

-- the counts and what is kept are those of these entries
pub record IsRecord (entries : List Entry) (len answers spare : ℕ) (k : Kept) : Type 0 where
  pub count : len ≡ length entries
  pub most : length entries + spare ≤ 2 ^ 48
  pub answering : answers ≡ answers_in entries
  pub keeping : IsRecorded entries spare k
