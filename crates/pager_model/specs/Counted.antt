-- What a journal counts of a block: its reads, its writes, and the count of failures that its last failed
-- flight left. This project's own.
use Rattle.std.specs.Prelude.{◌≡◌, ℕ, Bool, false, ◌+◌, ◌<◌, List, [], ◌∷◌, Option, Some, None, find, if◌then◌else◌}
use Rattle.vm_types.specs.Same.{same_block}
use Rattle.vm_types.specs.declared.names.BlockId.{BlockId}
use Rattle.vm_journal.specs.declared.entry.Entry.{Entry}
use Rattle.vm_journal.specs.declared.entry.What.{What}
use Rattle.vm_journal.specs.declared.entry.What.TheVariants as what
use Rattle.pager_model.specs.Flights.{Flight, open_flights}
use Rattle.pager_model.specs.Transfers.{starts}

abbrev pub with_read : BlockId → What → ℕ → ℕ
with_read b (what.In f c role) n = if same_block c b then n + 1 else n
with_read b other n = n

-- the IN entries that name the block
abbrev pub reads_of : BlockId → List Entry → ℕ
reads_of b [] = 0
reads_of b (e ∷ past) = with_read b e.what (reads_of b past)

abbrev pub with_write : BlockId → What → ℕ → ℕ
with_write b (what.Out f c) n = if same_block c b then n + 1 else n
with_write b other n = n

-- the OUT entries that name the block
abbrev pub writes_of : BlockId → List Entry → ℕ
writes_of b [] = 0
writes_of b (e ∷ past) = with_write b e.what (writes_of b past)

abbrev pub is_flight_on : BlockId → Option Flight → Bool
is_flight_on b None = false
is_flight_on b (Some x) = same_block b x.block

-- the count after the failure of flight k, where that is on the block
abbrev pub with_count : BlockId → List Entry → What → ℕ → ℕ
with_count b past (what.InFail f k c d) n = if is_flight_on b (find (starts k) (open_flights past)) then d else n
with_count b past (what.OutFail f k c d) n = if is_flight_on b (find (starts k) (open_flights past)) then d else n
with_count b past other n = n

-- the d of the last INFAIL or OUTFAIL of a flight on the block, or 0 where there is none
abbrev pub last_count : BlockId → List Entry → ℕ
last_count b [] = 0
last_count b (e ∷ past) = with_count b past e.what (last_count b past)

-- as a value
pub record Counts : Type 0 where
  pub reads : ℕ
  pub writes : ℕ
  pub faults : ℕ

abbrev pub counts_of : BlockId → List Entry → Counts
counts_of b past = record { reads = reads_of b past; writes = writes_of b past; faults = last_count b past }

-- a failed landing shows the block's last count, and a greater one
pub record IsCounted (past : List Entry) (b : BlockId) (c d : ℕ) : Type 0 where
  pub last : c ≡ last_count b past
  pub more : c < d
