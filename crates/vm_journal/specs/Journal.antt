-- What a journal holds. Source: this project's own.
use Rattle.std.specs.Prelude.{ℕ, ◌+◌, ◌^◌, ◌≤◌, Bool, true, false, List, count_by}
use Rattle.vm_journal.specs.declared.entry.Entry.{Entry}
use Rattle.vm_journal.specs.declared.entry.What.{What}
use Rattle.vm_journal.specs.declared.entry.What.TheVariants as what

-- the entries, oldest first, and how many more can be written without memory
pub record Written : Type 0 where
  pub entries : List Entry
  pub spare : ℕ

-- so many entries with room for so many more, in memory for so many: at most 2^48, so that a block's
-- calls, of which each is an entry, can be counted in 48 bits
pub record IsRoomy (entries spare capacity : ℕ) : Type 0 where
  pub room : entries + spare ≤ capacity
  pub most : entries + spare ≤ 2 ^ 48

-- whether an entry answers a request, and how many of the entries do
abbrev pub is_answer : What → Bool
is_answer (what.Done r reply) = true
is_answer (what.Denied r reason) = true
is_answer (what.Served s answer) = true
is_answer other = false

abbrev pub answers_in : List Entry → ℕ
answers_in entries = count_by (λ (e : Entry). is_answer e.what) entries
