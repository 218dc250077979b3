-- The spoken entries of each process: the number of the last one, and how many there are. This project's own.
use Rattle.std.specs.Prelude.{◌≡◌, ℕ, Bool, ◌+◌, ◌<◌, List, [], ◌∷◌, Some, None, length, nat_eq, slice_get, if◌then◌else◌}
use Rattle.vm_journal.specs.declared.entry.Entry.{Entry}
use Rattle.vm_journal.specs.declared.entry.What.{What}
use Rattle.vm_journal.specs.declared.entry.What.TheVariants as what
use Rattle.state_parts.specs.declared.spoken_row.SpokenRow.{SpokenRow}

abbrev pub one_more : Bool → ℕ → SpokenRow → SpokenRow
one_more own number row = if own then (record { last = Some number; count = row.count + 1 }) else row

abbrev pub spoken_with : What → Bool → ℕ → SpokenRow → SpokenRow
spoken_with (what.Done r reply) own number row = one_more own number row
spoken_with (what.Denied r reason) own number row = one_more own number row
spoken_with (what.Served s answer) own number row = one_more own number row
spoken_with other own number row = row

abbrev pub spoken_by : ℕ → List Entry → SpokenRow
spoken_by p [] = record { last = None; count = 0 }
spoken_by p (e ∷ past) = spoken_with e.what (nat_eq (e.seat).0 p) (length past + 1) (spoken_by p past)

pub record SpokenFit (row : ℕ → SpokenRow) (n : ℕ) (rows : List SpokenRow) : Type 0 where
  pub count : length rows ≡ n
  pub each : (p : ℕ) → p < n → slice_get rows p ≡ Some (row p)
