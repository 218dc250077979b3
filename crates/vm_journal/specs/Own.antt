-- The entries of one seat. Source: this project's own.
use Rattle.std.specs.Prelude.{ℕ, ◌+◌, List, [], ◌∷◌, nat_eq, if◌then◌else◌}
use Rattle.vm_journal.specs.declared.entry.Entry.{Entry}

abbrev pub own_from : ℕ → ℕ → List Entry → List (ℕ × Entry)
own_from number seat [] = []
own_from number seat (e ∷ entries) =
    if nat_eq (e.seat).0 seat then (number, e) ∷ own_from (number + 1) seat entries else own_from (number + 1) seat entries

-- a seat's entries with their numbers from 1, in order
abbrev pub own_entries : ℕ → List Entry → List (ℕ × Entry)
own_entries seat entries = own_from 1 seat entries
