-- What is due after an entry that begins and ends no transfer.
use Rattle.std.proofs.Common.{◌≡◌, ℕ, ◌+◌, ◌*◌, ◌≤◌, Bool, true, false, cond, List, ◌∷◌, length, ap, arith}
use Rattle.vm_types.specs.declared.names.Seat.{Seat}
use Rattle.vm_journal.specs.declared.entry.Entry.{Entry}
use Rattle.vm_journal.specs.declared.entry.What.{What}
use Rattle.pager_model.specs.Flights.{fails_read, open_flights}
use Rattle.vm_state.specs.History.{History, entry_by, owed}

-- an entry that begins and ends no transfer leaves what is due
pub paid_after : (past : List Entry) (e : Entry) (spare k : ℕ) → open_flights (e ∷ past) ≡ open_flights past → fails_read e.what ≡ false → owed past + k ≤ spare → owed (e ∷ past) + k ≤ spare
paid_after past e spare k flights calm enough =
    let most : owed (e ∷ past) ≤ owed past = go (fails_read e.what) calm in omega (arith, most, enough)
  where
    go : (b : Bool) → b ≡ false → 2 * length (open_flights (e ∷ past)) + cond b 1 0 ≤ owed past
    go true is = absurd (cc)
    go false is = let same = ap (λ xs. length xs) flights in omega (arith, same)

pub enough : (past : List Entry) (spare k : ℕ) → k ≤ 64 → owed past + 64 ≤ spare → owed past + k ≤ spare
enough past spare k few room = omega (arith, few, room)

-- ---- the first entry of those that are given
module _ (s : History) (seat : Seat) where
  pub paid_first : (w : What) (k : ℕ) → k ≤ 64 → open_flights (entry_by seat w ∷ s.past) ≡ open_flights s.past → fails_read w ≡ false → owed s.past + 64 ≤ s.spare → owed (entry_by seat w ∷ s.past) + k ≤ s.spare
  paid_first w k few flights calm room = paid_after s.past (entry_by seat w) s.spare k flights calm (enough s.past s.spare k few room)
