-- What a pass knows of a value. Source: this project's own.
use Rattle.std.specs.Prelude.{◌≡◌, ℕ, ◌<◌, ◌++◌, List, All, Contains, Some}
use mathlib.Core.List.{IsPrefix}
use Rattle.vm_journal.specs.declared.entry.Entry.{Entry}
use Rattle.vm_journal.specs.Own.{own_entries}
use Rattle.history_lock.specs.declared.view.View.{View}

module _ {T B : Type 0} (journal : T → List Entry) (base : T → B) where
  -- the value stands on the pass's base, the journal that the pass has seen begins the value's, and the
  -- entries of the pass's numbers are those that the pass has seen
  pub record Known (value : T) (v : View B) : Type 0 where
    pub base_is : v.base ≡ Some (base value)
    pub begins : IsPrefix v.seen (journal value)
    pub own : (k : ℕ) → Contains v.numbers k → own_entries k (journal value) ≡ own_entries k v.seen

-- the journal begins with what the pass has seen, and each later entry is of one of its numbers
abbrev pub Adds : {B : Type 0} → View B → List Entry → Type 0
Adds v journal = (later : List Entry) × (v.seen ++ later ≡ journal) × All (λ e. Contains v.numbers ((e.seat).0)) later

-- all numbers below n are among these
abbrev pub OwnsAll : ℕ → List ℕ → Type 0
OwnsAll n numbers = (k : ℕ) → k < n → Contains numbers k
