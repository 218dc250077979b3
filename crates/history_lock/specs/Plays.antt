-- What each step of the lock tells its pass. Source: this project's own.
use Rattle.std.specs.Prelude.{◌≡◌, ◌≢◌, ℕ, ◌%◌, List, [], ◌∷◌, Option, Some, None}
use mathlib.Core.List.{IsPrefix}
use Rattle.atomic_table.specs.Table.{Me, Step, rest}
use Rattle.vm_journal.specs.declared.entry.Entry.{Entry}
use Rattle.history_lock.specs.declared.view.View.{View}
use Rattle.history_lock.specs.declared.stage.Stage.TheVariants.{Idle, Sleeping, Waiting, Holding, Published}
use Rattle.history_lock.specs.Views.{ticket, heard, told}
use Rattle.history_lock.specs.Rule.{HasParts}
use Rattle.history_lock.specs.Known.{Known}

-- the journal of the value that the pass took last
abbrev pub held : {T : Type 0} → (T → List Entry) → List (ℕ × Option T) → List Entry
held journal [] = []
held journal (x ∷ xs) = elim (x.1) [ None ↦ [] | Some value ↦ journal value ]

module _ {T B : Type 0} where
  -- the pass is counted among those that sleep
  abbrev pub slept : Step (Option T) → Me (Option T) (View B) → ℕ → Me (Option T) (View B) → Type 0
  slept st m r n = n ≡ (record m.0 { stage = Sleeping }, m.1)

  -- it is counted there no longer
  abbrev pub rose : Step (Option T) → Me (Option T) (View B) → ℕ → Me (Option T) (View B) → Type 0
  rose st m r n = n ≡ (record m.0 { stage = Idle }, m.1)

  -- the pass has a ticket, which the word shows
  abbrev pub took : Step (Option T) → Me (Option T) (View B) → ℕ → Me (Option T) (View B) → Type 0
  took st m r n = (t : ℕ) × (t % 18446744073709551616 ≡ r) × (n ≡ (record m.0 { stage = Waiting t }, m.1))

  -- the turn has passed on, and the value is back
  abbrev pub passed : Step (Option T) → Me (Option T) (View B) → ℕ → Me (Option T) (View B) → Type 0
  passed st m r n = n ≡ (record m.0 { stage = Idle }, rest m.1)

  -- of the two journals that the pass has seen the longer begins with the other, and has no more entries of the numbers
  -- that came with each of them
  abbrev pub settled : Step (Option T) → Me (Option T) (View B) → ℕ → Me (Option T) (View B) → Type 0
  settled st m r n = (n ≡ (record m.0 { stage = Idle; seen = told m.0.stage m.0.seen }, m.1)) × IsPrefix m.0.seen (told m.0.stage m.0.seen) × IsPrefix (heard m.0.stage) (told m.0.stage m.0.seen) × HasParts m.0.numbers m.0.seen (told m.0.stage m.0.seen) m.0.stage

  -- the pass has seen the journal of the value that it holds
  abbrev pub published : (T → List Entry) → Step (Option T) → Me (Option T) (View B) → ℕ → Me (Option T) (View B) → Type 0
  published journal st m r n = n ≡ (record m.0 { stage = Published (ticket m.0.stage); seen = held journal m.1 }, m.1)

  -- where the word shows the pass's ticket, the pass has the value and knows it; elsewhere it is as before
  abbrev pub looked : (T → List Entry) → (T → B) → Step (Option T) → Me (Option T) (View B) → ℕ → Me (Option T) (View B) → Type 0
  looked journal base st m r n =
      (r ≡ ticket m.0.stage % 18446744073709551616 → (value : T) × (n ≡ (record m.0 { stage = Holding (ticket m.0.stage); seen = journal value }, (0, Some value) ∷ m.1)) × Known journal base value m.0)
      × (r ≢ ticket m.0.stage % 18446744073709551616 → n ≡ m)
