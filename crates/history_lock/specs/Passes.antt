-- What clauses say of a pass, its turn and its lock. Source: this project's own.
use Rattle.std.specs.Prelude.{◌≡◌, ℕ, List, [], ◌∷◌, length, Option, None}
use Rattle.vm_journal.specs.declared.entry.Entry.{Entry}
use Rattle.history_lock.specs.declared.lock.HistoryLock.{HistoryLock}
use Rattle.history_lock.specs.declared.pass.Pass.{Pass}
use Rattle.history_lock.specs.declared.stage.Stage.TheVariants.{Idle, Holding}
use Rattle.history_lock.specs.declared.turn.Turn.{Turn}
use Rattle.history_lock.specs.declared.view.View.{View}

module _ {T B : Type 0} where
  -- what a pass knows
  abbrev pub view : Pass T B → View B
  view pass = pass.seat.me.0

  -- the journal that it has seen
  abbrev pub seen : Pass T B → List Entry
  seen pass = pass.seat.me.0.seen

  -- the numbers that it owns
  abbrev pub numbers : Pass T B → List ℕ
  numbers pass = pass.seat.me.0.numbers

  -- the base of its lock's value
  abbrev pub base_of : Pass T B → Option B
  base_of pass = pass.seat.me.0.base

  -- it has no turn
  abbrev pub IsIdle : Pass T B → Type 0
  IsIdle pass = (pass.seat.me.0.stage ≡ Idle) × (pass.seat.me.1 ≡ [])

  -- it has this turn, which found the journal that the pass has seen
  abbrev pub HasTurn : Pass T B → Turn T → Type 0
  HasTurn pass turn = (t : ℕ) × (pass.seat.me.0.stage ≡ Holding t) × (pass.seat.me.1 ≡ (0, None) ∷ []) × (turn.found ≡ length pass.seat.me.0.seen)

  -- two passes of one lock
  abbrev pub IsSameLock : Pass T B → Pass T B → Type 0
  IsSameLock old new = new.seat.table_id ≡ old.seat.table_id

  -- it is a pass of the lock
  abbrev pub IsOf : HistoryLock T B → Pass T B → Type 0
  IsOf lock pass = pass.seat.table_id ≡ lock.table.shared.table_id

  -- how many passes the lock was made with
  abbrev pub passes_of : HistoryLock T B → ℕ
  passes_of lock = lock.table.shared.key.passes

  -- it is an idle pass of the lock that owns the number k alone
  abbrev pub OwnsOnly : HistoryLock T B → Pass T B → ℕ → Type 0
  OwnsOnly lock pass k = IsOf lock pass × IsIdle pass × (numbers pass ≡ k ∷ [])
