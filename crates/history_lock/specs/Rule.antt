-- The rule of the lock: what its words, its value and all views keep. Source: this project's own.
use Rattle.std.specs.Prelude.{◌≡◌, ℕ, ◌+◌, ◌%◌, ◌<◌, ◌≤◌, List, [], ◌∷◌, length, Option as StdOption, Some, None, Contains}
use mathlib.Core.Option.{Option, some, none}
use mathlib.Core.List.{IsPrefix}
use lib.ListN.{get_elem?}
use Rattle.atomic_table.specs.Table.{State}
use Rattle.vm_journal.specs.declared.entry.Entry.{Entry}
use Rattle.vm_journal.specs.Own.{own_entries}
use Rattle.history_lock.specs.declared.view.View.{View}
use Rattle.history_lock.specs.declared.stage.Stage.{Stage}
use Rattle.history_lock.specs.declared.stage.Stage.TheVariants.{Idle, Sleeping, Joined, Waiting, Holding, Published, Spent}
use Rattle.history_lock.specs.Views.{tickets, sleeps, heard, told, IsAway, IsLive}

abbrev pub total : {A : Type 0} → (A → ℕ) → List A → ℕ
total f [] = 0
total f (x ∷ xs) = f x + total f xs

-- A view's ticket is one from `serving` on and below `next`, and `holder` names the view of each. The view that is inside has the ticket `serving`.
abbrev pub HasTicket : (ℕ → ℕ) → StdOption ℕ → ℕ → ℕ → ℕ → Stage → Type 0
HasTicket holder inside serving next j Idle = Unit {0}
HasTicket holder inside serving next j Sleeping = Unit {0}
HasTicket holder inside serving next j (Joined ys ks ms) = Unit {0}
HasTicket holder inside serving next j (Waiting t) = (serving ≤ t) × (t < next) × (holder t ≡ j)
HasTicket holder inside serving next j (Holding t) = (t ≡ serving) × (t < next) × (holder t ≡ j) × (inside ≡ Some j)
HasTicket holder inside serving next j (Published t) = (t ≡ serving) × (t < next) × (holder t ≡ j) × (inside ≡ Some j)
HasTicket holder inside serving next j Spent = Unit {0}

-- The pass has this ticket.
abbrev pub IsTicketOf : ℕ → Stage → Type 0
IsTicketOf t Idle = ⊥
IsTicketOf t Sleeping = ⊥
IsTicketOf t (Joined ys ks ms) = ⊥
IsTicketOf t (Waiting own) = own ≡ t
IsTicketOf t (Holding own) = own ≡ t
IsTicketOf t (Published own) = own ≡ t
IsTicketOf t Spent = ⊥

-- Of a pass that has just taken in another one: what each of the two had seen has all entries of the numbers that it had.
abbrev pub HasParts : List ℕ → List Entry → List Entry → Stage → Type 0
HasParts numbers seen present Idle = Unit {0}
HasParts numbers seen present Sleeping = Unit {0}
HasParts numbers seen present (Joined ys ks ms) =
    ((k : ℕ) → Contains numbers k → Contains ks k → own_entries k present ≡ own_entries k seen)
    × ((k : ℕ) → Contains numbers k → Contains ms k → own_entries k present ≡ own_entries k ys)
HasParts numbers seen present (Waiting t) = Unit {0}
HasParts numbers seen present (Holding t) = Unit {0}
HasParts numbers seen present (Published t) = Unit {0}
HasParts numbers seen present Spent = Unit {0}

-- What holds of the view at place j. All live views have the lock's base and own a number. `owner` names the view of
-- each number. What a view has seen begins the present journal, and has all entries of its numbers there.
pub record Fits {B : Type 0} (b : B) (seats : ℕ) (owner holder : ℕ → ℕ) (inside : StdOption ℕ) (serving next : ℕ) (present : List Entry) (j : ℕ) (v : View B) : Type 0 where
  pub live : IsLive v.stage → (v.base ≡ Some b) × (0 < length v.numbers)
  pub mine : (k : ℕ) → Contains v.numbers k → (owner k ≡ j) × (k < seats)
  pub ticket : HasTicket holder inside serving next j v.stage
  pub seen : IsPrefix v.seen present
  pub heard : IsPrefix (heard v.stage) present
  pub own : (k : ℕ) → Contains v.numbers k → own_entries k present ≡ own_entries k (told v.stage v.seen)
  pub parts : HasParts v.numbers v.seen present v.stage

module _ {T B : Type 0} (journal : T → List Entry) (base : T → B) where
  -- The value is at home and has the present journal, or it is away with a view that knows this journal.
  abbrev pub HasSlot : StdOption ℕ → B → List Entry → List (Option (StdOption T)) → List (View B) → Type 0
  HasSlot None b present homes views = (value : T) × (homes ≡ some (Some value) ∷ []) × (base value ≡ b) × (journal value ≡ present)
  HasSlot (Some i) b present homes views = (v : View B) × (get_elem? views i ≡ some v) × IsAway v.stage × (v.seen ≡ present) × (homes ≡ none ∷ [])

  -- Word 0 is the next ticket, word 1 the ticket that is served, word 2 the length of the present journal, and word 3 the
  -- number of passes that are counted among those that sleep, each modulo 2^64.
  pub record Serves (b : B) (seats : ℕ) (s : State (StdOption T) (View B)) : Type 0 where
    pub next : ℕ
    pub serving : ℕ
    pub asleep : ℕ
    pub present : List Entry
    pub owner : ℕ → ℕ
    pub holder : ℕ → ℕ
    pub inside : StdOption ℕ
    pub words : s.words ≡ next % 18446744073709551616 ∷ serving % 18446744073709551616 ∷ length present % 18446744073709551616 ∷ asleep % 18446744073709551616 ∷ []
    pub few : seats < 4294967296
    pub out : next ≡ serving + total (λ v. tickets v.stage) s.views
    pub counted : total (λ v. sleeps v.stage) s.views ≡ asleep
    pub many : total (λ v. length v.numbers) s.views ≡ seats
    pub each : (j : ℕ) (v : View B) → get_elem? s.views j ≡ some v → Fits b seats owner holder inside serving next present j v
    pub owned : (k : ℕ) → k < seats → (v : View B) × (get_elem? s.views (owner k) ≡ some v) × Contains v.numbers k
    pub held : (t : ℕ) → serving ≤ t → t < next → (v : View B) × (get_elem? s.views (holder t) ≡ some v) × IsTicketOf t v.stage
    pub slot : HasSlot inside b present s.homes s.views
    pub theirs : (k : ℕ) → seats ≤ k → own_entries k present ≡ []
