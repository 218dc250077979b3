-- The entries of some seats' numbers that a journal gets. A journal is a list of entries, the oldest first. This
-- project's own.
use Rattle.std.specs.Prelude.{◌≡◌, ℕ, Bool, false, List, [], ◌∷◌, ◌++◌, Option, Some, None, filter, nat_eq}
use Rattle.std.specs.List.{AllByRecursion, list_any}
use Rattle.vm_types.specs.declared.names.Seat.{Seat}
use Rattle.vm_types.specs.declared.service.Request.{Request}
use Rattle.vm_journal.specs.Journal.{is_answer}
use Rattle.vm_journal.specs.declared.entry.Entry.{Entry}
use Rattle.seat_turns.specs.Steps.{AnswersAs}
use Rattle.seat_turns.specs.declared.turned.Spoken.{Spoken}
use Rattle.seat_turns.specs.declared.turned.Turned.{Turned}
use Rattle.seat_turns.specs.declared.turned.Turned.TheVariants.{Spoke}

-- whether an entry is of one of the numbers; the entries that are
abbrev pub is_of : List ℕ → Entry → Bool
is_of numbers e = list_any (λ (k : ℕ). nat_eq k (e.seat).0) numbers

abbrev pub own_of : List ℕ → List Entry → List Entry
own_of numbers entries = filter (is_of numbers) entries

-- the journal goes on, and of its later entries those of these numbers are such
pub record GoesOnWith (Are : List Entry → Type 0) (numbers : List ℕ) (old new : List Entry) : Type 0 where
  pub later : List Entry
  pub whole : old ++ later ≡ new
  pub own : Are (own_of numbers later)

-- they answer no request
abbrev pub IsUnspoken : Entry → Type 0
IsUnspoken e = is_answer e.what ≡ false

abbrev pub AreSilent : List Entry → Type 0
AreSilent entries = AllByRecursion IsUnspoken entries

abbrev pub GoesOnSilently : List ℕ → List Entry → List Entry → Type 0
GoesOnSilently numbers old new = GoesOnWith AreSilent numbers old new

-- there are none, or some
abbrev pub IsNone : List Entry → Type 0
IsNone entries = entries ≡ []

abbrev pub IsSome : List Entry → Type 0
IsSome entries = entries ≡ [] → ⊥

abbrev pub MadeNone : List ℕ → List Entry → List Entry → Type 0
MadeNone numbers old new = GoesOnWith IsNone numbers old new

abbrev pub MadeSome : List ℕ → List Entry → List Entry → Type 0
MadeSome numbers old new = GoesOnWith IsSome numbers old new

-- the last of them is the seat's one answer to the request, and no other one answers anything
pub record EndsInAnswer (seat : Seat) (x : Request) (shown : Spoken) (entries : List Entry) : Type 0 where
  pub before : List Entry
  pub last : Entry
  pub entries_are : entries ≡ before ++ last ∷ []
  pub silent : AreSilent before
  pub seat_is : last.seat ≡ seat
  pub answer : AnswersAs x shown last.what

abbrev pub IsReplied : Seat → Request → List ℕ → List Entry → List Entry → Spoken → Type 0
IsReplied seat x numbers old new shown = GoesOnWith (EndsInAnswer seat x shown) numbers old new

-- what they answer after one turn
abbrev pub TurnEntries : Seat → Turned → Option Request → List Entry → Type 0
TurnEntries seat (Spoke shown) (Some x) entries = EndsInAnswer seat x shown entries
TurnEntries seat (Spoke shown) None entries = ⊥
TurnEntries seat other o entries = AreSilent entries
