-- What a pass knows, as its lock's steps change it. Source: this project's own.
use Rattle.std.specs.Prelude.{ℕ, List, [], ◌∷◌, ◌++◌, length, nat_lt, if◌then◌else◌, Some, None}
use Rattle.std.specs.List.{range_with_len}
use Rattle.vm_journal.specs.declared.entry.Entry.{Entry}
use Rattle.history_lock.specs.declared.view.View.{View}
use Rattle.history_lock.specs.declared.stage.Stage.{Stage}
use Rattle.history_lock.specs.declared.stage.Stage.TheVariants.{Idle, Sleeping, Joined, Waiting, Holding, Published, Spent}

-- the first of two journals, or the second if that is longer
abbrev pub longer : List Entry → List Entry → List Entry
longer xs ys = if nat_lt (length xs) (length ys) then ys else xs

abbrev pub ticket : Stage → ℕ
ticket Idle = 0
ticket Sleeping = 0
ticket (Joined ys ks ms) = 0
ticket (Waiting t) = t
ticket (Holding t) = t
ticket (Published t) = t
ticket Spent = 0

-- how many tickets a pass has
abbrev pub tickets : Stage → ℕ
tickets Idle = 0
tickets Sleeping = 0
tickets (Joined ys ks ms) = 0
tickets (Waiting t) = 1
tickets (Holding t) = 1
tickets (Published t) = 1
tickets Spent = 0

-- how often a pass is counted among those that sleep
abbrev pub sleeps : Stage → ℕ
sleeps Idle = 0
sleeps Sleeping = 1
sleeps (Joined ys ks ms) = 0
sleeps (Waiting t) = 0
sleeps (Holding t) = 0
sleeps (Published t) = 0
sleeps Spent = 0

-- the journal that the pass which was taken in has seen
abbrev pub heard : Stage → List Entry
heard Idle = []
heard Sleeping = []
heard (Joined ys ks ms) = ys
heard (Waiting t) = []
heard (Holding t) = []
heard (Published t) = []
heard Spent = []

-- the longer of the journals that a pass has seen itself and by the pass which it took in
abbrev pub told : Stage → List Entry → List Entry
told Idle xs = xs
told Sleeping xs = xs
told (Joined ys ks ms) xs = longer xs ys
told (Waiting t) xs = xs
told (Holding t) xs = xs
told (Published t) xs = xs
told Spent xs = xs

-- the value is away with the pass
abbrev pub IsAway : Stage → Type 0
IsAway Idle = ⊥
IsAway Sleeping = ⊥
IsAway (Joined ys ks ms) = ⊥
IsAway (Waiting t) = ⊥
IsAway (Holding t) = Unit {0}
IsAway (Published t) = Unit {0}
IsAway Spent = ⊥

abbrev pub IsLive : Stage → Type 0
IsLive Idle = Unit {0}
IsLive Sleeping = Unit {0}
IsLive (Joined ys ks ms) = Unit {0}
IsLive (Waiting t) = Unit {0}
IsLive (Holding t) = Unit {0}
IsLive (Published t) = Unit {0}
IsLive Spent = ⊥

-- the first of some numbers, and the others
abbrev pub first_of : List ℕ → List ℕ
first_of [] = []
first_of (k ∷ ks) = k ∷ []

abbrev pub others_of : List ℕ → List ℕ
others_of [] = []
others_of (k ∷ ks) = ks

module _ {B : Type 0} where
  -- a pass that has seen nothing and owns these numbers
  abbrev pub unseen : List ℕ → B → View B
  unseen numbers b = record { stage = Idle; seen = []; numbers = numbers; base = Some b }

  -- the first pass owns the numbers below n
  abbrev pub starting : B → ℕ → View B
  starting b n = unseen (range_with_len 0 n) b

  -- a split leaves the first number and gives the others away
  abbrev pub kept : View B → View B
  kept v = record v { numbers = first_of v.numbers }

  abbrev pub given : View B → View B
  given v = record v { stage = Idle; seen = []; numbers = others_of v.numbers }

  -- a join gives the first pass both sets of numbers, and it keeps both journals
  abbrev pub merged : View B → View B → View B
  merged v w = record v { stage = Joined w.seen v.numbers w.numbers; numbers = v.numbers ++ w.numbers }

  abbrev pub gone : View B
  gone = record { stage = Spent; seen = []; numbers = []; base = None }
