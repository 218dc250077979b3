-- The rows of the PFN database. Source: Kenah and Bate, "VAX/VMS Internals and Data Structures",
-- the PFN database: page state, reference count, share count, working set list index. That a frame
-- has at most one open transfer, and that only an active one has shares, is this project's own.
use Rattle.std.specs.Prelude.{◌≡◌, ℕ, ◌≢◌, ◌⊎◌, ⊤, ◌+◌, ◌-◌, ◌≤◌, ◌^◌, ◌==◌, Bool, true, false, ◌&&◌, if◌then◌else◌, List, [], ◌∷◌, Option, None, Some, IsSome}
use Rattle.vm_types.specs.declared.names.FrameState.{FrameState}
use Rattle.vm_types.specs.declared.names.FrameState.TheVariants.{Free, Modified, Bad, ReleasePending, ReadError, Writing, Reading, Active}
use Rattle.vm_types.specs.declared.names.Page.{Page}
use Rattle.vm_types.specs.declared.names.Page.TheVariants.{Private, Shared}
use Rattle.pfn_database.specs.declared.row.Row.{Row}

-- the row of a bad frame
abbrev pub bad_row : Row
bad_row = record { state = Bad; page = None; modify = false; refs = 0; shares = 0; slot = 0; flights = 0 }

-- the row of a free frame that holds no page
abbrev pub empty_row : Row
empty_row = record { state = Free; page = None; modify = false; refs = 0; shares = 0; slot = 0; flights = 0 }

-- the state is one of these
abbrev pub IsOneOf : List FrameState → FrameState → Type 0
IsOneOf [] state = ⊥
IsOneOf (one ∷ others) state = (state ≡ one) ⊎ IsOneOf others state

-- the states of a frame that is on no list, and neither bad nor in read error
abbrev pub states_in_use : List FrameState
states_in_use = Active ∷ Writing ∷ ReleasePending ∷ Reading ∷ []

-- modify is set in a Modified frame, and clear in one that is Free, Bad, Reading or ReadError
abbrev pub FitsModify : FrameState → Bool → Type 0
FitsModify Modified modify = modify ≡ true
FitsModify Free modify = modify ≡ false
FitsModify Bad modify = modify ≡ false
FitsModify Reading modify = modify ≡ false
FitsModify ReadError modify = modify ≡ false
FitsModify Active modify = ⊤
FitsModify Writing modify = ⊤
FitsModify ReleasePending modify = ⊤

-- a Bad frame holds no page, a Free one may, and each other one does
abbrev pub FitsPage : FrameState → Option Page → Type 0
FitsPage Bad page = page ≡ None
FitsPage Free page = ⊤
FitsPage Modified page = IsSome page
FitsPage Reading page = IsSome page
FitsPage ReadError page = IsSome page
FitsPage Active page = IsSome page
FitsPage Writing page = IsSome page
FitsPage ReleasePending page = IsSome page

-- the references that are counted: one for the shares together, and one for each open transfer
abbrev pub counted_references : ℕ → ℕ → ℕ
counted_references shares flights = (if shares == 0 then 0 else 1) + flights

-- a frame has the references that are counted, and may have others: one for each pin. How many pins
-- it has, the database doesn't know; there are at most 2^31 of them
abbrev pub FitsReferences : ℕ → ℕ → Type 0
FitsReferences references counted = (counted ≤ references) × (references ≤ counted + 2 ^ 31)

-- the references of a row that aren't counted: one for each pin
abbrev pub uncounted : Row → ℕ
uncounted row = row.refs - counted_references row.shares row.flights

-- the row once there is one reference more, and one less
abbrev pub held : Row → Row
held row = record row { refs = row.refs + 1 }

abbrev pub unheld : Row → Row
unheld row = record row { refs = row.refs - 1 }

-- a shared page has no ring slot
abbrev pub FitsSlotIndex : Option Page → ℕ → Type 0
FitsSlotIndex (Some (Shared section index)) slot = slot ≡ 0
FitsSlotIndex (Some (Private process page)) slot = ⊤
FitsSlotIndex None slot = ⊤

-- what every row keeps
pub record IsRow (row : Row) : Type 0 where
  pub refs : FitsReferences row.refs (counted_references row.shares row.flights)
  pub flights : row.flights ≤ 1
  pub modify : FitsModify row.state row.modify
  pub page : FitsPage row.state row.page
  pub slot : FitsSlotIndex row.page row.slot
  pub shared : row.state ≢ Active → (row.shares ≡ 0) × (row.slot ≡ 0)
  pub listed : IsOneOf (Free ∷ Modified ∷ Bad ∷ []) row.state → row.flights ≡ 0

-- the row once one valid entry more is for the frame: the first one is a reference
abbrev pub shared : Row → Row
shared row = record row {
  refs = if row.shares == 0 then row.refs + 1 else row.refs;
  shares = row.shares + 1;
}

-- the row once one valid entry less is for the frame: the last one clears the slot, and leaves a
-- frame that is being written to be released once it is
abbrev pub unshared : Row → Row
unshared row =
    let last = row.shares == 1 in
    record row {
      state = if last && (row.flights == 1) then ReleasePending else row.state;
      refs = if last then row.refs - 1 else row.refs;
      shares = row.shares - 1;
      slot = if last then 0 else row.slot;
    }

-- a listed frame whose page is written is Writing; every other one keeps its state
abbrev pub state_in_transfer : FrameState → FrameState
state_in_transfer Modified = Writing
state_in_transfer state = state
