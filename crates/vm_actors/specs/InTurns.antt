-- The turns in which a seat's entries are made, with other seats' entries between them. A journal is a list of entries,
-- the oldest first; a past is one with the newest first. This project's own.
use Rattle.std.specs.Prelude.{◌≡◌, ◌≢◌, ◌⊎◌, ℕ, zero, suc, List, ◌∷◌, ◌++◌, Option, Some, None, reverse}
use Rattle.vm_types.specs.declared.config.Config.{Config}
use Rattle.vm_types.specs.declared.service.Request.{Request}
use Rattle.vm_journal.specs.declared.entry.Entry.{Entry}
use Rattle.vm_journal.specs.declared.entry.What.{What}
use Rattle.pager_model.specs.Order.{answered, requests_of}
use Rattle.pager_policy.specs.Given.{made_by}
use Rattle.entry_causes.specs.NextRequest.{next_request}
use Rattle.seat_steps.specs.Turns.{HasStepped, IsDue}
use Rattle.vm_state.specs.declared.base.StateBase.{StateBase}
use Rattle.vm_actors.specs.declared.doing.Doing.{Doing}
use Rattle.vm_actors.specs.declared.doing.Doing.TheVariants.{Asking}

-- one turn of the seat, for what is due, leads from a past to a longer one; all its entries are the seat's
pub record IsOwnTurn (config : Config) (seat : ℕ) (past more : List Entry) : Type 0 where
  pub request : Option Request
  pub due : IsDue config past seat request
  pub stepped : HasStepped config past more seat request
  pub made : List What
  pub own : more ≡ made_by seat made past

-- one entry of another seat does
pub record IsOthersEntry (seat : ℕ) (past more : List Entry) : Type 0 where
  pub entry : Entry
  pub other : (entry.seat).0 ≢ seat
  pub is : more ≡ entry ∷ past

-- so many of these, one after another, lead from a first past to this one
pub record IsAfterOne (config : Config) (seat : ℕ) (Before : List Entry → Type 0) (past : List Entry) : Type 0 where
  pub earlier : List Entry
  pub before : Before earlier
  pub last : IsOthersEntry seat earlier past ⊎ IsOwnTurn config seat earlier past

abbrev pub IsAfter : Config → ℕ → List Entry → ℕ → List Entry → Type 0
IsAfter config seat first zero past = past ≡ first
IsAfter config seat first (suc n) past = IsAfterOne config seat (IsAfter config seat first n) past

-- from one past to another each entry of the seat is made in such a turn
pub record GoesInTurns (config : Config) (seat : ℕ) (first past : List Entry) : Type 0 where
  pub count : ℕ
  pub after : IsAfter config seat first count past

-- so from one journal to another, on the base that a pass knows
abbrev pub MadeInTurns : Option StateBase → ℕ → List Entry → List Entry → Type 0
MadeInTurns None seat old new = ⊥
MadeInTurns (Some b) seat old new = GoesInTurns b.config seat (reverse old) (reverse new)

-- after a journal this is the process's next request; what the seat does is due
abbrev pub IsNext : Option StateBase → ℕ → Request → List Entry → Type 0
IsNext None p x journal = ⊥
IsNext (Some b) p x journal = next_request b.config (reverse journal) p ≡ Some x

abbrev pub IsDueFor : Doing → Option StateBase → List Entry → Type 0
IsDueFor (Asking p x) base journal = IsNext base p.0 x journal
IsDueFor other base journal = Unit {0}

-- these are all of the process's requests in the body that aren't answered
abbrev pub AreLeft : Option StateBase → ℕ → List Request → List Entry → Type 0
AreLeft None p work journal = ⊥
AreLeft (Some b) p work journal = answered p (reverse journal) ++ work ≡ requests_of p b.config.body
