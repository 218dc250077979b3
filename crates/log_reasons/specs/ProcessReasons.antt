-- What a condition that doesn't hold states, of the rows of limits, statuses and answered references: LIMIT, TURN and
-- DONE. This project's own.
use Rattle.std.specs.Prelude.{◌≡◌, ◌⊎◌, ◌≤◌, ℕ, true, false, List, Some, None, length, slice_get}
use Rattle.vm_types.specs.Adjust.{adjust}
use Rattle.vm_types.specs.Ring.{unpinned}
use Rattle.vm_types.specs.declared.config.Config.{Config}
use Rattle.vm_types.specs.declared.config.ProcSpec.{ProcSpec}
use Rattle.vm_types.specs.declared.names.BlockId.TheVariants as block
use Rattle.vm_types.specs.declared.names.Page.{Page}
use Rattle.vm_types.specs.declared.names.ProcStatus.{ProcStatus}
use Rattle.vm_types.specs.declared.names.ProcStatus.TheVariants as status
use Rattle.vm_types.specs.declared.reference.Ref.{Ref}
use Rattle.vm_journal.specs.declared.entry.Entry.{Entry}
use Rattle.pager_model.specs.Done.{Allows}
use Rattle.pager_model.specs.Flights.{is_busy, open_flights}
use Rattle.pager_model.specs.Lookups.{entry_of, is_pending}
use Rattle.pager_model.specs.Maps.{page_number, proc}
use Rattle.pager_model.specs.Pager.{Pager}
use Rattle.pager_model.specs.Transfers.{has_come}
use Rattle.log_reasons.specs.declared.reason.Reason.{Reason}
use Rattle.log_reasons.specs.declared.reason.Reason.TheVariants as reason
use Rattle.log_reasons.specs.OwnReasons.{OwnFails}

-- an adjustment is pending, and these are the faults and the limit of the rule
abbrev pub AdjustFails : Config → Pager → ℕ → ℕ → ℕ → Reason → Type 0
AdjustFails config a p n faults (reason.AdjustmentNotPending references) = (references ≡ a.references p) × (is_pending config references ≡ false)
AdjustFails config a p n faults (reason.WrongFaults right) = (right ≡ a.faults p) × (faults ≡ right → ⊥)
AdjustFails config a p n faults (reason.WrongLimit right) =
    (spec : ProcSpec) × (slice_get config.procs p ≡ Some spec) × (right ≡ adjust config.params spec (a.faults p) (a.limit p) (length a.free)) × (n ≡ right → ⊥)
AdjustFails config a p n faults other = ⊥

-- LIMIT
abbrev pub AdjustedFails : Config → Pager → ℕ → ℕ → ℕ → Reason → Type 0
AdjustedFails config a p n faults r = OwnFails config a p r ⊎ AdjustFails config a p n faults r

-- by the status that a process changes to
abbrev pub TurnedFails : List Entry → Pager → ℕ → ProcStatus → Reason → Type 0
TurnedFails past a p status.Leaving (reason.InOtherStatus s) = (s ≡ a.status p) × ((s ≡ status.Resident) ⊎ (s ≡ status.Coming) → ⊥)
TurnedFails past a p status.Leaving reason.SeatHasOpenTransfer = is_busy p (open_flights past) ≡ true
TurnedFails past a p status.Leaving reason.PageIsComing = has_come p (open_flights past) ≡ true
TurnedFails past a p status.Gone (reason.InOtherStatus s) = (s ≡ a.status p) × (s ≡ status.Leaving → ⊥)
TurnedFails past a p status.Gone (reason.PagesAreLeft n) = (n ≡ unpinned (a.ring p).slots) × (n ≡ 0 → ⊥)
TurnedFails past a p status.Coming (reason.InOtherStatus s) = (s ≡ a.status p) × (s ≡ status.Gone → ⊥)
TurnedFails past a p status.Coming reason.OtherIsComing = ((q : ℕ) → a.status q ≡ status.Coming → ⊥) → ⊥
TurnedFails past a p status.Resident (reason.InOtherStatus s) = (s ≡ a.status p) × (s ≡ status.Coming → ⊥)
TurnedFails past a p status.Resident reason.PagesAreSwapped = ((g : Page) (n : ℕ) → a.lies g ≡ Some (block.Swap (proc p) n) → ⊥) → ⊥
TurnedFails past a p s other = ⊥

abbrev pub ProcessFails : Config → ℕ → Reason → Type 0
ProcessFails config p (reason.NoSuchProcess n) = (n ≡ length config.procs) × (n ≤ p)
ProcessFails config p other = ⊥

-- TURN
abbrev pub TurnFails : Config → List Entry → Pager → ℕ → ProcStatus → Reason → Type 0
TurnFails config past a p s r = ProcessFails config p r ⊎ TurnedFails past a p s r

-- no adjustment is pending, the right is there, and the page is valid
abbrev pub AnsweredFails : Config → Pager → ℕ → Ref → Reason → Type 0
AnsweredFails config a p r (reason.AdjustmentIsPending references) = (references ≡ a.references p) × (is_pending config references ≡ true)
AnsweredFails config a p r reason.NotMapped = a.map p (page_number (r.addr).0) ≡ None
AnsweredFails config a p r reason.NotAllowed = Allows (a.map p (page_number (r.addr).0)) r → ⊥
AnsweredFails config a p r reason.PageNotValid = entry_of a.valid p (page_number (r.addr).0) ≡ None
AnsweredFails config a p r other = ⊥

-- DONE
abbrev pub DoneFails : Config → Pager → ℕ → Ref → Reason → Type 0
DoneFails config a p r why = OwnFails config a p why ⊎ AnsweredFails config a p r why
