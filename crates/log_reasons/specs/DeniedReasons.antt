-- What a condition that doesn't hold states, of the row DENIED. This project's own.
use Rattle.std.specs.Prelude.{◌≡◌, ◌⊎◌, ◌*◌, ◌≤◌, ℕ, true, List, Some, None, length}
use Rattle.vm_types.specs.declared.limits.TheConstants.{PAGE_BYTES}
use Rattle.vm_types.specs.declared.config.Config.{Config}
use Rattle.vm_types.specs.declared.names.Proc.{Proc}
use Rattle.vm_types.specs.declared.names.ProcStatus.TheVariants as status
use Rattle.vm_types.specs.declared.reference.Ref.{Ref}
use Rattle.vm_types.specs.declared.reply.Why.{Why}
use Rattle.vm_types.specs.declared.reply.Why.TheVariants as why
use Rattle.vm_journal.specs.declared.entry.Entry.{Entry}
use Rattle.vm_journal.specs.declared.entry.Role.{Role}
use Rattle.vm_journal.specs.declared.entry.Role.TheVariants as role
use Rattle.pager_model.specs.Carrier.{HasLost, carrying}
use Rattle.pager_model.specs.Flat.{flat_refusal}
use Rattle.pager_model.specs.Flights.{Direction, Flight, reading, writing}
use Rattle.pager_model.specs.Lookups.{entries_at, is_pending, page_by}
use Rattle.pager_model.specs.Maps.{page_number}
use Rattle.pager_model.specs.Pager.{Pager}
use Rattle.pager_model.specs.Spoken.{flat_after}
use Rattle.log_reasons.specs.declared.reason.Reason.{Reason}
use Rattle.log_reasons.specs.declared.reason.Reason.TheVariants as reason
use Rattle.log_reasons.specs.OwnReasons.{OwnFails}

-- no adjustment is pending, and the flat machine refuses the reference with these words
abbrev pub RefusedFails : Config → List Entry → Pager → ℕ → Ref → Why → Reason → Type 0
RefusedFails config past a p r word (reason.AdjustmentIsPending references) = (references ≡ a.references p) × (is_pending config references ≡ true)
RefusedFails config past a p r word (reason.RefusedOtherwise o) = (o ≡ flat_refusal config (flat_after config past) p r) × (o ≡ Some word → ⊥)
RefusedFails config past a p r word other = ⊥

-- the seat is a process's, whose last carrier is lost
abbrev pub LostFails : Config → List Entry → ℕ → Reason → Type 0
LostFails config past p (reason.NoSuchProcess n) = (n ≡ length config.procs) × (n ≤ p)
LostFails config past p reason.CarrierNotLost = HasLost past p → ⊥
LostFails config past p other = ⊥

-- a read, where it was for a fault, was for the page of the address
abbrev pub RoleForFails : Role → ℕ → Reason → Type 0
RoleForFails r address (reason.LostOtherPage at) = (q : Proc) × (r ≡ role.Fault q at) × (at.0 ≡ page_number address * PAGE_BYTES → ⊥)
RoleForFails r address other = ⊥

abbrev pub WayForFails : Direction → ℕ → Reason → Type 0
WayForFails (reading r) address x = RoleForFails r address x
WayForFails writing address x = ⊥

-- so was the seat's carrier's first
abbrev pub LostForFails : List Entry → ℕ → ℕ → Reason → Type 0
LostForFails past p address x = (y : Flight) × ((carrying p past).first ≡ Some y) × WayForFails y.direction address x

-- the process isn't resident, or the page is mapped and not valid
abbrev pub WaitsForFails : Config → Pager → ℕ → ℕ → Reason → Type 0
WaitsForFails config a p v reason.NotMapped = (a.status p ≡ status.Resident) × (page_by config a.map p v ≡ None)
WaitsForFails config a p v reason.PageIsValid = (a.status p ≡ status.Resident) × (entries_at a.valid p v ≡ 0 → ⊥)
WaitsForFails config a p v other = ⊥

-- for a lost carrier
abbrev pub DeniedFaultFails : Config → List Entry → Pager → ℕ → Ref → Reason → Type 0
DeniedFaultFails config past a p r x =
    LostFails config past p x ⊎ (LostForFails past p (r.addr).0 x ⊎ WaitsForFails config a p (page_number (r.addr).0) x)

abbrev pub FlatDeniedFails : Config → List Entry → Pager → ℕ → Ref → Why → Reason → Type 0
FlatDeniedFails config past a p r word x = OwnFails config a p x ⊎ RefusedFails config past a p r word x

-- DENIED, by its words
abbrev pub DeniedFails : Why → Config → List Entry → Pager → ℕ → Ref → Reason → Type 0
DeniedFails why.DiskFault config past a p r x = DeniedFaultFails config past a p r x
DeniedFails why.Unmapped config past a p r x = FlatDeniedFails config past a p r why.Unmapped x
DeniedFails why.Protected config past a p r x = FlatDeniedFails config past a p r why.Protected x
DeniedFails why.PageFileFull config past a p r x = FlatDeniedFails config past a p r why.PageFileFull x
