-- DENIED: a reference is refused, with the flat machine's reason or for a lost carrier. This project's
-- own; access control violations by Kenah and Bate, "VAX/VMS Internals and Data Structures", paging.
use Rattle.std.specs.Prelude.{◌≡◌, ◌⊎◌, ℕ, false, ◌+◌, ◌*◌, ◌<◌, List, Some, length}
use Rattle.vm_types.specs.declared.limits.TheConstants.{PAGE_BYTES}
use Rattle.vm_types.specs.declared.names.Addr.{Addr}
use Rattle.vm_types.specs.declared.names.Page.{Page}
use Rattle.vm_types.specs.declared.names.Proc.{Proc}
use Rattle.vm_types.specs.declared.names.ProcStatus.TheVariants as status
use Rattle.vm_types.specs.declared.config.Config.{Config}
use Rattle.vm_types.specs.declared.reference.Ref.{Ref}
use Rattle.vm_types.specs.declared.reply.Why.{Why}
use Rattle.vm_types.specs.declared.reply.Why.TheVariants as why
use Rattle.vm_journal.specs.declared.entry.Entry.{Entry}
use Rattle.vm_journal.specs.declared.entry.Role.TheVariants as role
use Rattle.pager_model.specs.Carrier.{HasLost, carrying}
use Rattle.pager_model.specs.Flat.{flat_refusal}
use Rattle.pager_model.specs.Flights.{Flight, reading}
use Rattle.pager_model.specs.Lookups.{entries_at, is_pending, page_by}
use Rattle.pager_model.specs.Maps.{page_number}
use Rattle.pager_model.specs.Own.{IsResident}
use Rattle.pager_model.specs.Pager.{Pager}
use Rattle.pager_model.specs.Sets.{at_number}
use Rattle.pager_model.specs.Spoken.{flat_after}

abbrev pub IsFlatWhy : Why → Type 0
IsFlatWhy why.DiskFault = ⊥
IsFlatWhy other = Unit {0}

-- it is the flat machine's refusal, and no adjustment is pending
pub record IsDenied (config : Config) (past : List Entry) (a : Pager) (p : ℕ) (r : Ref) (reason : Why) : Type 0 where
  pub own : IsResident config a p
  pub flat_why : IsFlatWhy reason
  pub not_pending : is_pending config (a.references p) ≡ false
  pub refused : flat_refusal config (flat_after config past) p r ≡ Some reason

-- the seat's last carrier is lost; where it began with a read of role FAULT, that was for this page; and
-- the process isn't resident, or the page is mapped and its entry isn't valid
pub record IsDeniedFault (config : Config) (past : List Entry) (a : Pager) (p : ℕ) (r : Ref) (reason : Why) : Type 0 where
  pub lost : HasLost past p
  pub named : (x : Flight) (q : Proc) (at : Addr) → (carrying p past).first ≡ Some x → x.direction ≡ reading (role.Fault q at) → at.0 ≡ page_number (r.addr).0 * PAGE_BYTES
  pub fault : reason ≡ why.DiskFault
  pub process : p < length config.procs
  pub waits : (a.status p ≡ status.Resident → ⊥) ⊎ ((g : Page) × (page_by config a.map p (page_number (r.addr).0) ≡ Some g) × (entries_at a.valid p (page_number (r.addr).0) ≡ 0))

abbrev pub IsDenial : Config → List Entry → Pager → ℕ → Ref → Why → Type 0
IsDenial config past a p r reason = IsDenied config past a p r reason ⊎ IsDeniedFault config past a p r reason

-- one more reference
abbrev pub after_denied : Pager → ℕ → Pager
after_denied a p = record a { references = at_number a.references p (a.references p + 1) }
