-- The services that change the state, and what they change of a range of pages. Source: Kenah and Bate,
-- "VAX/VMS Internals and Data Structures", memory management system services.
use Rattle.std.specs.Prelude.{ℕ, Bool, true, false, ◌&&◌, nat_eq, if◌then◌else◌}
use Rattle.vm_types.specs.declared.names.Addr.{Addr}
use Rattle.vm_types.specs.declared.reply.Answer.{Answer}
use Rattle.vm_types.specs.declared.reply.Answer.TheVariants as answer
use Rattle.vm_types.specs.declared.service.Service.{Service}
use Rattle.vm_types.specs.declared.service.Service.TheVariants as service
use Rattle.pte_forms.specs.declared.pte.Pte.{Pte}
use Rattle.pager_model.specs.FlatService.{in_range}

-- whether a service with this answer changes the state
abbrev pub is_serving : Service → Answer → Bool
is_serving (service.Create at pages prot) answer.Good = true
is_serving (service.Delete at pages) answer.Good = true
is_serving (service.Protect at pages prot) answer.Good = true
is_serving (service.Lock at pages) (answer.Count n) = true
is_serving (service.Unlock at pages) (answer.Count n) = true
is_serving (service.Pin at pages) (answer.Count n) = true
is_serving (service.Unpin at pages) (answer.Count n) = true
is_serving (service.Adjust n) answer.Good = true
is_serving s other = false

-- the service that pins, or unpins, the pages of a range
abbrev pub pin_service : Bool → Addr → ℕ → Service
pin_service true at pages = service.Pin at pages
pin_service false at pages = service.Unpin at pages

-- an entry with another protection code
abbrev pub with_code : ℕ → Pte → Pte
with_code prot pte = record pte { prot = prot }

-- what each page has, once it changed for the pages of a process's range
abbrev pub ranged : {X : Type 0} → (X → X) → ℕ → ℕ → ℕ → (ℕ → ℕ → X) → ℕ → ℕ → X
ranged change p address pages f q w = if nat_eq p q && in_range address pages w then change (f q w) else f q w
