-- The service that locks, or unlocks, a range. This project's own.
use Rattle.std.specs.Prelude.{ℕ, Bool, true, false}
use Rattle.vm_types.specs.declared.names.Addr.{Addr}
use Rattle.vm_types.specs.declared.service.Service.{Service}
use Rattle.vm_types.specs.declared.service.Service.TheVariants as service

abbrev pub lock_service : Bool → Addr → ℕ → Service
lock_service true at pages = service.Lock at pages
lock_service false at pages = service.Unlock at pages
