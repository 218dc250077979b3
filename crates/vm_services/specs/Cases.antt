-- The cases of a service, one after another, on a history. This project's own.
use Rattle.std.specs.Prelude.{ℕ, None}
use Rattle.vm_types.specs.declared.names.Addr.{Addr}
use Rattle.vm_types.specs.declared.names.Seat.{Seat}
use Rattle.vm_types.specs.declared.service.Service.{Service}
use Rattle.vm_journal.specs.declared.entry.EvictWhy.{EvictWhy}
use Rattle.pager_model.specs.Lookups.{entry_of}
use Rattle.pager_policy.specs.Serve.{GivenServe, delete_given, evict_given, service_gives, valid_in}
use Rattle.vm_state.specs.History.{History, pager}

-- a service of a resident process
abbrev pub at_service : History → Seat → Service → GivenServe
at_service s seat x = service_gives s.config s.past (pager s) seat.0 x

-- a deletion of a range that is mapped
abbrev pub at_delete : History → Seat → Addr → ℕ → GivenServe
at_delete s seat at pages = delete_given s.config s.past (pager s) seat.0 at pages (valid_in (pager s) seat.0 at.0 pages)

-- and of one in which no page is valid
abbrev pub at_rest : History → Seat → Addr → ℕ → GivenServe
at_rest s seat at pages = delete_given s.config s.past (pager s) seat.0 at pages None

-- an eviction of a valid page
abbrev pub at_evict : History → Seat → ℕ → EvictWhy → GivenServe
at_evict s seat v why = evict_given s.config s.past (pager s) seat.0 v why (entry_of (pager s).valid seat.0 v)
