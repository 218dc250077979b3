-- Why a page leaves a working set. Source: Kenah and Bate, "VAX/VMS Internals and Data Structures", working set
-- replacement, the services $PURGWS and $DELTVA, and outswap; the five reasons are this project's own.
use Rattle.std.specs.Prelude.{◌≡◌, ℕ, true, List, Some}
use Rattle.vm_types.specs.declared.names.Addr.{Addr}
use Rattle.vm_types.specs.declared.config.Config.{Config}
use Rattle.vm_types.specs.declared.service.Request.TheVariants as request
use Rattle.vm_types.specs.declared.service.Service.TheVariants as service
use Rattle.vm_journal.specs.declared.entry.Entry.{Entry}
use Rattle.vm_journal.specs.declared.entry.EvictWhy.{EvictWhy}
use Rattle.vm_journal.specs.declared.entry.EvictWhy.TheVariants as evict
use Rattle.pager_model.specs.FlatService.{in_range}
use Rattle.pager_model.specs.Maps.{page_number}
use Rattle.pager_model.specs.Pager.{Pager}
use Rattle.pager_model.specs.Served.{AreMapped}
use Rattle.entry_causes.specs.NextRequest.{next_request}
use Rattle.entry_causes.specs.Wanted.{IsWanted}

-- the process's next request is a purge of a range with this page number
pub record IsToBePurged (config : Config) (past : List Entry) (p v : ℕ) : Type 0 where
  pub at : Addr
  pub pages : ℕ
  pub next : next_request config past p ≡ Some (request.Service (service.Purge at pages))
  pub inside : in_range at.0 pages v ≡ true

-- it is a deletion of such a range, and all of the range is mapped, so that it won't be refused
pub record IsToBeDeleted (config : Config) (past : List Entry) (a : Pager) (p v : ℕ) : Type 0 where
  pub at : Addr
  pub pages : ℕ
  pub next : next_request config past p ≡ Some (request.Service (service.Delete at pages))
  pub inside : in_range at.0 pages v ≡ true
  pub mapped : AreMapped config a p at.0 pages

-- by the reason that the entry gives: a page is wanted, for which legality says that the set is full and this one the
-- victim; a service; that the process leaves, and that the run is over, are told by legality alone
abbrev pub IsEvictCause : EvictWhy → Config → List Entry → Pager → ℕ → ℕ → Type 0
IsEvictCause evict.Replace config past a p address = (v : ℕ) × IsWanted config past a p v
IsEvictCause evict.Purge config past a p address = IsToBePurged config past p (page_number address)
IsEvictCause evict.Delete config past a p address = IsToBeDeleted config past a p (page_number address)
IsEvictCause evict.Leave config past a p address = Unit {0}
IsEvictCause evict.Rundown config past a p address = Unit {0}
