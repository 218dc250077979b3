-- For which work the open transfers of a process's seat were begun. This project's own.
use Rattle.std.specs.Prelude.{◌≡◌, ℕ, Bool, true, false, List, ◌∷◌}
use Rattle.vm_types.specs.declared.service.Request.{Request}
use Rattle.vm_types.specs.declared.service.Request.TheVariants.{Reference}
use Rattle.vm_journal.specs.declared.entry.Entry.{Entry}
use Rattle.vm_journal.specs.declared.entry.Role.TheVariants as role
use Rattle.pager_model.specs.Flights.{Direction, Flight, reading, carrier_of}
use Rattle.pager_policy.specs.Given.{page_address}
use Rattle.pager_model.specs.Maps.{page_number, proc}
use Rattle.pager_model.specs.Transfers.{is_fault}
use Rattle.serial_laws.specs.Lost.{CarriesAll}

-- they are one carrier of which none has landed, the seat hasn't spoken since they began, and the first one is such
pub record CarriesFor (past : List Entry) (seat : ℕ) (Is : Direction → Type 0) : Type 0 where
  pub first : Flight
  pub more : List Flight
  pub carrier : carrier_of seat past ≡ first ∷ more
  pub carries : CarriesAll past seat first more
  pub kind : Is first.direction

-- no read of a page fault
abbrev pub IsNoFault : Direction → Type 0
IsNoFault d = is_fault d ≡ false

-- reads of a reference's own page begin with that page, and all other work begins with no read of a page fault
abbrev pub BeginsFor : ℕ → Request → Bool → Direction → Type 0
BeginsFor seat (Reference r) true d = d ≡ reading (role.Fault (proc seat) (page_address (page_number (r.addr).0)))
BeginsFor seat x own d = IsNoFault d

abbrev pub IsBegunFor : List Entry → ℕ → Request → Bool → Type 0
IsBegunFor past seat x own = CarriesFor past seat (BeginsFor seat x own)
