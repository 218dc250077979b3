-- The reads that a seat has begun for a reference, and that they were lost. This project's own.
use Rattle.std.specs.Prelude.{◌≡◌, ℕ, ◌*◌, List, ◌∷◌, Some}
use Rattle.vm_types.specs.declared.limits.TheConstants.{PAGE_BYTES}
use Rattle.vm_types.specs.declared.names.Addr.{Addr}
use Rattle.vm_types.specs.declared.names.Proc.{Proc}
use Rattle.vm_types.specs.declared.reference.Ref.{Ref}
use Rattle.vm_journal.specs.declared.entry.Entry.{Entry}
use Rattle.vm_journal.specs.declared.entry.Role.TheVariants as role
use Rattle.pager_model.specs.Carrier.{HasLost, carrying}
use Rattle.pager_model.specs.Flights.{Flight, reading, carrier_of}
use Rattle.pager_policy.specs.Given.{page_address}
use Rattle.pager_model.specs.Maps.{page_number, proc}
use Rattle.serial_laws.specs.Lost.{CarriesAll}

-- none of them has landed, and the first one is of the reference's own page
pub record IsReadFor (past : List Entry) (seat : ℕ) (r : Ref) : Type 0 where
  pub first : Flight
  pub more : List Flight
  pub carries : CarriesAll past seat first more
  pub carrier : carrier_of seat past ≡ first ∷ more
  pub own_page : first.direction ≡ reading (role.Fault (proc seat) (page_address (page_number (r.addr).0)))

-- they have landed, and the seat may refuse the reference
pub record IsLost (past : List Entry) (seat : ℕ) (r : Ref) : Type 0 where
  pub lost : HasLost past seat
  pub named : (x : Flight) (q : Proc) (at : Addr) → (carrying seat past).first ≡ Some x → x.direction ≡ reading (role.Fault q at) → at.0 ≡ page_number (r.addr).0 * PAGE_BYTES
