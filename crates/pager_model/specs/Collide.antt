-- COLLIDE: a fault on a page that is being read by another seat waits; each read is named once. Source:
-- Kenah and Bate, "VAX/VMS Internals and Data Structures", paging dynamics, collided page faults.
use Rattle.std.specs.Prelude.{◌≡◌, ℕ, true, List, Some, find}
use Rattle.vm_types.specs.declared.names.Page.{Page}
use Rattle.vm_types.specs.declared.config.Config.{Config}
use Rattle.vm_journal.specs.declared.entry.Entry.{Entry}
use Rattle.pager_model.specs.Flights.{Flight, is_reading, open_flights}
use Rattle.pager_model.specs.Lookups.{page_by}
use Rattle.pager_model.specs.Maps.{page_number}
use Rattle.pager_model.specs.Own.{IsResident}
use Rattle.pager_model.specs.Pager.{Pager}
use Rattle.pager_model.specs.Sets.{at_number}
use Rattle.pager_model.specs.Transfers.{starts}

pub record IsCollide (config : Config) (past : List Entry) (a : Pager) (p address f k : ℕ) : Type 0 where
  pub own : IsResident config a p
  pub flight : Flight
  pub open_k : find (starts k) (open_flights past) ≡ Some flight
  pub frame : flight.frame ≡ f
  pub reads : is_reading flight.direction ≡ true
  pub other : flight.seat ≡ p → ⊥
  pub page : Page
  pub mapped : page_by config a.map p (page_number address) ≡ Some page
  pub holds : a.page f ≡ Some page
  pub not_named : a.collided p ≡ Some k → ⊥

abbrev pub after_collide : Pager → ℕ → ℕ → Pager
after_collide a p k = record a { collided = at_number a.collided p (Some k) }
