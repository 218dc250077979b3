-- What an entry's change asks of the pager's tables. This project's own.
use Rattle.std.specs.Prelude.{◌≡◌, ℕ, Bool, true, false, ◌<◌, List, Some, find}
use Rattle.vm_types.specs.WellFormed.{IsWellFormedService}
use Rattle.vm_types.specs.declared.config.Config.{Config}
use Rattle.vm_journal.specs.declared.entry.What.{What}
use Rattle.vm_journal.specs.declared.entry.What.TheVariants as what
use Rattle.pager_model.specs.Flights.{Direction, Flight, reading, writing}
use Rattle.pager_model.specs.Lookups.{entry_of}
use Rattle.pager_model.specs.Maps.{page_number}
use Rattle.pager_model.specs.Pager.{Valid}
use Rattle.pager_model.specs.Transfers.{starts}
use Rattle.shadow_pager.specs.Roles.{IsOfProcess}
use Rattle.shadow_pager.specs.Shown.{Shown}

-- the process of a read's role is there
abbrev pub IsFor : ℕ → Direction → Type 0
IsFor processes (reading r) = IsOfProcess processes r
IsFor processes writing = Unit {0}

-- flight k is open, and what it is for is there
pub record CanLand (processes : ℕ) (flights : List Flight) (k : ℕ) : Type 0 where
  pub flight : Flight
  pub open_k : find (starts k) flights ≡ Some flight
  pub is_for : IsFor processes flight.direction

-- the frame of a valid entry is there
abbrev pub HasFrame : Shown → ℕ → ℕ → Type 0
HasFrame s p v = (e : Valid) → entry_of s.pager.valid p v ≡ Some e → e.frame < s.frames

-- the frames and processes that the entry names, or speaks for, are there
abbrev pub AreNamedThere : Config → Shown → List Flight → ℕ → What → Type 0
AreNamedThere config s flights p (what.Done r reply) = (p < s.processes) × HasFrame s p (page_number (r.addr).0)
AreNamedThere config s flights p (what.Denied r reason) = p < s.processes
AreNamedThere config s flights p (what.Served x answer) = (p < s.processes) × IsWellFormedService x × (config.frames ≡ s.frames)
AreNamedThere config s flights p (what.Reuse f g) = f.0 < s.frames
AreNamedThere config s flights p (what.Zero a f) = (p < s.processes) × (f.0 < s.frames)
AreNamedThere config s flights p (what.Back q a f from) = (q.0 < s.processes) × (f.0 < s.frames)
AreNamedThere config s flights p (what.Collide a f k) = p < s.processes
AreNamedThere config s flights p (what.In f b r) = IsOfProcess s.processes r × (f.0 < s.frames)
AreNamedThere config s flights p (what.InOk f k) = CanLand s.processes flights k × (f.0 < s.frames)
AreNamedThere config s flights p (what.InFail f k c d) = f.0 < s.frames
AreNamedThere config s flights p (what.Out f b) = f.0 < s.frames
AreNamedThere config s flights p (what.OutOk f k) = CanLand s.processes flights k × (f.0 < s.frames)
AreNamedThere config s flights p (what.OutFail f k c d) = CanLand s.processes flights k × (f.0 < s.frames)
AreNamedThere config s flights p (what.Evict q a f why to) = (q.0 < s.processes) × (f.0 < s.frames)
AreNamedThere config s flights p (what.Limit n faults) = p < s.processes
AreNamedThere config s flights p (what.Turn q status) = q.0 < s.processes

-- what a process's own seat says of the process
abbrev pub is_own : What → Bool
is_own (what.Done r reply) = true
is_own (what.Denied r reason) = true
is_own (what.Served s answer) = true
is_own (what.Zero a f) = true
is_own (what.Collide a f k) = true
is_own (what.Limit n faults) = true
is_own other = false
