-- What stands for a configuration and a past: the parts that the rows ask for. A past is a list of
-- entries, the newest first. This project's own.
use Rattle.std.specs.Prelude.{◌≡◌, ℕ, ◌+◌, ◌++◌, List, Option, IsSome, find, is_some, length}
use Rattle.vm_types.specs.declared.names.BlockId.{BlockId}
use Rattle.vm_types.specs.declared.config.Config.{Config}
use Rattle.vm_journal.specs.declared.entry.Entry.{Entry}
use Rattle.vm_journal.specs.declared.entry.What.{What}
use Rattle.vm_journal.specs.declared.entry.What.TheVariants as what
use Rattle.pager_model.specs.Carrier.{Carrying}
use Rattle.pager_model.specs.Counted.{last_count}
use Rattle.pager_model.specs.Flights.{Flight, awaits_reuse, failed_flight, open_flights}
use Rattle.pager_model.specs.Order.{IsInOrder, answered, requests_of}
use Rattle.pager_model.specs.Transfers.{starts}
use Rattle.shadow_history.specs.declared.count.Count.{Count}
use Rattle.shadow_history.specs.Carriers.{AreCarriers}
use Rattle.shadow_history.specs.Counting.{count_of}
use Rattle.shadow_history.specs.Lefts.{Left, left_of}

-- a configuration, and the entries so far
pub record Passed : Type 0 where
  pub config : Config
  pub past : List Entry

-- a read that fails is open
abbrev pub FailsOpen : What → List Flight → Type 0
FailsOpen (what.InFail f k c d) flights = IsSome (find (starts k) flights)
FailsOpen other flights = Unit {0}

-- the counts are those of the failed blocks
abbrev pub AreFailCounts : List Entry → List Count → Type 0
AreFailCounts past counts = (b : BlockId) → count_of b counts ≡ last_count b past

-- what is left is what wasn't answered, as long as all was answered in order
abbrev pub AreLeft : Config → List Entry → Left → Type 0
AreLeft config past left = IsInOrder config past → (p : ℕ) → answered p past ++ left_of left p ≡ requests_of p config.body

-- how many entries, the open flights, the failed read, the last carriers, the counts of failures, and what is
-- left of the requests
pub record StandsFor (config : Config) (past : List Entry) (count : ℕ) (flights : List Flight) (failed : Option Flight) (carriers : List Carrying) (counts : List Count) (left : Left) : Type 0 where
  pub counted : count ≡ length past
  pub open_now : flights ≡ open_flights past
  pub failure : failed ≡ failed_flight past
  pub waits : is_some failed ≡ awaits_reuse past
  pub rows : AreCarriers past (length config.procs + 2) carriers
  pub faults : AreFailCounts past counts
  pub requests : AreLeft config past left
