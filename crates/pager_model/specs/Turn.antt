-- TURN: a process's status changes. Source: Kenah and Bate, "VAX/VMS Internals and Data Structures",
-- the swapper, outswap and inswap; the four statuses and their order are this project's own.
use Rattle.std.specs.Prelude.{◌≡◌, ◌⊎◌, ℕ, false, ◌<◌, List, Some, length}
use Rattle.vm_types.specs.Ring.{Ring, unpinned}
use Rattle.vm_types.specs.declared.names.Page.{Page}
use Rattle.vm_types.specs.declared.names.BlockId.TheVariants as block
use Rattle.vm_types.specs.declared.names.ProcStatus.{ProcStatus}
use Rattle.vm_types.specs.declared.names.ProcStatus.TheVariants as status
use Rattle.vm_types.specs.declared.config.Config.{Config}
use Rattle.vm_journal.specs.declared.entry.Entry.{Entry}
use Rattle.pager_model.specs.Flights.{is_busy, open_flights}
use Rattle.pager_model.specs.Maps.{proc}
use Rattle.pager_model.specs.Pager.{Pager}
use Rattle.pager_model.specs.Ring.{unlocked}
use Rattle.pager_model.specs.Sets.{at_number}
use Rattle.pager_model.specs.Transfers.{has_come}

-- resident or coming, the process's own seat has no open flight, and no seat has one of role COME for it
pub record IsLeavingTurn (past : List Entry) (a : Pager) (p : ℕ) : Type 0 where
  pub was : (a.status p ≡ status.Resident) ⊎ (a.status p ≡ status.Coming)
  pub idle : is_busy p (open_flights past) ≡ false
  pub no_come : has_come p (open_flights past) ≡ false

-- from resident or coming to leaving; with no page left but pinned ones to gone; to coming if no process is coming;
-- and to resident when no page is left in the swap blocks
abbrev pub IsTurned : List Entry → Pager → ℕ → ProcStatus → Type 0
IsTurned past a p status.Leaving = IsLeavingTurn past a p
IsTurned past a p status.Gone = (a.status p ≡ status.Leaving) × (unpinned (a.ring p).slots ≡ 0)
IsTurned past a p status.Coming = (a.status p ≡ status.Gone) × ((q : ℕ) → a.status q ≡ status.Coming → ⊥)
IsTurned past a p status.Resident = (a.status p ≡ status.Coming) × ((g : Page) (n : ℕ) → a.lies g ≡ Some (block.Swap (proc p) n) → ⊥)

pub record IsTurn (config : Config) (past : List Entry) (a : Pager) (p : ℕ) (s : ProcStatus) : Type 0 where
  pub process : p < length config.procs
  pub turned : IsTurned past a p s

-- with leaving all locks are cleared, and pins stay
abbrev pub turned_ring : ProcStatus → Ring → Ring
turned_ring status.Leaving ring = unlocked ring
turned_ring other ring = ring

abbrev pub after_turn : Pager → ℕ → ProcStatus → Pager
after_turn a p s = record a { status = at_number a.status p s; ring = at_number a.ring p (turned_ring s (a.ring p)) }
