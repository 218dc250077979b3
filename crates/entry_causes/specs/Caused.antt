-- The cause of each entry, one row a kind, beside what legality says of it; and journals without an entry that has
-- none: nothing is done without a cause. This project's own; each row's file names its source.
use Rattle.std.specs.Prelude.{ℕ, List, [], ◌∷◌}
use Rattle.vm_types.specs.declared.names.BlockId.{BlockId}
use Rattle.vm_types.specs.declared.names.BlockId.TheVariants as block
use Rattle.vm_types.specs.declared.names.ProcStatus.{ProcStatus}
use Rattle.vm_types.specs.declared.names.ProcStatus.TheVariants as status
use Rattle.vm_types.specs.declared.config.Config.{Config}
use Rattle.vm_journal.specs.declared.entry.Entry.{Entry}
use Rattle.vm_journal.specs.declared.entry.Role.{Role}
use Rattle.vm_journal.specs.declared.entry.Role.TheVariants as role
use Rattle.vm_journal.specs.declared.entry.What.{What}
use Rattle.vm_journal.specs.declared.entry.What.TheVariants as what
use Rattle.pager_model.specs.Maps.{page_number}
use Rattle.pager_model.specs.Pager.{Pager}
use Rattle.pager_model.specs.Run.{pager_after}
use Rattle.entry_causes.specs.EvictCause.{IsEvictCause}
use Rattle.entry_causes.specs.NextRequest.{HasRequest}
use Rattle.entry_causes.specs.ReuseCause.{IsReuseCause}
use Rattle.entry_causes.specs.TurnCause.{IsTurnCause}
use Rattle.entry_causes.specs.Wanted.{IsWanted}
use Rattle.entry_causes.specs.WriteCause.{IsWriteCause}

-- BACK of a coming process: it has a request; of a resident one: the page is wanted
abbrev pub IsBackCause : ProcStatus → Config → List Entry → Pager → ℕ → ℕ → Type 0
IsBackCause status.Coming config past a p address = HasRequest config past p
IsBackCause other config past a p address = IsWanted config past a p (page_number address)

-- IN for a fault: the page is wanted; for a neighbour: its carrier's first read has its cause, and legality ties it
-- to that; for a coming process: it has a request
abbrev pub IsInCause : Role → Config → List Entry → Pager → Type 0
IsInCause (role.Fault p address) config past a = IsWanted config past a p.0 (page_number address.0)
IsInCause (role.Near g) config past a = Unit {0}
IsInCause (role.Come p address) config past a = HasRequest config past p.0

-- OUT to a swap block: its process leaves, which legality says; else a write of the modified list's head
abbrev pub IsOutCause : BlockId → Config → List Entry → Pager → ℕ → Type 0
IsOutCause (block.Swap p n) config past a seat = Unit {0}
IsOutCause other config past a seat = IsWriteCause config past a seat

-- the row of its kind, for an entry of this seat: an answer has its request, an adjustment is pending, and a landing
-- has its flight, which legality and order say
abbrev pub IsCausedWhat : Config → List Entry → Pager → ℕ → What → Type 0
IsCausedWhat config past a seat (what.Reuse f g) = IsReuseCause config past a seat
IsCausedWhat config past a seat (what.Zero address f) = IsWanted config past a seat (page_number address.0)
IsCausedWhat config past a seat (what.Back p address f from) = IsBackCause (a.status p.0) config past a p.0 address.0
IsCausedWhat config past a seat (what.Collide address f k) = IsWanted config past a seat (page_number address.0)
IsCausedWhat config past a seat (what.In f b r) = IsInCause r config past a
IsCausedWhat config past a seat (what.Out f b) = IsOutCause b config past a seat
IsCausedWhat config past a seat (what.Evict p address f why to) = IsEvictCause why config past a p.0 address.0
IsCausedWhat config past a seat (what.Turn p s) = IsTurnCause config past a seat p.0 s
IsCausedWhat config past a seat other = Unit {0}

abbrev pub IsCaused : Config → List Entry → Pager → Entry → Type 0
IsCaused config past a e = IsCausedWhat config past a (e.seat).0 e.what

-- each entry of the past has its cause in the entries before it, and in the state that they lead to
abbrev pub IsCausedThroughout : Config → List Entry → Type 0
IsCausedThroughout config [] = Unit {0}
IsCausedThroughout config (e ∷ past) = IsCausedThroughout config past × IsCaused config past (pager_after config past) e
