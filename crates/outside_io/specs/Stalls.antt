-- When a sink stalls: it takes nothing of a piece that isn't empty. Source: this project's own.
use Rattle.std.specs.Prelude.{ℕ, Bool, false, ◌&&◌, ◌==◌, nat_lt, List, length, Result, Ok, Err, if◌then◌else◌}
use Rattle.vm_types.specs.Counts.{raised}
use Rattle.vm_types.specs.declared.faults.Failed.{Failed}

-- whether this answer to a write of the piece is a stall
abbrev pub is_stall : Result ℕ Failed → List ℕ → Bool
is_stall (Ok n) piece = (n == 0) && nat_lt 0 (length piece)
is_stall (Err failed) piece = false

-- the count of stalls after this answer: it rises exactly at a stall
abbrev pub stalls_after : ℕ → Result ℕ Failed → List ℕ → ℕ
stalls_after count result piece = if is_stall result piece then raised count else count
