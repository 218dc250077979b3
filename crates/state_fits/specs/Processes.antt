-- The rows of the processes as they stand for the pager's state. This project's own.
use Rattle.std.specs.Prelude.{◌≡◌, ℕ, ◌<◌, List, Option, Some, length, slice_get}
use Rattle.vm_types.specs.Ring.{Ring}
use Rattle.vm_types.specs.declared.names.ProcStatus.{ProcStatus}
use Rattle.state_parts.specs.declared.process_row.ProcessRow.{ProcessRow}

abbrev pub process_row : (ℕ → ProcStatus) → (ℕ → Ring) → (ℕ → ℕ) → (ℕ → ℕ) → (ℕ → ℕ) → (ℕ → Option ℕ) → ℕ → ProcessRow
process_row status_of ring limit references faults collided p =
    record { status = status_of p; ring = ring p; limit = limit p; references = references p; faults = faults p; collided = collided p }

pub record ProcessesFit (row : ℕ → ProcessRow) (n : ℕ) (rows : List ProcessRow) : Type 0 where
  pub count : length rows ≡ n
  pub each : (p : ℕ) → p < n → slice_get rows p ≡ Some (row p)
