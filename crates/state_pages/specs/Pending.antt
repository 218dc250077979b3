-- The adjustment of a process that is pending, by what is kept of the process. This project's own.
use Rattle.std.specs.Prelude.{ℕ, ◌&&◌, Option, Some, None, nat_eq, nat_le, not, if◌then◌else◌}
use Rattle.vm_types.specs.Adjust.{adjust}
use Rattle.vm_types.specs.declared.config.Params.{Params}
use Rattle.vm_types.specs.declared.config.ProcSpec.{ProcSpec}
use Rattle.state_parts.specs.declared.process_row.ProcessRow.{ProcessRow}

-- the limit that it gives, and the faults since the last one; none if none is pending
abbrev pub pending_by : Params → ProcSpec → ProcessRow → ℕ → Option (ℕ × ℕ)
pending_by params spec row free =
    if not (nat_eq params.awstime 0) && nat_le params.awstime row.references
    then Some (adjust params spec row.faults row.limit free, row.faults) else None
