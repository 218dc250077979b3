-- A process whose lists are short enough to be counted in four bytes. Source: this project's own.
use Rattle.std.specs.Prelude.{◌≤◌, length}
use Rattle.vm_types.specs.declared.limits.TheConstants.{MOST_EXTENT}
use Rattle.dump_bytes.specs.declared.dump.ProcRec.{ProcRec}

pub record IsShort (p : ProcRec) : Type 0 where
  pub slots : length p.slots.items ≤ MOST_EXTENT
  pub words : length p.words.items ≤ MOST_EXTENT
