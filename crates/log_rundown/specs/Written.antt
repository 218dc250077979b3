-- A write of a cluster, and what begins it. This project's own.
use Rattle.std.specs.Prelude.{List, map}
use Rattle.vm_journal.specs.declared.entry.What.{What}
use Rattle.vm_journal.specs.declared.entry.What.TheVariants as what
use Rattle.log_rundown.specs.declared.write.Write.{Write}

abbrev pub write_as : Write → What
write_as w = what.Out w.frame w.block

abbrev pub writes_as : List Write → List What
writes_as ws = map write_as ws
