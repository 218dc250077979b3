-- What is counted so far of the processes of a dump. This project's own.
use Rattle.std.specs.Prelude.{ℕ, ◌+◌, List, count_by}
use Rattle.dump_bytes.specs.Dumped.{Process, Dumped}
use Rattle.dump_lines.specs.Occurrences.{times_in}
use Rattle.dump_lines.specs.Pins.{pins_in}
use Rattle.dump_lines.specs.Shares.{entries, is_for}

-- the shares of a frame in some processes
abbrev pub shares_in : List Process → ℕ → ℕ
shares_in procs f = count_by (is_for f) (entries procs)

-- what uses a frame beside its shares: pins and open transfers
abbrev pub uses_of : Dumped → ℕ → ℕ
uses_of d f = pins_in d.procs f + times_in d.flights f
