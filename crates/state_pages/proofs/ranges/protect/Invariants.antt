use Rattle.std.proofs.Common.{◌≡◌, ℕ}
use Rattle.std.specs.Option.{option_map}
use Rattle.page_tables.specs.PageTables.{pte_in}
use Rattle.state_fits.specs.Serving.{ranged, with_code}
use Rattle.state_pages.proofs.ranges.protect.Given as goal

-- the pages before this one have the code
abbrev pub invariant-loop-n : goal.invariant-loop-n
invariant-loop-n l = (l.tables.procs ≡ l.initial.tables.procs) × ((q w : ℕ) → pte_in l.tables q w ≡ ranged (option_map (with_code l.prot)) l.p.0 l.fn.at.0 l.n (pte_in l.initial.tables) q w)
