use Rattle.std.proofs.Common.{◌≡◌, ℕ, Some}
use Rattle.std.specs.Prelude.{if◌then◌else◌}
use Rattle.vm_types.specs.Behind.{covers}
use Rattle.page_tables.specs.PageTables.{pte_in}
use Rattle.pager_model.specs.Maps.{mapped_by}
use Rattle.state_fits.specs.Opening.{first_pte}
use Rattle.first_parts.proofs.mappings_laid.lay.Given as goal

-- the pages before k are mapped
abbrev pub invariant-loop-k : goal.invariant-loop-k
invariant-loop-k l = record {
  laid : (p v : ℕ) → pte_in l.tables p v ≡ (if covers p v (record l.mapping { pages = l.k }) then Some (first_pte l.config p v (mapped_by v l.mapping)) else pte_in l.initial.tables p v);
  procs : (l.tables).procs ≡ (l.initial.tables).procs;
}
