use Rattle.std.proofs.Common.{◌≡◌, ◌≤◌, ℕ, drop, length}
use Rattle.std.specs.List.{find}
use Rattle.std.specs.Option.{option_map}
use Rattle.vm_types.specs.Behind.{covers}
use Rattle.page_tables.specs.PageTables.{pte_in}
use Rattle.pager_model.specs.Maps.{mapped_by}
use Rattle.state_fits.specs.Opening.{first_pte}
use Rattle.first_parts.proofs.mappings_laid.lay_all.Given as goal

-- the mappings from left on are laid
abbrev pub invariant-loop-left : goal.invariant-loop-left
invariant-loop-left l = record {
  within : l.left ≤ length l.config.maps;
  laid : (p v : ℕ) → pte_in l.tables p v ≡ option_map (λ m. first_pte l.config p v (mapped_by v m)) (find (covers p v) (drop l.left l.config.maps));
  procs : (l.tables).procs ≡ (l.initial.tables).procs;
}

abbrev pub decreases-loop-left : goal.decreases-loop-left
decreases-loop-left l = l.left
