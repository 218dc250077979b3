use Rattle.std.proofs.Common.{◌≡◌, ℕ, Option, Some}
use Rattle.vm_types.specs.declared.config.Origin.{Origin}
use Rattle.vm_types.specs.declared.config.Origin.TheVariants as origin
use Rattle.page_tables.specs.PageTables.{pte_in}
use Rattle.pte_forms.specs.declared.pte.Place.TheVariants as place
use Rattle.pte_forms.specs.declared.pte.Pte.{Pte}
use Rattle.section_table.specs.SectionTable.{behind_of}
use Rattle.state_fits.specs.Serving.{ranged}
use Rattle.state_pages.proofs.ranges.create_zeros.Given as goal

-- the pages before this one are mapped to zeros
abbrev pub invariant-loop-n : goal.invariant-loop-n
invariant-loop-n l =
    (l.tables.procs ≡ l.initial.tables.procs)
    × ((q w : ℕ) → pte_in l.tables q w ≡ ranged (λ (old : Option Pte). Some (record { prot = l.prot; place = place.DemandZero })) l.p.0 l.fn.at.0 l.n (pte_in l.initial.tables) q w)
    × (l.sections.procs ≡ l.initial.sections.procs)
    × (l.sections.parts ≡ l.initial.sections.parts)
    × ((q w : ℕ) → behind_of l.sections q w ≡ ranged (λ (old : Option Origin). Some origin.Zero) l.p.0 l.fn.at.0 l.n (behind_of l.initial.sections) q w)
