-- What has a name can be printed.
use Rattle.std.proofs.Common.{◌≡◌, ℕ, ◌<◌, ◌≤◌, inl, inr, List, length, subst, sym, arith, get_or, Some}
use Rattle.std.specs.Prelude.{IsSomeAnd, slice_get}
use Rattle.std.proofs.lemmas.Option.{slice_get_cases}
use Rattle.vm_types.specs.Configuration.{IsName, IsWellFormed}
use Rattle.vm_types.specs.declared.config.Config.{Config}
use Rattle.vm_types.specs.declared.config.Section.{Section}
use Rattle.vm_text.specs.Named.{AreNames, IsShortSection}

-- a section that is there has a name by the rule
pub section_named : (procs : ℕ) (names : List Section) (s : ℕ) → AreNames procs names → s < length names
    → (section : Section) × (slice_get names s ≡ Some section) × IsName section.name
section_named procs names s are within =
    elim (slice_get_cases names s).1 [
      | inl w ↦ (w.0, w.2, let named : IsName (get_or names s w.0).name = are.named s w.0 within in subst (λ (section : Section). IsName section.name) w.3 named)
      | inr w ↦ absurd (omega arith)
    ]

short_section : (procs : ℕ) (names : List Section) (s : ℕ) → AreNames procs names → s < length names → IsShortSection names s
short_section procs names s are within =
    let found = section_named procs names s are within in
    subst (λ o. IsSomeAnd o (λ (section : Section). length section.name ≤ 15)) (sym found.1) found.2.length.1

-- a well-formed configuration's processes and sections have names
pub config_names : (config : Config) → IsWellFormed config → AreNames (length config.procs) config.sections
config_names config formed = record {
  few = formed.some_process.1;
  named = λ k d within. (formed.sections.each k d within).name;
  differ = formed.sections.differ;
}
