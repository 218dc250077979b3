-- What a table of mappings has room for, and what a mapping makes of it. This project's own.
use Rattle.std.specs.Prelude.{◌≡◌, ℕ, Option, Some, if◌then◌else◌}
use Rattle.vm_types.specs.Behind.{covers}
use Rattle.vm_types.specs.declared.config.Mapping.{Mapping}
use Rattle.pager_model.specs.Maps.{Mapped, mapped_by}

-- the mapping's pages are mapped to what it says, and all others to what they were
abbrev pub IsLaid : Mapping → (ℕ → ℕ → Option Mapped) → (ℕ → ℕ → Option Mapped) → Type 0
IsLaid m old new = (p v : ℕ) → new p v ≡ (if covers p v m then Some (mapped_by v m) else old p v)
