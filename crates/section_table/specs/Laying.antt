-- How a mapping is laid into a table. No contract of a public call names these definitions.
use Rattle.std.specs.Prelude.{◌≡◌, ℕ, Option, Some, if◌then◌else◌}
use Rattle.vm_types.specs.Behind.{covers, origin_by}
use Rattle.vm_types.specs.declared.config.Mapping.{Mapping}
use Rattle.vm_types.specs.declared.config.Origin.{Origin}

-- behind the mapping's pages is what it says, and behind all others what was there
abbrev pub IsLaid : Mapping → (ℕ → ℕ → Option Origin) → (ℕ → ℕ → Option Origin) → Type 0
IsLaid m old new = (p v : ℕ) → new p v ≡ (if covers p v m then Some (origin_by v m) else old p v)
