-- The bytes of a page in a flat state, now and before an entry. This project's own.
use Rattle.std.specs.Prelude.{ℕ, Bool, true, ◌+◌, List, [], ◌∷◌, Option, Some, None, length, slice_get, nat_lt, if◌then◌else◌}
use Rattle.vm_types.specs.declared.names.Page.{Page}
use Rattle.vm_types.specs.declared.names.Page.TheVariants.{Private, Shared}
use Rattle.vm_types.specs.declared.config.Config.{Config}
use Rattle.vm_types.specs.declared.config.Origin.TheVariants as origin
use Rattle.vm_journal.specs.declared.entry.Entry.{Entry}
use Rattle.pager_model.specs.Flat.{FlatState, page_bytes}
use Rattle.pager_model.specs.Maps.{Mapped, shared_of}
use Rattle.pager_model.specs.Spoken.{flat_after}

abbrev pub bytes_at : Config → FlatState → Page → Option Mapped → List ℕ
bytes_at config flat g None = []
bytes_at config flat g (Some m) = page_bytes config flat g m.origin

-- a private page has bytes where it is mapped, a shared one always
abbrev pub bytes_in : Config → FlatState → Page → List ℕ
bytes_in config flat (Private p v) = bytes_at config flat (Private p v) (flat.map p.0 v)
bytes_in config flat (Shared s i) = page_bytes config flat (Shared s i) (origin.Section s i)

-- the entries before the one with this number
abbrev pub before : ℕ → List Entry → List Entry
before k [] = []
before k (e ∷ past) = if nat_lt (length past + 1) k then (e ∷ past) else before k past

-- the bytes of a page now, and before entry k
abbrev pub now : Config → List Entry → Page → List ℕ
now config past g = bytes_in config (flat_after config past) g

abbrev pub was : Config → List Entry → ℕ → Page → List ℕ
was config past k g = bytes_in config (flat_after config (before k past)) g

-- a page that some map can name: a page of a copy on reference section is private, never shared
abbrev pub is_real : Config → Page → Bool
is_real config (Private p v) = true
is_real config (Shared s i) = shared_of (slice_get config.sections s.0)
