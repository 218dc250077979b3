-- The pages of one section that the end of a log may name. This project's own.
use Rattle.std.specs.Prelude.{ℕ, List, [], map, if◌then◌else◌}
use Rattle.std.specs.List.{range_with_len}
use Rattle.vm_types.specs.Configuration.{section_pages}
use Rattle.vm_types.specs.Kinds.{is_shared_kind}
use Rattle.vm_types.specs.declared.config.Section.{Section}
use Rattle.vm_types.specs.declared.names.Page.{Page}
use Rattle.vm_types.specs.declared.names.Page.TheVariants.{Shared}

-- all of a section that is shared, in their order
abbrev pub shared_pages_of : ℕ → Section → List Page
shared_pages_of s section = if is_shared_kind section.kind then map (Shared (record { 0 = s })) (range_with_len 0 (section_pages section)) else []
