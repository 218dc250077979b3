-- The status at the end of a log. This project's own.
use Rattle.std.specs.Prelude.{ℕ, List, length, nat_eq, if◌then◌else◌}
use Rattle.vm_types.specs.declared.names.Page.{Page}

-- 5 if there is a page that is still held with modify set, else 0
abbrev pub end_status : List Page → ℕ
end_status dirty = if nat_eq (length dirty) 0 then 0 else 5
