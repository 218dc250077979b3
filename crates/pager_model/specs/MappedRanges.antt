-- Whether pages of a range are mapped. This project's own.
use Rattle.std.specs.Prelude.{ℕ, Bool, not}
use Rattle.std.specs.Option.{is_some}
use Rattle.std.specs.List.{list_any}
use Rattle.pager_model.specs.Forget.{range_of}
use Rattle.pager_model.specs.Pager.{Pager}

abbrev pub is_mapped_at : Pager → ℕ → ℕ → Bool
is_mapped_at a p v = is_some (a.map p v)

abbrev pub is_unmapped_at : Pager → ℕ → ℕ → Bool
is_unmapped_at a p v = not (is_mapped_at a p v)

-- whether some page of the range is mapped, and whether some isn't
abbrev pub is_in_use : Pager → ℕ → ℕ → ℕ → Bool
is_in_use a p address pages = list_any (is_mapped_at a p) (range_of address pages)

abbrev pub is_unmapped : Pager → ℕ → ℕ → ℕ → Bool
is_unmapped a p address pages = list_any (is_unmapped_at a p) (range_of address pages)
