-- Which shared pages are held with modify set. This project's own.
use Rattle.std.specs.Prelude.{ℕ, Bool, ◌+◌, ◌&&◌, List, [], ◌∷◌, ◌++◌, filter, map, if◌then◌else◌}
use Rattle.std.specs.List.{range_with_len, list_any}
use Rattle.vm_types.specs.Configuration.{section_pages}
use Rattle.vm_types.specs.Kinds.{is_shared_kind}
use Rattle.vm_types.specs.declared.names.Page.{Page}
use Rattle.vm_types.specs.declared.names.Page.TheVariants.{Shared}
use Rattle.vm_types.specs.declared.config.Config.{Config}
use Rattle.vm_types.specs.declared.config.Section.{Section}
use Rattle.pager_model.specs.Forget.{holds_page}
use Rattle.pager_model.specs.Pager.{Pager}

-- the pages of sections that are shared, in order of section and page
abbrev pub pages_from : ℕ → List Section → List Page
pages_from s [] = []
pages_from s (section ∷ sections) =
    (if is_shared_kind section.kind then map (Shared (record { 0 = s })) (range_with_len 0 (section_pages section)) else []) ++ pages_from (s + 1) sections

-- whether some frame holds the page with modify set
abbrev pub is_dirty : Config → Pager → Page → Bool
is_dirty config a page = list_any (λ f. holds_page page (a.page f) && a.modify f) (range_with_len 0 config.frames)

-- the shared pages that are held with modify set
abbrev pub dirty_pages : Config → Pager → List Page
dirty_pages config a = filter (is_dirty config a) (pages_from 0 config.sections)
