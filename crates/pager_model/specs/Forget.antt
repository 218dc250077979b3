-- Pages are forgotten, and what a range of pages is mapped to changes. Source: Kenah and Bate, "VAX/VMS
-- Internals and Data Structures", memory management system services; the order of forgetting is this
-- project's own.
use Rattle.std.specs.Prelude.{ℕ, Bool, false, List, [], ◌∷◌, Option, Some, None, map, find, if◌then◌else◌}
use Rattle.std.specs.List.{range_with_len}
use Rattle.vm_types.specs.Same.{same_page}
use Rattle.vm_types.specs.declared.names.Page.{Page}
use Rattle.vm_types.specs.declared.names.FrameState.TheVariants as state
use Rattle.vm_types.specs.declared.config.Config.{Config}
use Rattle.page_lists.specs.Lists.{without}
use Rattle.pager_model.specs.Changes.{without_assigned, without_page}
use Rattle.pager_model.specs.FlatService.{map_range}
use Rattle.pager_model.specs.Lookups.{page_by}
use Rattle.pager_model.specs.Maps.{Map, Mapped, is_private, page_number}
use Rattle.pager_model.specs.Pager.{Pager}
use Rattle.pager_model.specs.Sets.{at_number, at_page}

abbrev pub holds_page : Page → Option Page → Bool
holds_page g None = false
holds_page g (Some h) = same_page h g

-- the frame that holds the page
abbrev pub holder : Config → (ℕ → Option Page) → Page → Option ℕ
holder config page g = find (λ (f : ℕ). holds_page g (page f)) (range_with_len 0 config.frames)

-- what is said of that frame, if there is one
abbrev pub put_at : {X : Type 0} → (ℕ → X) → Option ℕ → X → ℕ → X
put_at f None x = f
put_at f (Some n) x = at_number f n x

abbrev pub unlisted : List ℕ → Option ℕ → List ℕ
unlisted xs None = xs
unlisted xs (Some f) = without xs f

abbrev pub headed : List ℕ → Option ℕ → List ℕ
headed xs None = xs
headed xs (Some f) = f ∷ without xs f

-- a page is forgotten: its frame, if one holds it, is emptied and heads the free list; the page is no
-- longer charged or touched, lies nowhere, and the block that was assigned to it is free
abbrev pub forgotten_in : Pager → Page → Option ℕ → Pager
forgotten_in a g o =
    record a {
      state = put_at a.state o state.Free;
      page = put_at a.page o None;
      modify = put_at a.modify o false;
      free = headed a.free o;
      modified = unlisted a.modified o;
      charged = without_page a.charged g;
      touched = without_page a.touched g;
      lies = at_page a.lies g None;
      assigned = without_assigned a.assigned g;
    }

abbrev pub forgotten : Config → Pager → Page → Pager
forgotten config a g = forgotten_in a g (holder config a.page g)

-- in the order of the list
abbrev pub forget_all : Config → List Page → Pager → Pager
forget_all config [] a = a
forget_all config (g ∷ pages) a = forget_all config pages (forgotten config a g)

-- the private pages at these page numbers, in their order
abbrev pub with_private : Option Page → List Page → List Page
with_private None pages = pages
with_private (Some g) pages = if is_private g then (g ∷ pages) else pages

abbrev pub own_pages : Config → Map → ℕ → List ℕ → List Page
own_pages config map p [] = []
own_pages config map p (v ∷ numbers) = with_private (page_by config map p v) (own_pages config map p numbers)

-- the page numbers of a range, from the lowest on
abbrev pub range_of : ℕ → ℕ → List ℕ
range_of address pages = range_with_len (page_number address) pages

abbrev pub remapped : (Option Mapped → Option Mapped) → ℕ → ℕ → ℕ → Pager → Pager
remapped change p address pages a = record a { map = map_range change p address pages a.map }

-- the private pages of the range are forgotten in ascending order, then all its pages are unmapped
abbrev pub after_delete : Config → Pager → ℕ → ℕ → ℕ → Pager
after_delete config a p address pages =
    remapped (λ (old : Option Mapped). None) p address pages (forget_all config (own_pages config a.map p (range_of address pages)) a)
