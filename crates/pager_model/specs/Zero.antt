-- ZERO: a demand zero page, or one of a section in the page file, that isn't charged gets the empty frame at
-- the free list's head. Source: Kenah and Bate, "VAX/VMS Internals and Data Structures", paging dynamics,
-- demand zero pages and page file sections; the charge of a page file block is this project's own.
use Rattle.std.specs.Prelude.{◌≡◌, ℕ, true, ◌+◌, ◌<◌, ◌∷◌, Option, Some, None, length, Bool, slice_get}
use Rattle.vm_types.specs.Ring.{filled}
use Rattle.vm_types.specs.declared.names.FrameState.TheVariants as state
use Rattle.vm_types.specs.declared.config.Config.{Config}
use Rattle.vm_types.specs.declared.config.Origin.{Origin}
use Rattle.vm_types.specs.declared.config.Origin.TheVariants as origin
use Rattle.vm_types.specs.declared.names.Page.{Page}
use Rattle.vm_types.specs.declared.names.Page.TheVariants.{Private}
use Rattle.page_lists.specs.Lists.{without}
use Rattle.pager_model.specs.Changes.{valid_at}
use Rattle.pager_model.specs.Lookups.{count_page}
use Rattle.pager_model.specs.Maps.{Mapped, page_behind, page_number, paged_of, proc}
use Rattle.pager_model.specs.Own.{IsEmptyHead, IsResident}
use Rattle.pager_model.specs.Pager.{Pager}
use Rattle.pager_model.specs.Ring.{placed}
use Rattle.pager_model.specs.Sets.{at_number}

abbrev pub is_zero_origin : Config → Origin → Bool
is_zero_origin config origin.Zero = true
is_zero_origin config (origin.Section s i) = paged_of (slice_get config.sections s.0)

abbrev pub IsDemandZero : Config → Option Mapped → Type 0
IsDemandZero config None = ⊥
IsDemandZero config (Some m) = is_zero_origin config m.origin ≡ true

-- the page that is made of zeros there
abbrev pub zeroed_page : Config → ℕ → ℕ → Option Mapped → Page
zeroed_page config p v None = Private (proc p) v
zeroed_page config p v (Some m) = page_behind config p v m.origin

pub record IsZero (config : Config) (a : Pager) (p address f : ℕ) : Type 0 where
  pub own : IsResident config a p
  pub demand_zero : IsDemandZero config (a.map p (page_number address))
  pub not_charged : count_page a.charged (zeroed_page config p (page_number address) (a.map p (page_number address))) ≡ 0
  pub room : length a.charged < config.pagefile
  pub below_limit : filled (a.ring p).slots < a.limit p
  pub frame : IsEmptyHead a f

-- the page is charged; its frame is active with the modify mark set; its entry is valid and in the
-- ring's place; one more fault
abbrev pub after_zero : Config → Pager → ℕ → ℕ → ℕ → Pager
after_zero config a p address f =
    let v = page_number address in
    let g = zeroed_page config p v (a.map p v) in
    record a {
      state = at_number a.state f state.Active;
      page = at_number a.page f (Some g);
      modify = at_number a.modify f true;
      free = without a.free f;
      ring = at_number a.ring p (placed (a.ring p) (a.limit p) v);
      faults = at_number a.faults p (a.faults p + 1);
      valid = valid_at p v f ∷ a.valid;
      charged = g ∷ a.charged;
    }
