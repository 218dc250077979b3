-- The parts of forgetting a page. This project's own.
use Rattle.std.specs.Prelude.{false, Option, Some, None, if◌then◌else◌}
use Rattle.vm_types.specs.declared.names.Page.{Page}
use Rattle.vm_types.specs.declared.names.FrameState.TheVariants as state
use Rattle.vm_types.specs.declared.config.Config.{Config}
use Rattle.std.specs.Prelude.{ℕ}
use Rattle.pager_model.specs.Changes.{without_assigned, without_page}
use Rattle.pager_model.specs.Forget.{forgotten, headed, put_at, unlisted}
use Rattle.pager_model.specs.Maps.{is_private}
use Rattle.pager_model.specs.Pager.{Pager}
use Rattle.pager_model.specs.Sets.{at_page}

-- the frame, if there is one, is emptied and heads the free list
abbrev pub emptied : Pager → Option ℕ → Pager
emptied a o =
    record a {
      state = put_at a.state o state.Free;
      page = put_at a.page o None;
      modify = put_at a.modify o false;
      free = headed a.free o;
      modified = unlisted a.modified o;
    }

-- the page is no longer charged or touched, lies nowhere, and the block that was assigned to it is free
abbrev pub erased : Pager → Page → Pager
erased a g =
    record a {
      charged = without_page a.charged g;
      touched = without_page a.touched g;
      lies = at_page a.lies g None;
      assigned = without_assigned a.assigned g;
    }

-- the page, if it is there and a process's own, is forgotten
abbrev pub own_forgotten : Config → Pager → Option Page → Pager
own_forgotten config a None = a
own_forgotten config a (Some g) = if is_private g then forgotten config a g else a
