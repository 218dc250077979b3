-- What the tables of a log's pager stand for. This project's own.
use Rattle.std.specs.Prelude.{ℕ, false, List, [], None, vec_len, slice_index_or}
use Rattle.vm_types.specs.PagePlaces.{item_at}
use Rattle.vm_types.specs.Ring.{Ring}
use Rattle.vm_types.specs.declared.names.FrameState.TheVariants as state
use Rattle.vm_types.specs.declared.names.ProcStatus.TheVariants as status
use Rattle.pager_model.specs.Pager.{Pager}
use Rattle.shadow_tables.specs.Lying.{lies_by}
use Rattle.shadow_pager.specs.declared.shadow_pager.ShadowPager.{ShadowPager}

-- by number; what isn't there has the other value
abbrev pub at_or : {X : Type 0} → X → List X → ℕ → X
at_or other items n = slice_index_or items n other

abbrev pub no_ring : Ring
no_ring = record { slots = []; hand = 0 }

-- how many frames and processes there are, and the pager's state
pub record Shown : Type 0 where
  pub frames : ℕ
  pub processes : ℕ
  pub pager : Pager

unfoldable pub shown : ShadowPager → Shown
shown s =
    record {
      frames = vec_len s.states;
      processes = vec_len s.statuses;
      pager = record {
        state = at_or state.Bad s.states.items;
        page = at_or None s.held;
        modify = at_or false s.marks.items;
        free = s.free;
        modified = s.modified.items;
        status = at_or status.Resident s.statuses.items;
        ring = at_or no_ring s.rings.items;
        limit = at_or 0 s.limits.items;
        references = at_or 0 s.references.items;
        faults = at_or 0 s.faults.items;
        collided = at_or None s.collided.items;
        map = item_at s.pages.items;
        valid = s.valid;
        charged = s.charged;
        touched = s.touched;
        lies = lies_by s.lies;
        assigned = s.assigned;
      };
    }

-- the same frames and processes, and another state
abbrev pub with_pager : Shown → Pager → Shown
with_pager s a = record { frames = s.frames; processes = s.processes; pager = a }
