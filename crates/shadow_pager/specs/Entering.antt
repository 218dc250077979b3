-- A page in a frame becomes valid. This project's own.
use Rattle.std.specs.Prelude.{ℕ, true, ◌∷◌}
use Rattle.vm_types.specs.declared.names.FrameState.TheVariants as state
use Rattle.pager_model.specs.Changes.{lies_nowhere, valid_at}
use Rattle.pager_model.specs.Maps.{page_number}
use Rattle.pager_model.specs.Pager.{Pager}
use Rattle.pager_model.specs.Ring.{placed, slotted}
use Rattle.pager_model.specs.Sets.{at_number}

-- the frame is active, and the entry is valid, in the ring's place
abbrev pub in_ring : Pager → ℕ → ℕ → ℕ → Pager
in_ring a p address f =
    let v = page_number address in
    record a {
      state = at_number a.state f state.Active;
      ring = at_number a.ring p (placed (a.ring p) (a.limit p) v);
      valid = valid_at p v f ∷ a.valid;
    }

-- the frame is active, and the entry is valid, in this slot; the modify mark is set, and the page lies nowhere
abbrev pub in_slot : Pager → ℕ → ℕ → ℕ → ℕ → Pager
in_slot a p address f slot =
    let v = page_number address in
    record a {
      state = at_number a.state f state.Active;
      modify = at_number a.modify f true;
      ring = at_number a.ring p (slotted (a.ring p) slot v);
      valid = valid_at p v f ∷ a.valid;
      lies = lies_nowhere a.lies (a.page f);
    }
