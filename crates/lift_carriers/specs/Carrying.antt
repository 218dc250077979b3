-- Lifts before and after their blocks' one call. This project's own.
use Rattle.std.specs.Prelude.{◌≡◌, ℕ, ◌+◌, false, List, Some, length, slice_get, if◌then◌else◌}
use Rattle.vm_types.specs.declared.limits.TheConstants.{PAGE_BYTES}
use Rattle.vm_types.specs.BlockView.{BlockView, Tells}
use Rattle.frame_store.specs.LiftView.{IsCarried, LiftView}

module _ {B : Type 0} (seen : B → BlockView) (tells : Tells) where
  -- one read or one write more; the result says how it went, so it waits no longer
  pub record HasCarried (old new : LiftView B) : Type 0 where
    pub same : new ≡ record old { held = new.held; buffer = new.buffer; result = new.result }
    pub size : length new.buffer ≡ PAGE_BYTES
    pub written : old.is_read ≡ false → new.buffer ≡ old.buffer
    pub as_planned : (seen new.held).plan ≡ (seen old.held).plan
    pub read_once : (seen new.held).reads ≡ (seen old.held).reads + (if old.is_read then 1 else 0)
    pub written_once : (seen new.held).writes ≡ (seen old.held).writes + (if old.is_read then 0 else 1)
    pub result : IsCarried seen tells old new

  -- each lift of a list, in its place
  pub record AreCarried (old new : List (LiftView B)) : Type 0 where
    pub count : length new ≡ length old
    pub each : (k : ℕ) (x y : LiftView B) → slice_get old k ≡ Some x → slice_get new k ≡ Some y → HasCarried x y
