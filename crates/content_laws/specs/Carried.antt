-- What a lift is after its block's one call. This project's own.
use Rattle.std.specs.Prelude.{◌≡◌, ◌<◌, ℕ, Bool, true, false, not, ◌+◌, List, Some}
use Rattle.vm_types.specs.BlockView.{BlockView}
use Rattle.pager_model.specs.Fits.{Lift, Result, one_left}

-- the lift with another buffer, block and result
abbrev pub carried_as : Lift → List ℕ → BlockView → Result → Lift
carried_as lift bytes seen result = record lift { buffer = bytes; seen = seen; result = result }

-- one more read, or one more write, and the plan as it was
pub record IsCalled (is_read : Bool) (old new : BlockView) : Type 0 where
  pub reads : new.reads ≡ old.reads + one_left is_read
  pub writes : new.writes ≡ old.writes + one_left (not is_read)
  pub plan : new.plan ≡ old.plan

-- a good read finds the block's bytes and leaves them; a good write puts the buffer's bytes into the block
pub record IsCarriedWell (tells : Bool) (lift : Lift) (bytes : List ℕ) (seen : BlockView) : Type 0 where
  pub called : IsCalled lift.is_read lift.seen seen
  pub faults : seen.faults ≡ (lift.seen).faults
  pub read : tells ≡ true → lift.is_read ≡ true → ((lift.seen).content ≡ Some bytes) × (seen.content ≡ Some bytes)
  pub written : tells ≡ true → lift.is_read ≡ false → (bytes ≡ lift.buffer) × (seen.content ≡ Some bytes)

-- a failed read leaves the block's bytes, and the buffer has any; a failed write leaves the buffer, and the block has
-- any bytes; the count of failures rises
pub record IsCarriedBadly (tells : Bool) (lift : Lift) (bytes : List ℕ) (seen : BlockView) : Type 0 where
  pub called : IsCalled lift.is_read lift.seen seen
  pub faults : (lift.seen).faults < seen.faults
  pub read : tells ≡ true → lift.is_read ≡ true → seen.content ≡ (lift.seen).content
  pub written : tells ≡ true → lift.is_read ≡ false → bytes ≡ lift.buffer
