-- What contracts see of a lift: the buffer and the block of an open transfer, which are out of their store
-- while the transfer is carried. This project's own.
use Rattle.std.specs.Prelude.{◌≡◌, ℕ, ◌<◌, ◌^◌, Bool, true, false, List}
use Rattle.vm_types.specs.BlockView.{BlockView, Tells}
use Rattle.disk_trait.specs.Told.{told, IsAnyContent}
use Rattle.vm_types.specs.declared.names.BlockId.{BlockId}
use Rattle.vm_types.specs.declared.names.Page.{Page}
use Rattle.vm_types.specs.declared.names.Seat.{Seat}
use Rattle.vm_types.specs.declared.pool_name.PoolName.{PoolName}
use Rattle.frame_store.specs.declared.lift.Carried.{Carried}
use Rattle.frame_store.specs.declared.lift.Carried.TheVariants.{Waiting, Good, Bad}

pub record LiftView (B : Type 0) : Type 0 where
  -- the number of the entry in which the transfer began, and who began it
  pub start : ℕ
  pub seat : Seat
  -- the page, and its frame
  pub page : Page
  pub frame : ℕ
  -- the block's name
  pub block : BlockId
  -- whether the block is to be read into the buffer; else the buffer is to be written to the block
  pub is_read : Bool
  pub buffer : List ℕ
  -- the block
  pub held : B
  pub result : Carried
  -- the pool that the buffer is of
  pub pool : PoolName

-- the lift of a transfer that begins, with these bytes and this block
abbrev pub begun : {B : Type 0} → PoolName → Seat → Page → ℕ → BlockId → ℕ → Bool → List ℕ → B → LiftView B
begun pool seat page f b start read bytes x =
    record { start = start; seat = seat; page = page; frame = f; block = b; is_read = read; buffer = bytes; held = x; result = Waiting; pool = pool }

-- a block that waits to be carried may be called once more
abbrev pub MayCall : Carried → ℕ → Type 0
MayCall Waiting calls = calls < 2 ^ 48
MayCall Good calls = Unit {0}
MayCall (Bad before after) calls = Unit {0}

module _ {B : Type 0} (seen : B → BlockView) (tells : Tells) where
  -- what a call that went well has done: the buffer has the block's bytes after a read, and the block the
  -- buffer's after a write
  abbrev pub IsMoved : LiftView B → LiftView B → Type 0
  IsMoved old new =
      (new.is_read ≡ true → ((seen new.held).content ≡ (seen old.held).content) × ((seen old.held).content ≡ told tells.content new.buffer))
      × (new.is_read ≡ false → (seen new.held).content ≡ told tells.content new.buffer)

  -- what a call that failed has left: after a read the block's content, after a write any
  abbrev pub IsTorn : LiftView B → LiftView B → Type 0
  IsTorn old new =
      (new.is_read ≡ true → (seen new.held).content ≡ (seen old.held).content)
      × (new.is_read ≡ false → IsAnyContent tells.content (seen new.held).content)

  -- a lift before and after its call: the result says which it was, and tells the block's counts of failures
  abbrev pub CarriedAs : Carried → LiftView B → LiftView B → Type 0
  CarriedAs Waiting old new = ⊥
  CarriedAs Good old new = IsMoved old new × ((seen new.held).faults ≡ (seen old.held).faults)
  CarriedAs (Bad before after) old new = IsTorn old new × (before ≡ (seen old.held).faults) × (after ≡ (seen new.held).faults) × (before < after)

  abbrev pub IsCarried : LiftView B → LiftView B → Type 0
  IsCarried old new = CarriedAs new.result old new
