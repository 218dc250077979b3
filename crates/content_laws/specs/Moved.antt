-- What each kind of entry does to the buffers of frames and to the blocks at home. This project's own.
use Rattle.std.specs.Prelude.{◌≡◌, ℕ, Bool, List, Option, Some, None, length, replicate}
use Rattle.vm_types.specs.declared.limits.TheConstants.{PAGE_BYTES}
use Rattle.vm_types.specs.BlockView.{BlockView}
use Rattle.vm_types.specs.declared.names.BlockId.{BlockId}
use Rattle.vm_types.specs.declared.config.Config.{Config}
use Rattle.vm_types.specs.declared.reference.Ref.{Ref}
use Rattle.vm_journal.specs.declared.entry.Entry.{Entry}
use Rattle.vm_journal.specs.declared.entry.What.{What}
use Rattle.vm_journal.specs.declared.entry.What.TheVariants as what
use Rattle.content_laws.specs.Put.{PutsBlock, PutsBuffer}
use Rattle.pager_model.specs.Fits.{FitsLift, Lift, Result, bad, good}
use Rattle.pager_model.specs.Flat.{bytes_after, offset_in_page}
use Rattle.pager_model.specs.Lookups.{entry_of}
use Rattle.pager_model.specs.Maps.{page_number}
use Rattle.pager_model.specs.Pager.{Pager, Valid}

-- the frame of a reference's valid entry, and the bytes of its buffer
pub record FindsBytes (a : Pager) (p : ℕ) (r : Ref) (buffer : ℕ → Option (List ℕ)) (bytes : List ℕ) : Type 0 where
  pub entry : Valid
  pub valid : entry_of a.valid p (page_number (r.addr).0) ≡ Some entry
  pub has : buffer entry.frame ≡ Some bytes

-- the operation is applied to that buffer
pub record AppliesOperation (a : Pager) (p : ℕ) (r : Ref) (buffer buffer' : ℕ → Option (List ℕ)) : Type 0 where
  pub bytes : List ℕ
  pub finds : FindsBytes a p r buffer bytes
  pub put : PutsBuffer (finds.entry).frame (Some (bytes_after r.op bytes (offset_in_page r))) buffer buffer'

-- a lift with this number and result lands: its block comes home
pub record BringsBlock (tells tells_plan : Bool) (config : Config) (past : List Entry) (a : Pager) (k : ℕ) (result : Result) (home home' : BlockId → Option BlockView) : Type 0 where
  pub lift : Lift
  pub fits : FitsLift tells tells_plan config past a lift
  pub start : lift.start ≡ k
  pub ended : lift.result ≡ result
  pub back : PutsBlock lift.block (Some lift.seen) home home'

-- and of a read the buffer too, with the bytes that the lift has
pub record BringsBuffer (tells tells_plan : Bool) (config : Config) (past : List Entry) (a : Pager) (f k : ℕ) (result : Result) (buffer buffer' : ℕ → Option (List ℕ)) (home home' : BlockId → Option BlockView) : Type 0 where
  pub block : BringsBlock tells tells_plan config past a k result home home'
  pub size : length (block.lift).buffer ≡ PAGE_BYTES
  pub put : PutsBuffer f (Some (block.lift).buffer) buffer buffer'

-- by its kind: an operation is applied, a page is zeroed, a transfer begins or lands, or nothing moves
abbrev pub Moves : Bool → Bool → Config → List Entry → Pager → ℕ → What → (ℕ → Option (List ℕ)) → (ℕ → Option (List ℕ)) → (BlockId → Option BlockView) → (BlockId → Option BlockView) → Type 0
Moves tells tells_plan config past a p (what.Done r answer) buffer buffer' home home' = AppliesOperation a p r buffer buffer' × (home' ≡ home)
Moves tells tells_plan config past a p (what.Zero address f) buffer buffer' home home' = PutsBuffer f.0 (Some (replicate PAGE_BYTES 0)) buffer buffer' × (home' ≡ home)
Moves tells tells_plan config past a p (what.In f b role) buffer buffer' home home' = PutsBuffer f.0 None buffer buffer' × PutsBlock b None home home'
Moves tells tells_plan config past a p (what.InOk f k) buffer buffer' home home' = BringsBuffer tells tells_plan config past a f.0 k good buffer buffer' home home'
Moves tells tells_plan config past a p (what.InFail f k c d) buffer buffer' home home' = BringsBuffer tells tells_plan config past a f.0 k (bad c d) buffer buffer' home home'
Moves tells tells_plan config past a p (what.Out f b) buffer buffer' home home' = (buffer' ≡ buffer) × PutsBlock b None home home'
Moves tells tells_plan config past a p (what.OutOk f k) buffer buffer' home home' = (buffer' ≡ buffer) × BringsBlock tells tells_plan config past a k good home home'
Moves tells tells_plan config past a p (what.OutFail f k c d) buffer buffer' home home' = (buffer' ≡ buffer) × BringsBlock tells tells_plan config past a k (bad c d) home home'
Moves tells tells_plan config past a p other buffer buffer' home home' = (buffer' ≡ buffer) × (home' ≡ home)
