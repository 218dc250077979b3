-- Loans of parts of a store. Source: this project's own.
use Rattle.std.specs.Prelude.{ℕ, List, Some, slice_set}
use Rattle.std.specs.Borrow.{Lends, RattleType, MutBor, Fml, Array, u8}
use Rattle.disk_trait.specs.declared.block.Block.{Ghosts}
use Rattle.pfn_database.specs.Frames.{Frames}
use Rattle.pfn_database.specs.contracts.pfns.Pfns.{the_row as frames_row}
use Rattle.frame_store.specs.StoreView.{StoreView}
use Rattle.frame_store.specs.contracts.store.Store.{the_row}

-- the store ends with the database last written
abbrev pub LendsFrames : (B : RattleType) → Ghosts B.Denot → MutBor (StoreView B.Denot) → MutBor Frames → Fml
LendsFrames B g store frames = Lends (the_row B g) frames_row store frames (λ written. record store.now { frames = written })

-- the store ends with the bytes last written in the buffer of the frame
abbrev pub LendsBytes : (B : RattleType) → Ghosts B.Denot → MutBor (StoreView B.Denot) → ℕ → MutBor (List ℕ) → Fml
LendsBytes B g store f bytes =
    Lends (the_row B g) (Array u8 0) store bytes (λ written. record store.now { buffers = slice_set (store.now).buffers f (Some written) })
