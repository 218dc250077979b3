-- A loan of the bytes of a frame. No contract of a public call names it. This project's own.
use Rattle.std.specs.Prelude.{ℕ, List, Option}
use Rattle.std.specs.Borrow.{Lends, MutBor, Fml, Array, u8}
use Rattle.page_pool.specs.Pool.{Buffer}
use Rattle.frame_store.specs.Place.{with_bytes}
use Rattle.frame_store.specs.contracts.frame.Frame.{the_row}

-- the frame ends with the bytes last written
abbrev pub LendsFrame : MutBor (Option Buffer) → MutBor (List ℕ) → Fml
LendsFrame frame bytes = Lends the_row (Array u8 0) frame bytes (with_bytes frame.now)
