-- A loan of the bytes of a buffer. Source: this project's own.
use Rattle.std.specs.Prelude.{ℕ, List}
use Rattle.std.specs.Borrow.{Lends, MutBor, Fml, Array, u8}
use Rattle.page_pool.specs.Pool.{Buffer}
use Rattle.page_pool.specs.contracts.page_buf.PageBuf.{the_row}

-- the buffer ends with the bytes last written, and is still of its pool
abbrev pub LendsBytes : MutBor Buffer → MutBor (List ℕ) → Fml
LendsBytes buf bytes = Lends the_row (Array u8 0) buf bytes (λ written. record buf.now { bytes = written })
