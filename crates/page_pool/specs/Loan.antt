-- A loan of the bytes of a part. Source: this project's own.
use Rattle.std.specs.Prelude.{ℕ, List}
use Rattle.std.specs.Borrow.{Lends, MutBor, Fml}
use Rattle.page_pool.specs.Region.{Page}
use Rattle.page_pool.specs.declared.part.Part.{Part}
use Rattle.page_pool.specs.contracts.part.Part.{the_row}

-- the part with other bytes
abbrev pub with_bytes : Part → List ℕ → Part
with_bytes part written = record part { bytes = written }

-- the part ends with the bytes last written
abbrev pub LendsPart : MutBor Part → MutBor (List ℕ) → Fml
LendsPart part bytes = Lends the_row Page part bytes (with_bytes part.now)
