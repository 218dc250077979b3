-- The buffer of a frame, by where its bytes are. No contract of a public call names these definitions. This
-- project's own.
use Rattle.std.specs.Prelude.{ℕ, List, Option, Some, None, replicate}
use Rattle.std.specs.Option.{option_map}
use Rattle.std.specs.Borrow.{Lends, MutBor, Fml, Array, u8}
use Rattle.vm_types.specs.declared.limits.TheConstants.{PAGE_BYTES}
use Rattle.page_pool.specs.Pool.{Buffer}
use Rattle.frame_store.specs.declared.place.Place.{Place}
use Rattle.frame_store.specs.declared.place.Place.TheVariants as place
use Rattle.frame_store.specs.contracts.place.Place.{the_row}

-- a buffer of zeros as long as it wasn't written; none: out
abbrev pub buffer_of : Place → Option Buffer
buffer_of (place.Spare pool) = Some (record { pool = pool; bytes = replicate PAGE_BYTES 0 })
buffer_of (place.Buffer buf) = Some buf
buffer_of place.Out = None

-- the bytes of a buffer
abbrev pub bytes_in : Option Buffer → Option (List ℕ)
bytes_in buffer = option_map (λ (b : Buffer). b.bytes) buffer

-- a buffer with other bytes
abbrev pub with_bytes : Option Buffer → List ℕ → Option Buffer
with_bytes buffer written = option_map (λ (b : Buffer). record b { bytes = written }) buffer

-- bytes in a buffer of the same pool
abbrev pub written_in : Place → List ℕ → Place
written_in (place.Spare pool) written = place.Buffer (record { pool = pool; bytes = written })
written_in (place.Buffer buf) written = place.Buffer (record buf { bytes = written })
written_in place.Out written = place.Out

-- the bytes last written are in the buffer
abbrev pub LendsPlace : MutBor Place → MutBor (List ℕ) → Fml
LendsPlace at bytes = Lends the_row (Array u8 0) at bytes (written_in at.now)
