-- What a block in memory holds. Source: this project's own.
use Rattle.std.specs.Prelude.{ℕ, List, [], replicate}
use Rattle.vm_types.specs.declared.limits.TheConstants.{PAGE_BYTES}
use Rattle.disk_trait.specs.declared.body.Place.{Place}
use Rattle.disk_trait.specs.declared.body.Place.TheVariants as place

pub record BodyView : Type 0 where
  -- its bytes
  pub bytes : List ℕ
  -- the numbers of the calls at which the block is to fail
  pub calls : List ℕ
  -- how often it has failed
  pub faults : ℕ

-- the bytes: zeros as long as they were not written
abbrev pub bytes_at : Place → List ℕ
bytes_at (place.Buffer buf) = buf.bytes
bytes_at (place.Planned planned) = planned.value.buf.bytes
bytes_at other = replicate PAGE_BYTES 0

-- the numbers of the calls that fail, if there are any
abbrev pub calls_at : Place → List ℕ
calls_at (place.Planned planned) = planned.value.calls.items
calls_at other = []

-- how often it has failed: never, if it is to fail at no call
abbrev pub faults_at : Place → ℕ
faults_at (place.Planned planned) = planned.value.faults
faults_at other = 0

-- there is a buffer, or a part for one
abbrev pub IsThere : Place → Type 0
IsThere place.Out = ⊥
IsThere other = Unit {0}

-- there is a part for a buffer, and no buffer
abbrev pub IsSpare : Place → Type 0
IsSpare (place.Spare spare) = Unit {0}
IsSpare other = ⊥
