-- Which bytes begin a dump, and where bytes stop being one. Source: this project's own.
use Rattle.std.specs.Prelude.{◌≡◌, ℕ, ◌+◌, ◌<◌, ◌≤◌, List, ◌++◌, length, take}
use Rattle.dump_bytes.specs.Dumped.{Dumped}
use Rattle.dump_bytes.specs.Text.{dump_text}
use Rattle.dump_bytes.specs.Bounds.{IsDump}

-- these bytes are the whole text of this dump
pub record IsTextOf (bytes : List ℕ) (d : Dumped) : Type 0 where
  pub bounds : IsDump d
  pub text : bytes ≡ dump_text d

-- some dump's text begins with these bytes
abbrev pub BeginsDump : List ℕ → Type 0
BeginsDump bytes = (d : Dumped) × (rest : List ℕ) × IsTextOf (bytes ++ rest) d

-- the first n bytes begin some dump, and those with the next byte begin none; or the bytes end
-- after n, begin some dump and are no whole one
pub record IsBadAfter (bytes : List ℕ) (n : ℕ) : Type 0 where
  pub within : n ≤ length bytes
  pub begins : BeginsDump (take n bytes)
  pub stops : n < length bytes → ¬ BeginsDump (take (n + 1) bytes)
  pub ends : n ≡ length bytes → (d : Dumped) → ¬ IsTextOf bytes d
