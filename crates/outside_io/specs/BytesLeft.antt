-- The bytes that a source's lines have not handed out yet. Source: this project's own.
use Rattle.std.specs.Prelude.{◌≡◌, ℕ, Bool, List, ◌∷◌, ◌++◌, Option, take, drop, if◌then◌else◌}
use Rattle.std.specs.Io.KnownBytes.{prepend_known}
use Rattle.outside_io.specs.Views.{SourceView}
use Rattle.outside_io.specs.HandedOut.{IsInLine}
use Rattle.outside_io.specs.declared.lines.Lines.{Lines}

-- the bytes that were read and not handed out
abbrev pub pending : List ℕ → ℕ → ℕ → List ℕ
pending buffer next filled = drop next (take filled buffer)

-- those, and then the bytes that the source has left, if they are known
abbrev pub bytes_left : {S : Type 0} → (S → SourceView) → Lines S → Option (List ℕ)
bytes_left seen lines = prepend_known (pending lines.buffer lines.next lines.filled) (seen (lines.source).now).left

-- of the bytes that were read so many went to a line, behind which a byte 10 was handed out too, or none
pub record IsHeldTaken (ended : Bool) (held out left longer : List ℕ) : Type 0 where
  pub part : List ℕ
  pub in_line : IsInLine part
  pub put : longer ≡ out ++ part
  pub off : held ≡ part ++ (if ended then 10 ∷ left else left)
