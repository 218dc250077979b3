-- Counts by frame, while more is counted. This project's own.
use Rattle.std.specs.Prelude.{◌≡◌, ℕ, ◌+◌, ◌<◌, ◌^◌, List, length, slice_index}

-- each count is raised by what is added for its frame
pub record AreRaised (more : ℕ → ℕ) (old new : List ℕ) : Type 0 where
  pub size : length new ≡ length old
  pub each : (f : ℕ) → f < length old → slice_index new f ≡ slice_index old f + more f

-- each count can be raised so often
abbrev pub HaveRoom : ℕ → List ℕ → Type 0
HaveRoom more counts = (f : ℕ) → slice_index counts f + more < 2 ^ 32
