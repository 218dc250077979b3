-- The first word of a text. Source: this project's own.
use Rattle.std.specs.Prelude.{◌≡◌, ℕ, ◌<◌, ◌≤◌, List, length, slice_index, take}

-- so many bytes end before a blank or with the text
pub record EndsWord (text : List ℕ) (end : ℕ) : Type 0 where
  pub within : end ≤ length text
  pub blank : end < length text → slice_index text end ≡ 32

-- a text's first bytes are these, and a blank or its end is behind them
pub record IsFront (word : List ℕ) (end : ℕ) (text : List ℕ) : Type 0 where
  pub same : take end text ≡ word
  pub ends : EndsWord text end
