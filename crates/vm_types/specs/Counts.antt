-- Counts of faults. A count is at most 2^64 - 1 and stays there. Source: this project's own.
use Rattle.std.specs.Prelude.{ℕ, ◌+◌, ◌-◌, ◌^◌, ◌≤◌, min}

-- one more, up to the count's end
abbrev pub raised : ℕ → ℕ
raised count = min (count + 1) (2 ^ 64 - 1)

-- the count has risen; one that stands at its end counts as risen
abbrev pub Rose : ℕ → ℕ → Type 0
Rose before now = raised before ≤ now
