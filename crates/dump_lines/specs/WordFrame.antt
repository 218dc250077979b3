-- The frame of a valid entry: bits 20:0 of its word. Source: VAX Architecture Reference Manual, memory
-- management.
use Rattle.std.specs.Prelude.{ℕ, ◌%◌, ◌^◌}

abbrev pub frame_of : ℕ → ℕ
frame_of word = word % 2 ^ 21
