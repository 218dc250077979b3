-- How many pages a read cluster has, as a number. Source: Kenah and Bate, "VAX/VMS Internals and Data
-- Structures", paging dynamics, clustered reads; the bound by the free frames is this project's own.
use Rattle.std.specs.Prelude.{ℕ, Bool, ◌+◌, ◌-◌, List, [], ◌∷◌, if◌then◌else◌}
use Rattle.vm_types.specs.Adjust.{greater, lesser}

abbrev pub leading_out : List Bool → ℕ
leading_out [] = 0
leading_out (b ∷ bs) = if b then leading_out bs + 1 else 0

-- the pages that are out from the faulting page on, at most PFC, and so that a frame stays free
abbrev pub cluster_length : List Bool → ℕ → ℕ → ℕ
cluster_length out pfc free = lesser (lesser (leading_out out) pfc) (greater 1 (free - 1))
