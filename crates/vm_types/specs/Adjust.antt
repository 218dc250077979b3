-- Automatic working set limit adjustment. Source: Kenah and Bate, "VAX/VMS Internals and Data
-- Structures", automatic working set limit adjustment (PFRATH, PFRATL, WSINC, WSDEC, AWSMIN, BORROWLIM);
-- the exact rule is this project's own.
use Rattle.std.specs.Prelude.{ℕ, ◌+◌, ◌-◌, nat_le, nat_lt, if◌then◌else◌}
use Rattle.vm_types.specs.declared.config.Params.{Params}
use Rattle.vm_types.specs.declared.config.ProcSpec.{ProcSpec}

abbrev pub greater : ℕ → ℕ → ℕ
greater m n = if nat_le m n then n else m

abbrev pub lesser : ℕ → ℕ → ℕ
lesser m n = if nat_le m n then m else n

-- the least limit that an adjustment gives: AWSMIN, or two above the pages that may be locked
abbrev pub floor_of : Params → ProcSpec → ℕ
floor_of params spec = greater params.awsmin (spec.locks + 2)

-- the greatest: the extent where there are free frames to lend, else the quota
abbrev pub cap_of : Params → ProcSpec → ℕ → ℕ
cap_of params spec free = if nat_lt params.borrowlim free then spec.extent else spec.quota

-- above PFRATH faults a limit rises by WSINC, as far as the cap; below PFRATL it falls by WSDEC, as far
-- as the floor; it never falls for many faults, nor rises for few
abbrev pub adjust : Params → ProcSpec → ℕ → ℕ → ℕ → ℕ
adjust params spec faults limit free =
    if nat_lt params.pfrath faults then greater limit (lesser (limit + params.wsinc) (cap_of params spec free))
    else (if nat_lt faults params.pfratl then lesser limit (greater (limit - params.wsdec) (floor_of params spec)) else limit)
