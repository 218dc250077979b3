-- Addresses. Source: VAX Architecture Reference Manual, memory management.
use Rattle.std.specs.Prelude.{ℕ, ◌/◌, ◌%◌, ◌^◌}
use Rattle.vm_types.specs.declared.limits.TheConstants.{PAGE_BYTES}

-- 0 is P0, 1 is P1, 2 is S0
abbrev pub region_of : ℕ → ℕ
region_of address = address / 2 ^ 30

-- the number of the page in its region
abbrev pub page_of : ℕ → ℕ
page_of address = (address % 2 ^ 30) / PAGE_BYTES

-- the byte in the page
abbrev pub offset_of : ℕ → ℕ
offset_of address = address % PAGE_BYTES
