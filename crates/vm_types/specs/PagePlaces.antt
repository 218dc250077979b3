-- Tables with an item for each page that a process may map: the first pages of P0, and the last of P1. A page is
-- numbered by its first address divided by 512. Source: regions by the VAX Architecture Reference Manual; which of their
-- pages may be mapped is this project's own.
use Rattle.std.specs.Prelude.{ℕ, ◌+◌, ◌-◌, ◌*◌, ◌^◌, ◌&&◌, List, Option, Some, None, nat_eq, nat_le, nat_lt, slice_index_or, option_and_then, if◌then◌else◌}
use Rattle.std.specs.Option.{option_map}
use Rattle.vm_types.specs.declared.limits.TheConstants.{P0_PAGES, P1_PAGES, PRIVATE_PAGES}

-- the place of a page among those of its process, the pages of P0 first
abbrev pub region_place : ℕ → Option ℕ
region_place v =
    if nat_lt v P0_PAGES then Some v
    else if nat_le (2 ^ 22 - P1_PAGES) v && nat_lt v (2 ^ 22) then Some (v - (2 ^ 22 - P1_PAGES) + P0_PAGES)
    else None

-- and among those of all processes, one process after another
abbrev pub page_place : ℕ → ℕ → Option ℕ
page_place p v = option_map (λ place. PRIVATE_PAGES * p + place) (region_place v)

-- what a table has at a page of a process: nothing at a page that has no place
abbrev pub item_at : {X : Type 0} → List (Option X) → ℕ → ℕ → Option X
item_at items p v = option_and_then (λ place. slice_index_or items place None) (page_place p v)

-- a function of process and page number with one value changed
abbrev pub changed_at : {X : Type 0} → (ℕ → ℕ → X) → ℕ → ℕ → X → ℕ → ℕ → X
changed_at f p v x q w = if nat_eq p q && nat_eq v w then x else f q w
