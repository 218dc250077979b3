-- Protection codes. Source: VAX Architecture Reference Manual, protection of pages. That the
-- reserved code 1 allows nothing is this project's own.
use Rattle.std.specs.Prelude.{ℕ, Bool, false, List, [], ◌∷◌, Option, Some, None, nat_le, if◌then◌else◌, slice_index_or}
use Rattle.vm_types.specs.declared.reference.Mode.{Mode}
use Rattle.vm_types.specs.declared.reference.Mode.TheVariants.{K, E, S, U}

-- the modes, from the most privileged on
abbrev pub rank : Mode → ℕ
rank K = 0
rank E = 1
rank S = 2
rank U = 3

-- by code, the least privileged mode that may read, and the one that may write; write implies read
abbrev pub rights : List (Option Mode × Option Mode)
rights =
    (None, None) ∷ (None, None) ∷ (Some K, Some K) ∷ (Some K, None) ∷
    (Some U, Some U) ∷ (Some E, Some E) ∷ (Some E, Some K) ∷ (Some E, None) ∷
    (Some S, Some S) ∷ (Some S, Some E) ∷ (Some S, Some K) ∷ (Some S, None) ∷
    (Some U, Some S) ∷ (Some U, Some E) ∷ (Some U, Some K) ∷ (Some U, None) ∷ []

-- every more privileged mode has the right too
abbrev pub reaches : Mode → Option Mode → Bool
reaches mode None = false
reaches mode (Some least) = nat_le (rank mode) (rank least)

-- whether a page with the code may be read, or written, in the mode
abbrev pub is_allowed : ℕ → Mode → Bool → Bool
is_allowed code mode write =
    let right = slice_index_or rights code (None, None) in
    reaches mode (if write then right.1 else right.0)
