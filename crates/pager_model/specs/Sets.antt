-- Finite sets as lists, and functions changed at one place.
use Rattle.std.specs.Prelude.{ℕ, Bool, List, ◌∷◌, nat_eq, if◌then◌else◌}
use Rattle.std.specs.List.{list_any}
use Rattle.vm_types.specs.declared.names.Page.{Page}
use Rattle.vm_types.specs.Same.{same_page}

-- whether the number is in the list
abbrev pub has : List ℕ → ℕ → Bool
has xs x = list_any (nat_eq x) xs

-- whether the page is in the list
abbrev pub has_page : List Page → Page → Bool
has_page pages page = list_any (same_page page) pages

-- the list with the page, once
abbrev pub with_page : List Page → Page → List Page
with_page pages page = if has_page pages page then pages else (page ∷ pages)

-- the function with one value changed
abbrev pub at_number : {X : Type 0} → (ℕ → X) → ℕ → X → ℕ → X
at_number f n x m = if nat_eq n m then x else f m

abbrev pub at_page : {X : Type 0} → (Page → X) → Page → X → Page → X
at_page f page x other = if same_page page other then x else f other
