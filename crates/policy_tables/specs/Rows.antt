-- A table: rows in order, of which the first one counts that holds. That the journal has no room is no row: room for
-- the entries is reserved before a step. This project's own.
use Rattle.std.specs.Prelude.{◌≡◌, ℕ, zero, suc, Bool, true, false, List, [], ◌∷◌, Option, Some, None}

-- a row: what is made if this holds
abbrev pub when : {X : Type 0} → Bool → X → Option X
when true x = Some x
when false x = None

-- a row: what is made of that which is there, if it is there
abbrev pub if_there : {A X : Type 0} → Option A → (A → X) → Option X
if_there None make = None
if_there (Some it) make = Some (make it)

-- a row on that which is there, if it is there
abbrev pub row_on : {A X : Type 0} → Option A → (A → Option X) → Option X
row_on None row = None
row_on (Some it) row = row it

-- the last row of a table that has a row for everything
abbrev pub otherwise : {X : Type 0} → X → Option X
otherwise x = Some x

-- rows on that which is there, if it is there
abbrev pub rows_on : {A X : Type 0} → Option A → (A → List (Option X)) → List (Option X)
rows_on None rows = []
rows_on (Some it) rows = rows it

-- the first row that holds, if one does
abbrev pub first_case : {X : Type 0} → List (Option X) → Option X
first_case [] = None
first_case (Some x ∷ rows) = Some x
first_case (None ∷ rows) = first_case rows

-- one of the rows holds, and this is so of what the first of those says
pub record IsByCases {X : Type 0} (rows : List (Option X)) (IsSo : X → Type 0) : Type 0 where
  pub says : X
  pub first : first_case rows ≡ Some says
  pub so : IsSo says

-- ---- what is there
-- that which is there, but only if this holds
abbrev pub only_if : {A : Type 0} → Bool → Option A → Option A
only_if true o = o
only_if false o = None

-- that which is there, but only if it passes
abbrev pub that_is : {A : Type 0} → (A → Bool) → Option A → Option A
that_is test None = None
that_is test (Some it) = only_if (test it) (Some it)

abbrev pub first_of_list : {A : Type 0} → List A → Option A
first_of_list [] = None
first_of_list (x ∷ xs) = Some x

abbrev pub is_none_left : {A : Type 0} → List A → Bool
is_none_left [] = true
is_none_left (x ∷ xs) = false

-- one less, if there is one
abbrev pub one_fewer : ℕ → Option ℕ
one_fewer zero = None
one_fewer (suc n) = Some n
