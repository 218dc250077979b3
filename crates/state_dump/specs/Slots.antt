-- The page of a slot. This project's own.
use Rattle.std.specs.Prelude.{ℕ, List, [], ◌∷◌, Option, Some, None}
use Rattle.vm_types.specs.Ring.{Held}

-- none of an empty one
abbrev pub page_in : Option Held → List ℕ
page_in None = []
page_in (Some held) = held.vpn ∷ []
