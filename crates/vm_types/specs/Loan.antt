-- A loan of the items of a list. Source: this project's own.
use Rattle.std.specs.Prelude.{List, length}
use Rattle.std.specs.List.{refill}
use Rattle.std.specs.Borrow.{Lends, RattleType, MutBor, Fml, Array}
use Rattle.vm_types.specs.contracts.listed.Listed.{the_row}

-- the list ends with the items last written, as many as there were
abbrev pub LendsItems : (X : RattleType) → MutBor (List X.Denot) → MutBor (List X.Denot) → Fml
LendsItems X list items = Lends (the_row X) (Array X 0) list items (refill (length list.now) list.now)
