-- The value that a turn lends. Source: this project's own.
use Rattle.std.specs.Borrow.{Lends, MutBor, Fml, RattleType}
use Rattle.std.specs.Box.{with_value}
use Rattle.history_lock.specs.contracts.turn.Turn.{the_row}
use Rattle.history_lock.specs.declared.turn.Turn.{Turn}

-- a write to what is lent is a write to the turn's value
abbrev pub LendsValue : (R : RattleType) → MutBor (Turn R.Denot) → MutBor R.Denot → Fml
LendsValue R turn lent = Lends (the_row R) R turn lent (λ w. record turn.now { value = with_value turn.now.value w })
