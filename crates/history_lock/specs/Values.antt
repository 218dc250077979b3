-- The value of a turn. Source: this project's own.
use Rattle.std.specs.Prelude.{◌≡◌, Box}
use Rattle.history_lock.specs.declared.turn.Turn.{Turn}

-- the value that is away with a turn
abbrev pub value_of : {T : Type 0} → Turn T → T
value_of turn = turn.value.value

-- one turn, with whatever value
abbrev pub IsSameTurn : {T : Type 0} → Turn T → Turn T → Type 0
IsSameTurn old new = new.found ≡ old.found

-- what is said of a value, said of the box that holds it
abbrev pub of_box : {T A C : Type 0} → (T → C) → Box T A → C
of_box f box = f box.value
