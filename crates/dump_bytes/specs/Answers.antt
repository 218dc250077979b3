-- What a reader of the code answers, beside the reading of lists. Source: this project's own.
use Rattle.std.specs.Prelude.{◌≡◌, ℕ, Result, Ok, Err}
use Rattle.dump_bytes.specs.declared.left.Left.{Left}

-- the answer, seen by view, is what reading the list gives
abbrev pub Gives : {X Y : Type 0} → (X → Y) → Result X Left → Result Y ℕ → Type 0
Gives view (Ok x) read = read ≡ Ok (view x)
Gives view (Err left) read = read ≡ Err left.0
