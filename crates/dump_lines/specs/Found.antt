-- Whether what was found is this frame. This project's own.
use Rattle.std.specs.Prelude.{ℕ, Bool, false, Option, Some, None, nat_eq}

abbrev pub is_frame : ℕ → Option ℕ → Bool
is_frame f None = false
is_frame f (Some g) = nat_eq g f
