-- The line that comes next.
use Rattle.std.proofs.Common.{◌≡◌, ℕ, Bool, false, List, ◌++◌, length, ap}
use Rattle.std.specs.Prelude.{◌==◌, if◌then◌else◌, codes}
use Rattle.std.specs.List.{flat_map}
use Rattle.command_messages.specs.LogMessage.{next_text}
use Rattle.command_messages.specs.Shown.{shown}

pub next_some : (right : List ℕ) → (length right == 0) ≡ false → next_text right ≡ codes "the line that comes here is " ++ flat_map shown right
next_some right some = ap (λ (b : Bool). if b then codes "no line comes here" else codes "the line that comes here is " ++ flat_map shown right) some
