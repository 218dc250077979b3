-- Numbers put in ascending order. This project's own.
use Rattle.std.specs.Prelude.{ℕ, List, [], ◌∷◌, nat_le, if◌then◌else◌}

-- a number in front of those that aren't below it
abbrev pub placed : ℕ → List ℕ → List ℕ
placed n [] = n ∷ []
placed n (m ∷ numbers) = if nat_le n m then n ∷ m ∷ numbers else m ∷ placed n numbers

abbrev pub ascending : List ℕ → List ℕ
ascending [] = []
ascending (n ∷ numbers) = placed n (ascending numbers)
