-- How what is wrong travels up from where it is found. Source: this project's own.
use Rattle.std.specs.Prelude.{Bool, Result, Ok, Err, if◌then◌else◌}

-- what follows from a value, if there is one; else what is wrong stays
infixl 10 ◌>>=◌
abbrev pub ◌>>=◌ : {A B E : Type 0} → Result A E → (A → Result B E) → Result B E
(Ok x) >>= f = f x
(Err wrong) >>= f = Err wrong

-- the value, if the test holds; else this is wrong
abbrev pub owed : {A E : Type 0} → Bool → E → Result A E → Result A E
owed test wrong value = if test then value else Err wrong
