-- What is added to a text, and what is answered as one, with how long it is at most. Source: this project's own.
use Rattle.std.specs.Prelude.{◌≡◌, ◌+◌, ◌≤◌, ℕ, List, ◌++◌, length}

-- behind what was there stands this text now, of at most so many bytes
abbrev pub Adds : List ℕ → List ℕ → List ℕ → ℕ → Type 0
Adds before after text most = (after ≡ before ++ text) × (length after ≤ length before + most)

-- the words are this text, of at most so many bytes
abbrev pub AreWords : List ℕ → List ℕ → ℕ → Type 0
AreWords words text most = (words ≡ text) × (length words ≤ most)
