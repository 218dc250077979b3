-- Words as the code holds them. Source: this project's own.
use Rattle.std.specs.Prelude.{ℕ, List, [], ◌∷◌, Option, option_map}
use Rattle.std.specs.Borrow.{Bor}
use Rattle.trace_words.specs.declared.split.Words.{Words}
use Rattle.trace_words.specs.declared.split.Words.TheVariants.{Zero, One, Two, Three, Four, Five, Six, More}
use Rattle.trace_words.specs.Words.{words}

-- the words, in order
abbrev pub listed : Words → List (List ℕ)
listed Zero = []
listed (One a) = a.now ∷ []
listed (Two a b) = a.now ∷ b.now ∷ []
listed (Three a b c) = a.now ∷ b.now ∷ c.now ∷ []
listed (Four a b c d) = a.now ∷ b.now ∷ c.now ∷ d.now ∷ []
listed (Five a b c d e) = a.now ∷ b.now ∷ c.now ∷ d.now ∷ e.now ∷ []
listed (Six a b c d e f) = a.now ∷ b.now ∷ c.now ∷ d.now ∷ e.now ∷ f.now ∷ []
listed (More a b c d e f g rest) = a.now ∷ b.now ∷ c.now ∷ d.now ∷ e.now ∷ f.now ∷ g.now ∷ words rest.now

-- both parts of a text
abbrev pub both : Option (Bor (List ℕ) × Bor (List ℕ)) → Option (List ℕ × List ℕ)
both parts = option_map (λ p. (p.0.now, p.1.now)) parts
