-- What a sink that was empty has taken when a whole text was written.
use Rattle.std.proofs.Common.{◌≡◌, inl, inr, ℕ, List, [], Option, Some, subst}
use Rattle.std.specs.Io.KnownBytes.{Appends}
use Rattle.outside_io.specs.Views.{SinkView}
use Rattle.command_ends.specs.Ends.{Ends}

pub whole_taken : (before after : Option (List ℕ)) (text result : List ℕ) → before ≡ Some [] → after ≡ Some result → Appends before after text → result ≡ text
whole_taken before after text result empty told appends =
    subst (λ (o : Option (List ℕ)). Appends (Some []) o text) told (subst (λ (o : Option (List ℕ)). Appends o after text) empty appends)

-- a text that ended with its own status, which isn't 4
pub whole_ended : (before after : SinkView) (status : ℕ) (text : List ℕ) (n : ℕ) → Ends before after status text n → (n ≡ 4 → ⊥) → Appends before.taken after.taken text
whole_ended before after status text n ends apart = elim ends.how [
  | inl whole ↦ whole.1
  | inr cut ↦ absurd (apart cut.0)
]
