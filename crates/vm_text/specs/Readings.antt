-- What a reader of words gives. Source: this project's own.
use Rattle.std.specs.Prelude.{◌≡◌, ◌≢◌, ℕ, List, ◌++◌, Option, IfSome, IfNone}

-- of a text, as bytes or as words: the value that has this text, or none, and then no value has it
pub record Reads {X T : Type 0} (Has : X → Type 0) (text_of : X → T) (text : T) (result : Option X) : Type 0 where
  pub found : IfSome result (λ x. Has x × (text_of x ≡ text))
  pub none : IfNone result ((x : X) → Has x → text_of x ≢ text)

-- of the words of a line: the value whose words come first, with the words behind them, or none, and
-- then no value's words come first
pub record Takes {X : Type 0} (Has : X → Type 0) (words_of : X → List (List ℕ)) (before after : List (List ℕ)) (result : Option X) : Type 0 where
  pub found : IfSome result (λ x. Has x × (words_of x ++ after ≡ before))
  pub none : IfNone result ((x : X) (rest : List (List ℕ)) → Has x → words_of x ++ rest ≢ before)
