-- Words are copied one after another, and are then texts.
use Rattle.std.proofs.Common.{◌≡◌, ℕ, List, [], ◌∷◌, ◌++◌, drop, sym, ◌∙◌, ap, subst, append_assoc}
use Rattle.std.specs.Prelude.{None, Some, IfSome}
use Rattle.std.specs.declared.option.Option.{Option}
use Rattle.program_call.specs.Words.{TakesWord}

-- these words were copied so far
abbrev pub Copied : Option (List (List ℕ)) → Option (List (List ℕ)) → List (List ℕ) → Type 0
Copied before now words = IfSome before (λ all. (rest : List (List ℕ)) × (drop 1 all ≡ words ++ rest) × (now ≡ Some rest))

pub copied_more : (before now next : Option (List (List ℕ))) (words : List (List ℕ)) (word : List ℕ)
    → Copied before now words → TakesWord now next (Some word) → Copied before next (words ++ word ∷ [])
copied_more None now next words word copied takes = tt
copied_more (Some all) now next words word copied takes =
    let taken : TakesWord (Some copied.0) next (Some word) = subst (λ left. TakesWord left next (Some word)) copied.2 takes in
    (taken.0, copied.1 ∙ ap (λ rest. words ++ rest) taken.1 ∙ sym (append_assoc words (word ∷ []) taken.0), taken.2)
