-- Lists of words with the same first word, and what is behind it.
use Rattle.std.proofs.Common.{◌≡◌, ℕ, List, [], ◌∷◌, ◌∙◌, sym, ap, get_or, Option, Some, None}
use Rattle.vm_text.specs.Readings.{Reads, Takes}

pub behind : {x y : List ℕ} {xs ys before : List (List ℕ)} → x ∷ xs ≡ before → y ∷ ys ≡ before → xs ≡ ys
behind e f = let same = e ∙ sym f in cc

pub first : {x y : List ℕ} {xs ys before : List (List ℕ)} → x ∷ xs ≡ before → y ∷ ys ≡ before → x ≡ y
first e f = let same = e ∙ sym f in cc

-- the next word is read
pub takes_word : {X : Type 0} (Has : X → Type 0) (text_of : X → List ℕ) (before after : List (List ℕ)) (word : List ℕ) (r : Option X)
    → before ≡ word ∷ after → Reads Has text_of word r → Takes Has (λ x. text_of x ∷ []) before after r
takes_word Has text_of before after word None next reads =
    record { found = tt; none = λ x rest has e. reads.none x has (let same : (text_of x ∷ rest) ≡ word ∷ after = e ∙ next in cc) }
takes_word Has text_of before after word (Some x) next reads =
    record { found = (reads.found.0, ap (λ (w : List ℕ). w ∷ after) reads.found.1 ∙ sym next); none = tt }

-- the first byte of a text
abbrev pub first_byte : List ℕ → ℕ
first_byte text = get_or text 0 0
