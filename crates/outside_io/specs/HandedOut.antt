-- The lines that a text parts into, one after another. Source: this project's own.
use Rattle.std.specs.Prelude.{◌≡◌, ◌≢◌, ℕ, ◌≤◌, true, false, List, [], ◌∷◌, ◌++◌, All, Option, Some, Result, Ok, Err, length}
use Rattle.vm_types.specs.declared.faults.Failed.{Failed}
use Rattle.outside_io.specs.declared.lines.Line.{Line}
use Rattle.outside_io.specs.declared.lines.Line.TheVariants.{Text, Long, End}

-- no byte ends a line
abbrev pub IsInLine : List ℕ → Type 0
IsInLine bytes = All (λ b. b ≢ 10) bytes

-- what the bytes are behind which none is left
abbrev pub last_of : List ℕ → Line
last_of [] = End
last_of (b ∷ out) = Text false

-- what is handed out: a line without the byte 10 behind it, which is missing only behind a last line that
-- isn't empty; or the first 256 bytes of a longer one
abbrev pub HandsOut : Line → List ℕ → Type 0
HandsOut (Text true) out = IsInLine out × (length out ≤ 255)
HandsOut (Text false) out = IsInLine out × (length out ≤ 255) × (out ≢ [])
HandsOut Long out = IsInLine out × (length out ≡ 256)
HandsOut End out = out ≡ []

-- it is the front of the text, and this is the rest
abbrev pub Parts : Line → List ℕ → List ℕ → List ℕ → Type 0
Parts (Text true) text out rest = text ≡ out ++ 10 ∷ rest
Parts (Text false) text out rest = (text ≡ out) × (rest ≡ [])
Parts Long text out rest = text ≡ out ++ rest
Parts End text out rest = (text ≡ []) × (rest ≡ [])

-- what an answer hands out; after a failure it is a part of a line
abbrev pub Gives : Result Line Failed → List ℕ → Type 0
Gives (Ok line) out = HandsOut line out
Gives (Err failed) out = IsInLine out × (length out ≤ 255)

abbrev pub Leaves : Result Line Failed → List ℕ → List ℕ → List ℕ → Type 0
Leaves (Ok line) text out rest = Parts line text out rest
Leaves (Err failed) text out rest = text ≡ out ++ rest

-- the text was left before, and now its rest is
pub record Takes (answer : Result Line Failed) (text out : List ℕ) (left : Option (List ℕ)) : Type 0 where
  pub rest : List ℕ
  pub left_over : left ≡ Some rest
  pub parts : Leaves answer text out rest
