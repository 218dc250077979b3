-- The plain form of a reference's line: a reference in user mode with one blank between two words, the
-- operation's name of two bytes and the address of eight. Source: this project's own.
use Rattle.std.specs.Prelude.{◌≡◌, ◌≢◌, ℕ, ◌^◌, ◌==◌, Bool, ◌&&◌, true, length, nat_le, nat_lt, List, [], ◌∷◌, ◌++◌, All, Some, Ok}
use Rattle.vm_types.specs.Versions.{most_lines, most_requests}
use Rattle.vm_types.specs.WellFormed.{width_bytes}
use Rattle.vm_types.specs.declared.config.Task.{Task}
use Rattle.vm_types.specs.declared.reference.Mode.{Mode}
use Rattle.vm_types.specs.declared.reference.Op.{Op}
use Rattle.vm_types.specs.declared.reference.Op.TheVariants as op
use Rattle.vm_types.specs.declared.reference.Width.{Width}
use Rattle.vm_types.specs.declared.reference.Width.TheVariants.{Four}
use Rattle.vm_types.specs.declared.service.Request.TheVariants as request
use Rattle.trace_words.specs.declared.ops.Access.{Access}
use Rattle.trace_words.specs.declared.ops.Access.TheVariants.{Read, Write, Add}
use Rattle.trace_words.specs.declared.ops.OpName.{OpName}
use Rattle.trace_words.specs.Number.{hexadecimal}
use Rattle.trace_words.specs.OpWords.{op_name}
use Rattle.trace_lines.specs.declared.part.Part.{Part}
use Rattle.trace_lines.specs.declared.places.Place.TheVariants.{Requests}
use Rattle.trace_lines.specs.Grammar.{judged}
use Rattle.trace_lines.specs.Places.{rank}
use Rattle.trace_lines.specs.Says.{Request}

-- a line of this number may be a request: it stands among them, and the lines and requests don't get too many
abbrev pub takes_request : ℕ → Part → Bool
takes_request number part =
    nat_le number (most_lines part.config.version) && (rank part.place == rank Requests) && nat_lt (length part.config.body) (most_requests part.config.version)

-- the process's byte, the operation, the address's word, and what stands behind it
pub record IsPlainFront (text : List ℕ) (x : ℕ) (name : OpName) (address behind : List ℕ) : Type 0 where
  pub first : ℕ
  pub second : ℕ
  pub whole : text ≡ x ∷ 32 ∷ first ∷ second ∷ 32 ∷ (address ++ behind)
  pub named : op_name (first ∷ second ∷ []) ≡ Some name

-- one blank and the value, which fits the width
pub record IsPlainValue (width : Width) (behind : List ℕ) (value : ℕ) : Type 0 where
  pub word : List ℕ
  pub whole : behind ≡ 32 ∷ word
  pub spelled : hexadecimal word ≡ Ok value
  pub fits : nat_lt value (256 ^ width_bytes width) ≡ true

abbrev pub width_of : Access → Width
width_of (Read width) = width
width_of (Write width) = width
width_of Add = Four

-- what writes or adds the value
abbrev pub IsValued : Access → ℕ → Op → Type 0
IsValued (Read width) value what = ⊥
IsValued (Write width) value what = what ≡ op.Write width value
IsValued Add value what = what ≡ op.Add value

-- nothing behind the address of a read, the value behind that of a write or an add
abbrev pub IsPlainOp : Access → List ℕ → Op → Type 0
IsPlainOp (Read width) behind what = (behind ≡ []) × (what ≡ op.Read width)
IsPlainOp (Write width) behind what = (value : ℕ) × IsPlainValue width behind value × (what ≡ op.Write width value)
IsPlainOp Add behind what = (value : ℕ) × IsPlainValue Four behind value × (what ≡ op.Add value)

-- the number stands in front of a byte 10, and the rest behind it
pub record IsEndedNumber (text : List ℕ) (value : ℕ) (rest : List ℕ) : Type 0 where
  pub word : List ℕ
  pub split : text ≡ word ++ 10 ∷ rest
  pub spelled : hexadecimal word ≡ Ok value

-- the value stands in front of a byte 10, and the rest behind it
pub record IsEndedValue (width : Width) (text : List ℕ) (value : ℕ) (rest : List ℕ) : Type 0 where
  pub behind : List ℕ
  pub split : text ≡ behind ++ 10 ∷ rest
  pub valued : IsPlainValue width behind value

-- what the access does stands in front of a byte 10, and the rest behind it
pub record IsEndedOp (access : Access) (text : List ℕ) (what : Op) (rest : List ℕ) : Type 0 where
  pub behind : List ℕ
  pub split : text ≡ behind ++ 10 ∷ rest
  pub does : IsPlainOp access behind what

-- the process of this number asks for this
abbrev pub asked : ℕ → Mode → ℕ → Op → Task
asked p mode at what = record { proc = record { 0 = p }; request = request.Reference (record { mode = mode; addr = record { 0 = at }; op = what }) }

-- the text's first line asks for this, and the rest stands behind the byte 10 that ends it
pub record IsFirstRequest (number : ℕ) (part : Part) (text : List ℕ) (task : Task) (rest : List ℕ) : Type 0 where
  pub line : List ℕ
  pub split : text ≡ line ++ 10 ∷ rest
  pub one_line : All (λ b. b ≢ 10) line
  pub asks : judged number part line ≡ Ok (Request task)
