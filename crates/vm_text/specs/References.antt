-- The words for references, replies and refusals. Source: this project's own.
use Rattle.std.specs.Prelude.{ℕ, ◌+◌, ◌*◌, ◌^◌, ◌<◌, List, [], ◌∷◌, ◌++◌, codes}
use Rattle.vm_types.specs.WellFormed.{width_bytes, op_bytes}
use Rattle.vm_types.specs.declared.reference.Mode.{Mode}
use Rattle.vm_types.specs.declared.reference.Mode.TheVariants.{K, E, S, U}
use Rattle.vm_types.specs.declared.reference.Op.{Op}
use Rattle.vm_types.specs.declared.reference.Op.TheVariants.{Read, Write, Add}
use Rattle.vm_types.specs.declared.reference.Ref.{Ref}
use Rattle.vm_types.specs.declared.reply.Reply.{Reply}
use Rattle.vm_types.specs.declared.reply.Reply.TheVariants.{Value, Written, Old, Refused}
use Rattle.vm_types.specs.declared.reply.Why.{Why}
use Rattle.vm_types.specs.declared.reply.Why.TheVariants.{Unmapped, Protected, PageFileFull, DiskFault}
use Rattle.vm_text.specs.Hex.{hex}
use Rattle.vm_text.specs.Names.{address_text}

-- user mode has no letter
abbrev pub mode_text : Mode → List ℕ
mode_text K = codes "K"
mode_text E = codes "E"
mode_text S = codes "S"
mode_text U = []

abbrev pub op_letter : Op → List ℕ
op_letter (Read width) = codes "R"
op_letter (Write width value) = codes "W"
op_letter (Add value) = codes "A"

-- the mode's letter, the op's letter and the bytes that it takes
abbrev pub op_text : Mode → Op → List ℕ
op_text mode op = mode_text mode ++ op_letter op ++ (48 + op_bytes op) ∷ []

-- an op with 0 as the value that is written or added, which its word doesn't show
abbrev pub bare : Op → Op
bare (Read width) = Read width
bare (Write width value) = Write width 0
bare (Add value) = Add 0

-- a value, in two digits for each byte that the op takes
abbrev pub value_text : Op → ℕ → List ℕ
value_text op value = hex (2 * op_bytes op) value

-- the value that is written or added
abbrev pub operand_words : Op → List (List ℕ)
operand_words (Read width) = []
operand_words (Write width value) = value_text (Write width value) value ∷ []
operand_words (Add value) = value_text (Add value) value ∷ []

abbrev pub reference_words : Ref → List (List ℕ)
reference_words r = op_text r.mode r.op ∷ address_text (r.addr).0 ∷ operand_words r.op

-- a read is answered by a value that fits it, a write by written, an add by the old longword
abbrev pub IsReplyTo : Op → Reply → Type 0
IsReplyTo (Read width) (Value value) = value < 256 ^ width_bytes width
IsReplyTo (Write width written) Written = Unit {0}
IsReplyTo (Add added) (Old value) = value < 256 ^ 4
IsReplyTo op other = ⊥

-- the value read or the old longword
abbrev pub reply_words : Op → Reply → List (List ℕ)
reply_words op (Value value) = value_text op value ∷ []
reply_words op Written = []
reply_words op (Old value) = value_text op value ∷ []
reply_words op (Refused why) = []

abbrev pub why_word : Why → List ℕ
why_word Unmapped = codes "UNMAPPED"
why_word Protected = codes "PROTECTED"
why_word PageFileFull = codes "PAGEFILEFULL"
why_word DiskFault = codes "DISKFAULT"
