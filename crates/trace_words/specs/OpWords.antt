-- The names of the operations. Source: this project's own; the modes are those of the VAX
-- Architecture Reference Manual.
use Rattle.std.specs.Prelude.{ℕ, ◌==◌, List, [], ◌∷◌, Option, Some, None, option_map, codes, if◌then◌else◌}
use Rattle.vm_types.specs.declared.reference.Mode.{Mode}
use Rattle.vm_types.specs.declared.reference.Mode.TheVariants.{K, E, S, U}
use Rattle.vm_types.specs.declared.reference.Width.TheVariants.{One, Two, Four}
use Rattle.trace_words.specs.declared.ops.Access.{Access}
use Rattle.trace_words.specs.declared.ops.Access.TheVariants.{Read, Write, Add}
use Rattle.trace_words.specs.declared.ops.OpName.{OpName}
use Rattle.trace_words.specs.Words.{is}

-- the name without a mode
abbrev pub access_of : List ℕ → Option Access
access_of word =
    if is word (codes "R1") then Some (Read One)
    else if is word (codes "R2") then Some (Read Two)
    else if is word (codes "R4") then Some (Read Four)
    else if is word (codes "W1") then Some (Write One)
    else if is word (codes "W2") then Some (Write Two)
    else if is word (codes "W4") then Some (Write Four)
    else if is word (codes "A4") then Some Add
    else None

abbrev pub with_mode : Mode → List ℕ → Option OpName
with_mode mode word = option_map (λ a. record { mode = mode; access = a }) (access_of word)

-- the letter of the mode comes first; there may be none for user mode
abbrev pub op_name : List ℕ → Option OpName
op_name [] = None
op_name (b ∷ rest) =
    if b == 75 then with_mode K rest
    else if b == 69 then with_mode E rest
    else if b == 83 then with_mode S rest
    else if b == 85 then with_mode U rest
    else with_mode U (b ∷ rest)
