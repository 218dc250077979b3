-- An operation leaves a page's length.
use Rattle.std.proofs.Common.{◌≡◌, ℕ, ◌+◌, ◌-◌, ◌%◌, ◌≤◌, ◌++◌, List, length, take, drop, refl, ap, ap₂, ◌∙◌, arith}
use Rattle.std.proofs.lemmas.List.{length-append, length-drop, length-take-le}
use Rattle.vm_types.specs.declared.limits.TheConstants.{PAGE_BYTES}
use Rattle.vm_types.specs.WellFormed.{IsWellFormedReference, op_bytes, width_bytes}
use Rattle.vm_types.specs.declared.reference.Op.{Op}
use Rattle.vm_types.specs.declared.reference.Op.TheVariants.{Add, Read, Write}
use Rattle.vm_types.specs.declared.reference.Ref.{Ref}
use Rattle.vm_types.specs.declared.reference.Width.{Width}
use Rattle.vm_types.specs.declared.reference.Width.TheVariants.{Four, One, Two}
use Rattle.pager_model.specs.Flat.{bytes_after, offset_in_page, with_number}

spliced : (bytes middle : List ℕ) (offset wide : ℕ) → length bytes ≡ PAGE_BYTES → length middle ≡ wide → offset + wide ≤ PAGE_BYTES → length (take offset bytes ++ middle ++ drop (offset + wide) bytes) ≡ PAGE_BYTES
spliced bytes middle offset wide size is inside =
    let front : length (take offset bytes) ≡ offset = length-take-le offset bytes (omega (arith, size, inside)) in
    let back : length (drop (offset + wide) bytes) ≡ PAGE_BYTES - (offset + wide) = length-drop (offset + wide) bytes ∙ ap (λ (n : ℕ). n - (offset + wide)) size in
    length-append (take offset bytes ++ middle) (drop (offset + wide) bytes)
    ∙ (ap₂ (λ (m n : ℕ). m + n) (length-append (take offset bytes) middle ∙ ap₂ (λ (m n : ℕ). m + n) front is) back ∙ omega (arith, inside))

with_number_size : (width : Width) (bytes : List ℕ) (offset n : ℕ) → length bytes ≡ PAGE_BYTES → offset + width_bytes width ≤ PAGE_BYTES → length (with_number width bytes offset n) ≡ PAGE_BYTES
with_number_size Four bytes offset n size inside = spliced bytes _ offset 4 size refl inside
with_number_size Two bytes offset n size inside = spliced bytes _ offset 2 size refl inside
with_number_size One bytes offset n size inside = spliced bytes _ offset 1 size refl inside

-- an aligned number lies in one page
within : (width : Width) (address : ℕ) → address % width_bytes width ≡ 0 → address % PAGE_BYTES + width_bytes width ≤ PAGE_BYTES
within One address aligned = omega (arith, aligned)
within Two address aligned = omega (arith, aligned)
within Four address aligned = omega (arith, aligned)

after_size : (op : Op) (address : ℕ) (bytes : List ℕ) → address % op_bytes op ≡ 0 → length bytes ≡ PAGE_BYTES → length (bytes_after op bytes (address % PAGE_BYTES)) ≡ PAGE_BYTES
after_size (Read width) address bytes aligned size = size
after_size (Write width n) address bytes aligned size = with_number_size width bytes (address % PAGE_BYTES) n size (within width address aligned)
after_size (Add n) address bytes aligned size = with_number_size Four bytes (address % PAGE_BYTES) _ size (within Four address aligned)

pub bytes_after_size : (r : Ref) (bytes : List ℕ) → IsWellFormedReference r → length bytes ≡ PAGE_BYTES → length (bytes_after r.op bytes (offset_in_page r)) ≡ PAGE_BYTES
bytes_after_size r bytes formed size = after_size r.op (r.addr).0 bytes formed.aligned size
