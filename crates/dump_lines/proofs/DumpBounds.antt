-- What the bounds of a dump say of the items of its lists.
use Rattle.std.proofs.Common.{◌≡◌, ℕ, zero, suc, ◌%◌, ◌^◌, ◌<◌, ◌≤◌, List, [], ◌∷◌, Option, Some, None, map, ap, arith}
use Rattle.std.specs.Prelude.{All}
use Rattle.std.specs.List.{AllByRecursion}
use Rattle.vm_types.specs.declared.names.Page.{Page}
use Rattle.vm_types.specs.declared.names.Page.TheVariants.{Private, Shared}
use Rattle.pte_forms.specs.Word.{number_bits}
use Rattle.dump_bytes.specs.declared.dump.ProcRec.{ProcRec}
use Rattle.dump_bytes.specs.declared.dump.SlotRec.{SlotRec}
use Rattle.dump_bytes.specs.Bounds.{IsDumpedPage, IsProcess, IsSlot, IsValidEntry, IsValidWord}
use Rattle.dump_bytes.specs.Dumped.{process_of}
use Rattle.dump_lines.specs.Printable.{IsPrintableProcess, IsPrintableSlot}
use Rattle.dump_lines.specs.WordFrame.{frame_of}

pub all_at : {X : Type 0} (P Q : X → Type 0) (xs : List X) → ((x : X) → P x → Q x) → AllByRecursion P xs → All Q xs
all_at P Q [] to all k d within = absurd (omega arith)
all_at P Q (x ∷ xs) to all zero d within = to x all.0
all_at P Q (x ∷ xs) to all (suc k) d within = all_at P Q xs to all.1 k d (omega arith)

pub frame_below : (frames word : ℕ) → IsValidWord frames word → frame_of word < frames
frame_below frames word is =
    let n : ℕ = number_bits (is.pte).place in
    let number : n ≡ is.frame = ap number_bits is.place in
    let small = is.is_pte.number in
    let whole = is.word_is in
    let below = is.below in
    let rest : word % 2 ^ 21 ≡ n = omega arith in
    omega arith

pub entries_below : (frames : ℕ) (words : List (ℕ × ℕ)) → AllByRecursion (IsValidEntry frames) words → All (λ (w : ℕ × ℕ). frame_of w.1 < frames) words
entries_below frames words all = all_at (IsValidEntry frames) (λ (w : ℕ × ℕ). frame_of w.1 < frames) words (λ w is. frame_below frames w.1 is.word) all

page_of_16 : (procs : ℕ) (page : Option Page) → procs ≤ 16 → IsDumpedPage procs page → IsDumpedPage 16 page
page_of_16 procs None few is = tt
page_of_16 procs (Some (Private owner vpn)) few is = let a = is.0 in (omega arith, is.1)
page_of_16 procs (Some (Shared section page)) few is = is

slots_printable : (slots : List SlotRec) → AllByRecursion IsSlot slots → All IsPrintableSlot slots
slots_printable slots all = all_at IsSlot IsPrintableSlot slots (λ s is. is.vpn) all

pub process_at : (frames : ℕ) (procs : List ProcRec) → AllByRecursion (IsProcess frames) (map process_of procs) → All (λ (p : ProcRec). IsProcess frames (process_of p)) procs
process_at frames [] all k d within = absurd (omega arith)
process_at frames (p ∷ procs) all zero d within = all.0
process_at frames (p ∷ procs) all (suc k) d within = process_at frames procs all.1 k d (omega arith)

pub processes_printable : (frames : ℕ) (procs : List ProcRec) → AllByRecursion (IsProcess frames) (map process_of procs) → All IsPrintableProcess procs
processes_printable frames procs all k d within =
    let is = process_at frames procs all k d within in
    record { few = is.few_slots.1; slots = slots_printable _ is.slots }
