-- How long a dump is at most.
use Rattle.std.proofs.Common.{◌≡◌, ℕ, zero, suc, ◌*◌, ◌≤◌, List, [], ◌∷◌, ◌++◌, length, length-append, refl, lit≤, arith}
use Rattle.std.specs.List.{flat_map, AllByRecursion}
use Rattle.dump_bytes.specs.Dumped.{Process, Dumped}
use Rattle.dump_bytes.specs.Text.{number, frame_text, slot_text, word_text, process_text, head_text, dump_text}
use Rattle.dump_bytes.specs.Bounds.{IsProcess, IsDump}
use Rattle.std.specs.Prelude.{codes}
use Rattle.vm_types.specs.declared.limits.TheConstants.{MOST_EXTENT, MOST_FRAMES}

-- so many texts of at most so many bytes each
texts-le : {A : Type 0} (text : A → List ℕ) (Is : A → Type 0) (most : ℕ) → ((x : A) → Is x → length (text x) ≤ most)
    → (count : ℕ) (xs : List A) → AllByRecursion Is xs → length xs ≤ count → length (flat_map text xs) ≤ count * most
texts-le text Is most each count [] all le = omega arith
texts-le text Is most each zero (x ∷ xs) all le = absurd (omega arith)
texts-le text Is most each (suc count) (x ∷ xs) all le =
    let one = each x all.0 in
    let others = texts-le text Is most each count xs all.1 (omega arith) in
    omega (arith, length-append (text x) (flat_map text xs))

abbrev Any : {A : Type 0} → A → Type 0
Any x = Unit {0}

all_any : {A : Type 0} (xs : List A) → AllByRecursion Any xs
all_any [] = tt
all_any (x ∷ xs) = (tt, all_any xs)

-- the same of texts of any values
rows-le : {A : Type 0} (text : A → List ℕ) (most : ℕ) → ((x : A) → length (text x) ≤ most) → (count : ℕ) (xs : List A) → length xs ≤ count → length (flat_map text xs) ≤ count * most
rows-le text most each count xs le = texts-le text Any most (λ x any. each x) count xs (all_any xs) le

process_parts-le : (head slots count words : List ℕ) → length head ≡ 16 → length slots ≤ 8192 → length count ≡ 4 → length words ≤ 8192 → length (head ++ slots ++ count ++ words) ≤ 16404
process_parts-le head slots count words a b c d =
    omega (arith, length-append (head ++ slots ++ count) words, length-append (head ++ slots) count, length-append head slots)

process-le : (frames : ℕ) (p : Process) → IsProcess frames p → length (process_text p) ≤ 16404
process-le frames p is =
    let few_slots = is.few_slots.1 in
    let few_words = is.few_words in
    process_parts-le ((p.status ∷ 0 ∷ 0 ∷ 0 ∷ []) ++ number (length p.slots) ++ number p.hand ++ number p.limit) (flat_map slot_text p.slots) (number (length p.words)) (flat_map word_text p.words)
    refl (rows-le slot_text 8 (λ x. lit≤ tt) MOST_EXTENT p.slots few_slots) refl (rows-le word_text 8 (λ x. lit≤ tt) MOST_EXTENT p.words (omega arith))

dump_parts-le : (head frames free modified procs count flights : List ℕ) → length head ≡ 36 → length frames ≤ 327680 → length free ≤ 65536 → length modified ≤ 65536 → length procs ≤ 262464
    → length count ≡ 4 → length flights ≤ 65536 → length (head ++ frames ++ free ++ modified ++ procs ++ count ++ flights) ≤ 786792
dump_parts-le head frames free modified procs count flights a b c d e f g =
    omega (
      arith,
      length-append (head ++ frames ++ free ++ modified ++ procs ++ count) flights,
      length-append (head ++ frames ++ free ++ modified ++ procs) count,
      length-append (head ++ frames ++ free ++ modified) procs,
      length-append (head ++ frames ++ free) modified,
      length-append (head ++ frames) free,
      length-append head frames,
    )

pub dump-le : (d : Dumped) → IsDump d → length (dump_text d) ≤ 786792
dump-le d is =
    let n = is.frames.1 in
    let p = is.procs.1 in
    let free = is.free.few in
    let modified = is.modified.few in
    let flights = is.flights.few in
    dump_parts-le (codes "VMSDUMP1" ++ head_text d) (flat_map frame_text d.frames) (flat_map number d.free) (flat_map number d.modified) (flat_map process_text d.procs) (number (length d.flights)) (flat_map number d.flights)
    refl (rows-le frame_text 20 (λ x. lit≤ tt) MOST_FRAMES d.frames n) (rows-le number 4 (λ x. lit≤ tt) MOST_FRAMES d.free (omega arith)) (rows-le number 4 (λ x. lit≤ tt) MOST_FRAMES d.modified (omega arith))
    (texts-le process_text (IsProcess (length d.frames)) 16404 (process-le (length d.frames)) 16 d.procs is.each_process p) refl (rows-le number 4 (λ x. lit≤ tt) MOST_FRAMES d.flights (omega arith))
