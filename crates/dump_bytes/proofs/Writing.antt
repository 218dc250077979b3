-- The texts of a list are written one after the other.
use Rattle.std.proofs.Common.{◌≡◌, ℕ, ◌+◌, ◌<◌, List, [], ◌∷◌, ◌++◌, length, map, drop, get_or, zero, suc, sym, ap, ◌∙◌, arith}
use Rattle.std.specs.Prelude.{All}
use Rattle.std.specs.List.{flat_map, AllByRecursion}
use Rattle.std.proofs.lemmas.List.{drop_more}
use Rattle.dump_bytes.specs.declared.dump.ProcRec.{ProcRec}
use Rattle.dump_bytes.specs.Bounds.{IsProcess}
use Rattle.dump_bytes.specs.Dumped.{process_of}
use Rattle.dump_bytes.specs.Short.{IsShort}
use Rattle.dump_bytes.specs.Text.{process_text}

pub texts-next : {A : Type 0} (text : A → List ℕ) (xs : List A) (i : ℕ) (d : A) → i < length xs
    → flat_map text (drop i xs) ≡ text (get_or xs i d) ++ flat_map text (drop (i + 1) xs)
texts-next text xs i d lt = ap (λ (ys : List _). flat_map text ys) (drop_more xs i d lt)

pub processes-next : (procs : List ProcRec) (i : ℕ) (p : ProcRec) → i < length procs → p ≡ get_or procs i p
    → flat_map process_text (map process_of (drop i procs)) ≡ process_text (process_of p) ++ flat_map process_text (map process_of (drop (i + 1) procs))
processes-next procs i p lt is =
    ap (λ (ps : List ProcRec). flat_map process_text (map process_of ps)) (drop_more procs i p lt)
    ∙ ap (λ (q : ProcRec). process_text (process_of q) ++ flat_map process_text (map process_of (drop (i + 1) procs))) (sym is)

-- the processes of a dump are short
pub short_each : (frames : ℕ) (procs : List ProcRec) → AllByRecursion (IsProcess frames) (map process_of procs) → All IsShort procs
short_each frames [] all k d lt = absurd (omega arith)
short_each frames (p ∷ procs) all zero d lt =
    let slots = all.0.few_slots.1 in
    let words = all.0.few_words in
    record { slots = omega arith; words = omega arith }
short_each frames (p ∷ procs) all (suc k) d lt = short_each frames procs all.1 k d (omega arith)
