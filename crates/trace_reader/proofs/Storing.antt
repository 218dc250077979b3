-- What is kept for the lines to come.
use Rattle.std.proofs.Common.{◌≡◌, ℕ, zero, suc, ◌<◌, List, [], ◌∷◌, ◌++◌, length, get_or, set, length-set, take, drop, append-nil, refl, sym, ap, ◌∙◌, arith}
use Rattle.std.specs.List.{refill}
use Rattle.std.proofs.lemmas.List.{take_all, drop_all}
use Rattle.vm_types.specs.declared.config.Section.{Section}
use Rattle.trace_reader.specs.Changes.{overwritten, with_bytes}

-- a section with other bytes
abbrev pub with_new : Section → List ℕ → Section
with_new section new = record { name = section.name; kind = section.kind; bytes = new }

set_bytes : (sections : List Section) (s at : ℕ) (new : List ℕ) (d : Section) → s < length sections
    → set sections s (with_new (get_or sections s d) (overwritten (get_or sections s d).bytes at new)) ≡ with_bytes sections s at new
set_bytes [] s at new d lt = absurd (omega arith)
set_bytes (x ∷ sections) zero at new d lt = refl
set_bytes (x ∷ sections) (suc s) at new d lt = ap (λ (xs : List Section). x ∷ xs) (set_bytes sections s at new d (omega arith))

all_refilled : (old new : List Section) → length new ≡ length old → refill (length old) old new ≡ new
all_refilled old new same =
    let none : drop (length new) old ≡ [] = drop_all (length new) old (omega arith) in
    ap (λ (rest : List Section). take (length old) (new ++ rest)) none ∙ ap (λ (xs : List Section). take (length old) xs) (append-nil new) ∙ ap (λ (n : ℕ). take n new) (sym same) ∙ take_all (length new) new (omega arith)

pub refilled : (sections : List Section) (s at : ℕ) (new bytes : List ℕ) (items : List Section) (d : Section) → items ≡ sections → s < length sections → bytes ≡ overwritten (get_or items s d).bytes at new
    → refill (length sections) sections (set items s (with_new (get_or items s d) bytes)) ≡ with_bytes sections s at new
refilled sections s at new bytes items d same lt over =
    let here : set items s (with_new (get_or items s d) bytes) ≡ with_bytes sections s at new =
    ap (λ (b : List ℕ). set items s (with_new (get_or items s d) b)) over ∙ ap (λ (xs : List Section). set xs s (with_new (get_or xs s d) (overwritten (get_or xs s d).bytes at new))) same ∙ set_bytes sections s at new d lt in
    let whole : length (set items s (with_new (get_or items s d) bytes)) ≡ length sections = length-set items s (with_new (get_or items s d) bytes) ∙ ap (λ (xs : List Section). length xs) same in
    all_refilled sections (set items s (with_new (get_or items s d) bytes)) whole ∙ here
