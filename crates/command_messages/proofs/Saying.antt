-- What is said of a message.
use Rattle.std.proofs.Common.{ℕ, ◌≤◌, List, length, take, sym, subst, arith}
use Rattle.std.specs.Prelude.{Option}
use Rattle.std.proofs.KnownBytes.{Appends-kept}
use Rattle.std.proofs.lemmas.List.{take_all}
use Rattle.std.specs.Io.KnownBytes.{Appends, Keeps}

-- the flush failed after the whole text
whole_but_kept : (a b c : Option (List ℕ)) (text : List ℕ) → Appends a b text → Keeps b c → (length text ≤ length text) × Appends a c (take (length text) text)
whole_but_kept a b c text took kept =
    (omega arith, subst (Appends a c) (sym (take_all (length text) text (omega arith))) (Appends-kept a b c text took kept))
