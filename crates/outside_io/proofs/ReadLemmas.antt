-- A read that copies the front of what is left.
use Rattle.std.proofs.Common.{◌≡◌, ℕ, ◌+◌, ◌<◌, List, [], ◌++◌, length, take, drop, min, sym, arith}
use Rattle.std.proofs.lemmas.List.{take-append-drop, drop-drop, drop_all, length-drop}

-- a front that was copied, and the rest
pub front_and_rest : (bytes buf : List ℕ) (at n : ℕ) → take n buf ≡ take n (drop at bytes)
    → drop at bytes ≡ take n buf ++ drop (at + n) bytes
front_and_rest bytes buf at n copied =
    rw (copied, ← (drop-drop n at bytes)) (sym (take-append-drop n (drop at bytes)))

-- nothing was copied into a buffer that has room, so nothing is left
pub at_end : (bytes buf : List ℕ) (at n : ℕ) → n ≡ min (length (drop at bytes)) (length buf) → n ≡ 0 → 0 < length buf
    → drop (at + n) bytes ≡ []
at_end bytes buf at n count none some = drop_all (at + n) bytes (omega (arith, length-drop at bytes))
