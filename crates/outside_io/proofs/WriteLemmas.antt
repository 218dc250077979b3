-- One more piece of a text.
use Rattle.std.proofs.Common.{◌≡◌, ℕ, ◌+◌, ◌-◌, List, length, take, drop, Ok, arith, length-drop}
use Rattle.std.proofs.lemmas.List.{take_all}
use Rattle.std.proofs.lemmas.Grind.{common_steps}
use Rattle.std.proofs.lemmas.Bool.Decides.{nat_tests}
use Rattle.std.proofs.Math.Seq.{take-add}
use Rattle.std.proofs.KnownBytes.{Appends-trans}
use Rattle.std.specs.Io.KnownBytes.{Appends}
use Rattle.std.specs.declared.option.Option.{Option}
use Rattle.outside_io.specs.Stalls.{stalls_after}

rest_of_text : (text : List ℕ) (done : ℕ) → take (length text - done) (drop done text) ≡ drop done text
rest_of_text text done = take_all (length text - done) (drop done text) (omega (arith, length-drop done text))

-- the sink took the front of the rest
pub Appends-piece : (a b c : Option (List ℕ)) (text : List ℕ) (done n : ℕ) → Appends a b (take done text)
    → Appends b c (take n (take (length text - done) (drop done text))) → Appends a c (take (done + n) text)
Appends-piece a b c text done n before piece =
    rw (take-add done n text) (Appends-trans a b c _ _ before (rw rest_of_text at piece))

-- a write that takes something is no stall
pub stalls_after-some : (count n : ℕ) (piece : List ℕ) → (n ≡ 0 → ⊥) → stalls_after count (Ok n) piece ≡ count
stalls_after-some count n piece some = grind (arith, common_steps, nat_tests)
