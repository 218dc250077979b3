-- The tickets of a pool's name: one for each number, which nobody else has, and all agree on where the pool's region starts. Source: this project's own.
use Rattle.std.specs.Prelude.{ℕ, zero, suc, ◌≡◌, ◌+◌, ◌≤◌, List, [], ◌∷◌, refl}
use Rattle.std.proofs.Common.{sym, ◌∙◌, ap, subst, add_comm, add_assoc}
use Rattle.std.proofs.Math.Nat.{le_trans, le-add_left}
use Rattle.std.specs.Coded.{le_prop, ×_prop}
use mathlib.Core.HLevel.{Σ_prop_path, Π_prop}
use mathlib.Core.Path.{fun_ext}
use denote.RawPtr.{Ptr, coded_ptr}
use base.Algebra.{Algebra, SetCoded}
use base.Algebras.{drawn}
use base.Fml.{Fml, fex, fown}
use base.Graph.{Graph}
use base.SetCodes.{SetCoded-set, coded, pair, part, function}
use base.Stored.{coded_ℕ}

-- 1 if the two numbers are the same, and else 0
abbrev pub one_if_same : ℕ → ℕ → ℕ
one_if_same zero zero = 1
one_if_same zero (suc k) = 0
one_if_same (suc n) zero = 0
one_if_same (suc n) (suc k) = one_if_same n k

-- how often k is among the numbers
abbrev pub times : List ℕ → ℕ → ℕ
times [] k = 0
times (n ∷ ns) k = one_if_same n k + times ns k

-- where the region starts, and how many tickets there are of each number: one at most
abbrev pub Held : Type 0
Held = (held : Ptr × (ℕ → ℕ)) × ((k : ℕ) → held.1 k ≤ 1)

abbrev pub start_coded : SetCoded Ptr
start_coded = coded coded_ptr

abbrev pub number_coded : SetCoded ℕ
number_coded = coded coded_ℕ

abbrev pub once_prop : (f : ℕ → ℕ) → IsProp ((k : ℕ) → f k ≤ 1)
once_prop f = Π_prop (λ k. le_prop)

abbrev pub held_coded : SetCoded Held
held_coded = part (pair start_coded (function number_coded coded_ℕ)) (λ held. (k : ℕ) → held.1 k ≤ 1) (λ held. once_prop held.1)

-- tickets of one region compose to their sum, number by number
abbrev pub sums : Graph Held
sums = record {
  set = SetCoded-set held_coded;
  sum = λ a b c. (a.0.0 ≡ c.0.0) × ((b.0.0 ≡ c.0.0) × ((k : ℕ) → a.0.1 k + b.0.1 k ≡ c.0.1 k));
  prop = λ a b c. ×_prop (SetCoded-set start_coded a.0.0 c.0.0) (×_prop (SetCoded-set start_coded b.0.0 c.0.0) (Π_prop (λ k. SetCoded-set number_coded (a.0.1 k + b.0.1 k) (c.0.1 k))));
  one = λ a b c d s t. Σ_prop_path (λ held. once_prop held.1) (λ i. ((sym s.0 ∙ t.0) i, fun_ext (λ k. sym (s.1.1 k) ∙ t.1.1 k) i));
  comm = λ a b c s. (s.1.0, (s.0, λ k. add_comm (b.0.1 k) (a.0.1 k) ∙ s.1.1 k));
  assoc = λ a b c ab d s t.
      let total : (k : ℕ) → a.0.1 k + (b.0.1 k + c.0.1 k) ≡ d.0.1 k = λ k. sym (add_assoc (a.0.1 k) (b.0.1 k) (c.0.1 k)) ∙ (ap (λ n. n + c.0.1 k) (s.1.1 k) ∙ t.1.1 k) in
      let few : (k : ℕ) → b.0.1 k + c.0.1 k ≤ 1 = λ k. le_trans (le-add_left (b.0.1 k + c.0.1 k) (a.0.1 k)) (subst (λ n. n ≤ 1) (sym (total k)) (d.1 k)) in
      ∣ (((c.0.0, λ k. b.0.1 k + c.0.1 k), few), (s.1.0 ∙ t.0 ∙ sym t.1.0, (refl, λ k. refl)), (s.0 ∙ t.0, (t.1.0, total))) ∣₁;
}

abbrev pub tickets : Algebra
tickets = drawn sums held_coded

-- to own the tickets of these numbers, no number twice, of a name whose region starts there
unfoldable pub tickets_own : ℕ → Ptr → List ℕ → Fml
tickets_own name start numbers = fex ((k : ℕ) → times numbers k ≤ 1) (λ once. fown tickets name ((start, times numbers), once))
