-- The length of a read cluster as a number is the one by its definition.
use Rattle.std.proofs.Common.{◌≡◌, ℕ, zero, suc, ◌-◌, ◌≤◌, Bool, true, false, cond, List, [], ◌∷◌, length, take, nat_le, refl, arith}
use Rattle.std.specs.List.{All}
use Rattle.std.specs.Prelude.{IsTrue, max}
use Rattle.std.proofs.lemmas.Bool.{false≢true, leb-false, leb-true}
use Rattle.std.proofs.lemmas.List.Elements.{All-nil, All-cons, All-head, All-tail}
use Rattle.vm_types.specs.Adjust.{greater, lesser}
use Rattle.vm_types.specs.Cluster.{ClusterLength}
use Rattle.pager_model.specs.ClusterLength.{cluster_length, leading_out}

front_within : (out : List Bool) → leading_out out ≤ length out
front_within [] = omega arith
front_within (true ∷ bs) = omega (arith, front_within bs)
front_within (false ∷ bs) = omega arith

front_is : (out : List Bool) (k : ℕ) → k ≤ leading_out out → All IsTrue (take k out)
front_is out zero few = All-nil IsTrue
front_is [] (suc k) few = absurd (omega (arith, few))
front_is (true ∷ bs) (suc k) few = All-cons IsTrue true (take k bs) refl (front_is bs k (omega (arith, few)))
front_is (false ∷ bs) (suc k) few = absurd (omega (arith, few))

front_most : (out : List Bool) (k : ℕ) → k ≤ length out → All IsTrue (take k out) → k ≤ leading_out out
front_most out zero within each = omega arith
front_most [] (suc k) within each = absurd (omega (arith, within))
front_most (true ∷ bs) (suc k) within each = omega (arith, front_most bs k (omega (arith, within)) (All-tail IsTrue true (take k bs) each))
front_most (false ∷ bs) (suc k) within each = absurd (false≢true (All-head IsTrue false (take k bs) each))

-- the lesser and the greater of two numbers
pub lesser_is : (m n : ℕ) → (lesser m n ≤ m) × (lesser m n ≤ n) × ((k : ℕ) → k ≤ m → k ≤ n → k ≤ lesser m n)
lesser_is m n = go (nat_le m n) refl
  where
    go : (b : Bool) → nat_le m n ≡ b → (cond b m n ≤ m) × (cond b m n ≤ n) × ((k : ℕ) → k ≤ m → k ≤ n → k ≤ cond b m n)
    go true is = (omega arith, leb-true m n is, λ k first second. first)
    go false is = (let less = leb-false m n is in omega (arith, less), omega arith, λ k first second. second)

pub greater_is : (m n : ℕ) → greater m n ≡ max m n
greater_is m n = go (nat_le m n) refl
  where
    go : (b : Bool) → nat_le m n ≡ b → cond b n m ≡ max m n
    go true is = let most = leb-true m n is in omega (arith, most)
    go false is = let less = leb-false m n is in omega (arith, less)

pub cluster_is : (out : List Bool) (pfc free k : ℕ) → ClusterLength out pfc free k → k ≡ cluster_length out pfc free
cluster_is out pfc free k length_is =
    let inner = lesser_is (leading_out out) pfc in
    let outer = lesser_is (lesser (leading_out out) pfc) (greater 1 (free - 1)) in
    let most = greater_is 1 (free - 1) in
    let within = front_within out in
    let front : cluster_length out pfc free ≤ leading_out out = omega (arith, outer.0, inner.0) in
    let least : cluster_length out pfc free ≤ k =
    length_is.greatest (cluster_length out pfc free)
    (record { within = omega (arith, front, within); each = front_is out (cluster_length out pfc free) front; few = omega (arith, outer.0, inner.1); leaves = omega (arith, outer.1, most) }) in
    let is = length_is.is in
    let below : k ≤ cluster_length out pfc free =
    outer.2 k (inner.2 k (front_most out k is.within is.each) is.few) (let leaves = is.leaves in omega (arith, leaves, most)) in
    omega (arith, least, below)
