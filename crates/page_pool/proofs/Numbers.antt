-- Numbers below n, none twice, as a list of n marks. Assumes nothing.
use Rattle.std.proofs.Common.{ℕ, zero, suc, ◌≡◌, ◌+◌, ◌<◌, ◌≤◌, Bool, true, false, List, [], ◌∷◌, ◌++◌, length, replicate, refl, sym, ap, ◌∙◌, arith}
use Rattle.std.specs.List.{range_with_len}
use Rattle.page_pool.specs.Tickets.{one_if_same, times}
use Rattle.page_pool.proofs.Tickets.{one_here}

-- how many are there, and whether a given one is
abbrev pub tally : List Bool → ℕ
tally [] = 0
tally (true ∷ fs) = suc (tally fs)
tally (false ∷ fs) = tally fs

abbrev pub bit : List Bool → ℕ → ℕ
bit [] k = 0
bit (true ∷ fs) zero = 1
bit (false ∷ fs) zero = 0
bit (f ∷ fs) (suc k) = bit fs k

abbrev pub marked : List Bool → ℕ → List Bool
marked [] i = []
marked (f ∷ fs) zero = true ∷ fs
marked (f ∷ fs) (suc i) = f ∷ marked fs i

abbrev pub filled : List Bool → List ℕ → List Bool
filled fs [] = fs
filled fs (k ∷ ks) = filled (marked fs k) ks

pub marked_long : (fs : List Bool) (i : ℕ) → length (marked fs i) ≡ length fs
marked_long [] i = refl
marked_long (f ∷ fs) zero = refl
marked_long (f ∷ fs) (suc i) = ap suc (marked_long fs i)

pub filled_long : (fs : List Bool) (ks : List ℕ) → length (filled fs ks) ≡ length fs
filled_long fs [] = refl
filled_long fs (k ∷ ks) = filled_long (marked fs k) ks ∙ marked_long fs k

marked_tally : (fs : List Bool) (i : ℕ) → i < length fs → bit fs i ≡ 0 → tally (marked fs i) ≡ suc (tally fs)
marked_tally [] i l e = absurd (omega arith)
marked_tally (true ∷ fs) zero l e = absurd (omega arith)
marked_tally (false ∷ fs) zero l e = refl
marked_tally (true ∷ fs) (suc i) l e = ap suc (marked_tally fs i (omega arith) e)
marked_tally (false ∷ fs) (suc i) l e = marked_tally fs i (omega arith) e

marked_bit : (fs : List Bool) (i k : ℕ) → i < length fs → bit fs i ≡ 0 → bit (marked fs i) k ≡ bit fs k + one_if_same i k
marked_bit [] i k l e = absurd (omega arith)
marked_bit (true ∷ fs) zero k l e = absurd (omega arith)
marked_bit (false ∷ fs) zero zero l e = refl
marked_bit (false ∷ fs) zero (suc k) l e = omega arith
marked_bit (f ∷ fs) (suc i) zero l e = head f fs i
  where
    head : (f : Bool) (fs : List Bool) (i : ℕ) → bit (f ∷ marked fs i) zero ≡ bit (f ∷ fs) zero + 0
    head true fs i = refl
    head false fs i = refl
marked_bit (true ∷ fs) (suc i) (suc k) l e = marked_bit fs i k (omega arith) e
marked_bit (false ∷ fs) (suc i) (suc k) l e = marked_bit fs i k (omega arith) e

pub tally_most : (fs : List Bool) → tally fs ≤ length fs
tally_most [] = omega arith
tally_most (true ∷ fs) = let h = tally_most fs in omega arith
tally_most (false ∷ fs) = let h = tally_most fs in omega arith

pub none_there : (n : ℕ) → tally (replicate n false) ≡ 0
none_there zero = refl
none_there (suc n) = none_there n

none_bit : (n k : ℕ) → bit (replicate n false) k ≡ 0
none_bit zero k = refl
none_bit (suc n) zero = refl
none_bit (suc n) (suc k) = none_bit n k

pub none_long : (n : ℕ) → length (replicate n false) ≡ n
none_long zero = refl
none_long (suc n) = ap suc (none_long n)

-- each is below n
abbrev pub Below : ℕ → List ℕ → Type 0
Below n [] = Unit {0}
Below n (k ∷ ks) = (k < n) × Below n ks

-- the numbers are there not yet, and none is twice among them
abbrev pub Fresh : List Bool → List ℕ → Type 0
Fresh fs ks = (j : ℕ) → bit fs j + times ks j ≤ 1

pub free : (fs : List Bool) (k : ℕ) (ks : List ℕ) → Fresh fs (k ∷ ks) → bit fs k ≡ 0
free fs k ks h = let l = h k in let e = one_here k in omega arith

pub fewer : (n : ℕ) (fs : List Bool) (k : ℕ) (ks : List ℕ) → length fs ≡ n → k < n → Fresh fs (k ∷ ks) → Fresh (marked fs k) ks
fewer n fs k ks l low h j = let e = marked_bit fs k j (omega arith) (free fs k ks h) in let m = h j in omega arith

pub counted : (n : ℕ) (ks : List ℕ) (fs : List Bool) → length fs ≡ n → Below n ks → Fresh fs ks → tally (filled fs ks) ≡ tally fs + length ks
counted n [] fs l low h = omega arith
counted n (k ∷ ks) fs l low h =
    let e = marked_tally fs k (omega arith) (free fs k ks h) in
    let f = counted n ks (marked fs k) (marked_long fs k ∙ l) low.1 (fewer n fs k ks l low.0 h) in omega arith

pub all_new : (n : ℕ) (ks : List ℕ) → ((j : ℕ) → times ks j ≤ 1) → Fresh (replicate n false) ks
all_new n ks once j = let e = none_bit n j in let h = once j in omega arith

-- numbers below n, none twice, are n at most
pub few : (n : ℕ) (ks : List ℕ) → Below n ks → ((j : ℕ) → times ks j ≤ 1) → length ks ≤ n
few n ks low once =
    let e = counted n ks (replicate n false) (none_long n) low (all_new n ks once) in
    let m = tally_most (filled (replicate n false) ks) in let l = filled_long (replicate n false) ks in let z = none_there n in let w = none_long n in omega arith

-- one number more
pushed : (a m : ℕ) → range_with_len a (suc m) ≡ range_with_len a m ++ (a + m) ∷ []
pushed a zero = ap (λ (k : ℕ). k ∷ []) (omega arith)
pushed a (suc m) = ap (λ (ks : List ℕ). a ∷ ks) (pushed (a + 1) m ∙ ap (λ (k : ℕ). range_with_len (a + 1) m ++ k ∷ []) (omega arith))

pub range_pushed : (m : ℕ) → range_with_len 0 m ++ m ∷ [] ≡ range_with_len 0 (m + 1)
range_pushed m = let e : m + 1 ≡ suc m = omega arith in let z : 0 + m ≡ m = omega arith in
    sym (ap (range_with_len 0) e ∙ pushed 0 m ∙ ap (λ (k : ℕ). range_with_len 0 m ++ k ∷ []) z)
