-- A number is judged by the numbers that its first bytes are: a byte is one with which some number within
-- the bounds goes on exactly if what the bytes up to it begin is what some such number begins with.
use Rattle.std.proofs.Common.{◌≡◌, ℕ, zero, suc, ◌+◌, ◌-◌, ◌*◌, ◌/◌, ◌%◌, ◌^◌, ◌<◌, ◌≤◌, Bool, true, false, cond, List, ◌∷◌, length, drop, refl, sym, ap, subst, ◌∙◌, arith, inl, inr, Result, Ok, Err, add-zero, zero-add, drop-cons, length-drop}
use Rattle.std.specs.Prelude.{nat_le, nat_lt, ◌==◌, ◌&&◌, slice_index}
use Rattle.std.proofs.Math.Nat.{div-add-mod', div-div-eq-div-mul, mod-lt, mod-eq_of_lt, mul-add-mod_self_right, mul-le-mul_right, add-mul, mul_assoc, pow-suc, one-le-pow, mul_comm}
use Rattle.std.proofs.lemmas.Nat.{div-mul-add, mod-mul-add, div_below}
use Rattle.std.proofs.lemmas.Bool.Decides.{eqb_tells, leb_tells}
use Rattle.std.proofs.lemmas.Bool.{and_parts, cases_lt, cases_Bool, eq-eqb, leb-true, lt-ltb, le-ltb}
use Rattle.std.proofs.lemmas.List.{drop_all}
use Rattle.byteorder.specs.Endian.{big_from, big_number}
use Rattle.dump_bytes.specs.Reading.{◌>>=◌, number_at, fronts_at}
use Rattle.dump_bytes.proofs.Numbers.{least_rest, greatest_rest}

-- one byte more at the end of what is read
big-more : (i k : ℕ) (xs : List ℕ) → big_from i (suc k) xs ≡ big_from i k xs * 256 + slice_index xs (i + k)
big-more i zero xs = let e = ap (λ (j : ℕ). slice_index xs j) (add-zero i) in omega arith
big-more i (suc k) xs =
    let rest = big-more (suc i) k xs in
    let place = ap (λ (p : ℕ). slice_index xs i * p) (pow-suc 256 k) in
    let at = ap (λ (j : ℕ). slice_index xs j) (let e : suc i + k ≡ i + suc k = omega arith in e) in
    omega arith

-- tests that say the same
same_le : (a b c d : ℕ) → (a ≤ b → c ≤ d) → (c ≤ d → a ≤ b) → nat_le a b ≡ nat_le c d
same_le a b c d to back =
    elim (leb_tells a b) [
      | inl s ↦ elim (leb_tells c d) [ inl t ↦ s.0 ∙ sym t.0 | inr t ↦ (let h = to s.1 in absurd (omega arith)) ]
      | inr s ↦ elim (leb_tells c d) [ inl t ↦ (let h = back t.1 in absurd (omega arith)) | inr t ↦ s.0 ∙ sym t.0 ]
    ]

same_eq : (a b c d : ℕ) → (a ≡ b → c ≡ d) → (c ≡ d → a ≡ b) → (a == b) ≡ (c == d)
same_eq a b c d to back =
    elim (eqb_tells a b) [
      | inl s ↦ elim (eqb_tells c d) [ inl t ↦ s.0 ∙ sym t.0 | inr t ↦ absurd (t.1 (to s.1)) ]
      | inr s ↦ elim (eqb_tells c d) [ inl t ↦ absurd (s.1 (back t.1)) | inr t ↦ s.0 ∙ sym t.0 ]
    ]

cond_same : (v : Bool) (x : ℕ) → cond v x x ≡ x
cond_same true x = refl
cond_same false x = refl

cond_as : (v w : Bool) (x y z : ℕ) → v ≡ w → x ≡ y → cond v x z ≡ cond w y z
cond_as v w x y z e f = ap (λ (u : Bool). cond u x z) e ∙ ap (λ (u : ℕ). cond w u z) f

-- the quotient and the rest by a place, of what is left by the next place
record Split (place n : ℕ) : Type 0 where
  over : n / (place * 256) ≡ n / place / 256
  high : n % (place * 256) / place ≡ n / place % 256
  low : n % (place * 256) % place ≡ n % place

module _ (place : ℕ) (pos : 0 < place) where
  split : (n : ℕ) → Split place n
  split n =
      let q : ℕ = n / place in
      let r : ℕ = n % place in
      let small : r < place = mod-lt n pos in
      let digit : q % 256 < 256 = mod-lt q {m = 256} (omega arith) in
      let top : (q % 256 + 1) * place ≤ 256 * place = mul-le-mul_right place (omega arith) in
      let expand = add-mul (q % 256) 1 place in
      let fits : q % 256 * place + r < place * 256 = omega arith in
      let whole : n ≡ q * place + r = sym (div-add-mod' n place) in
      let digits = ap (λ (x : ℕ). x * place) (sym (div-add-mod' q 256)) in
      let spread = add-mul (q / 256 * 256) (q % 256) place in
      let regroup : q / 256 * 256 * place ≡ q / 256 * (place * 256) = mul_assoc (q / 256) 256 place ∙ ap (λ (x : ℕ). q / 256 * x) (mul_comm 256 place) in
      let parts : n ≡ q / 256 * (place * 256) + (q % 256 * place + r) = omega arith in
      let rest : n % (place * 256) ≡ q % 256 * place + r =
      ap (λ (x : ℕ). x % (place * 256)) parts ∙ mul-add-mod_self_right (q / 256) (place * 256) (q % 256 * place + r) ∙ mod-eq_of_lt fits in
      record {
        over = sym (div-div-eq-div-mul n place 256);
        high = ap (λ (x : ℕ). x / place) rest ∙ div-mul-add (q % 256) place r small;
        low = ap (λ (x : ℕ). x % place) rest ∙ mod-mul-add (q % 256) place r small;
      }

  zero-div : 0 / place ≡ 0
  zero-div = let e : 0 ≡ 0 * place + 0 = omega arith in ap (λ (x : ℕ). x / place) e ∙ div-mul-add 0 place 0 pos

  zero-mod : 0 % place ≡ 0
  zero-mod = let e : 0 ≡ 0 * place + 0 = omega arith in ap (λ (x : ℕ). x % place) e ∙ mod-mul-add 0 place 0 pos

  module _ (c b : ℕ) (is_byte : b < 256) where
    record LeastStep (low wide : ℕ) : Type 0 where
      test : nat_le (wide / place) b ≡ nat_le (low / place) (c * 256 + b)
      next : least_rest place wide b ≡ least_rest place low (c * 256 + b)

    least_equal : (low wide : ℕ) → c ≡ low / (place * 256) → wide ≡ low % (place * 256) → LeastStep low wide
    least_equal low wide e is =
        let s = split low in
        let over = s.over in
        let high : wide / place ≡ low / place % 256 = ap (λ (x : ℕ). x / place) is ∙ s.high in
        let rest : wide % place ≡ low % place = ap (λ (x : ℕ). x % place) is ∙ s.low in
        let whole = div-add-mod' (low / place) 256 in
        record {
          test = same_le (wide / place) b (low / place) (c * 256 + b) (λ h. omega arith) (λ h. omega arith);
          next = cond_as (b == wide / place) (c * 256 + b == low / place) (wide % place) (low % place) 0
              (same_eq b (wide / place) (c * 256 + b) (low / place) (λ h. omega arith) (λ h. omega arith)) rest;
        }

    least_above : (low wide : ℕ) → low / (place * 256) < c → wide ≡ 0 → LeastStep low wide
    least_above low wide lt is =
        let over = (split low).over in
        let high : wide / place ≡ 0 = ap (λ (x : ℕ). x / place) is ∙ zero-div in
        let rest : wide % place ≡ 0 = ap (λ (x : ℕ). x % place) is ∙ zero-mod in
        let whole = div-add-mod' (low / place) 256 in
        let small = mod-lt (low / place) {m = 256} (omega arith) in
        let apart : (c * 256 + b == low / place) ≡ false = elim (eqb_tells (c * 256 + b) (low / place)) [ inl t ↦ (let h = t.1 in absurd (omega arith)) | inr f ↦ f.0 ] in
        record {
          test = same_le (wide / place) b (low / place) (c * 256 + b) (λ h. omega arith) (λ h. omega arith);
          next = ap (λ (x : ℕ). cond (b == wide / place) x 0) rest ∙ cond_same (b == wide / place) 0 ∙ sym (ap (λ (v : Bool). cond v (low % place) 0) apart);
        }

    least_step : (low : ℕ) → low / (place * 256) ≤ c → LeastStep low (least_rest (place * 256) low c)
    least_step low le =
        elim (eqb_tells c (low / (place * 256))) [
          | inl t ↦ least_equal low _ t.1 (ap (λ (v : Bool). cond v (low % (place * 256)) 0) t.0)
          | inr f ↦ least_above low _ (omega (arith, f.1)) (ap (λ (v : Bool). cond v (low % (place * 256)) 0) f.0)
        ]

    record GreatestStep (high wide : ℕ) : Type 0 where
      test : nat_le b (wide / place) ≡ nat_le (c * 256 + b) (high / place)
      next : greatest_rest place wide b ≡ greatest_rest place high (c * 256 + b)

    greatest_equal : (high wide : ℕ) → c ≡ high / (place * 256) → wide ≡ high % (place * 256) → GreatestStep high wide
    greatest_equal high wide e is =
        let s = split high in
        let over = s.over in
        let top : wide / place ≡ high / place % 256 = ap (λ (x : ℕ). x / place) is ∙ s.high in
        let rest : wide % place ≡ high % place = ap (λ (x : ℕ). x % place) is ∙ s.low in
        let whole = div-add-mod' (high / place) 256 in
        record {
          test = same_le b (wide / place) (c * 256 + b) (high / place) (λ h. omega arith) (λ h. omega arith);
          next = cond_as (b == wide / place) (c * 256 + b == high / place) (wide % place) (high % place) (place - 1)
              (same_eq b (wide / place) (c * 256 + b) (high / place) (λ h. omega arith) (λ h. omega arith)) rest;
        }

    greatest_below : (high wide : ℕ) → c < high / (place * 256) → wide ≡ place * 256 - 1 → GreatestStep high wide
    greatest_below high wide lt is =
        let over = (split high).over in
        let parts : wide ≡ 255 * place + (place - 1) = omega arith in
        let top : wide / place ≡ 255 = ap (λ (x : ℕ). x / place) parts ∙ div-mul-add 255 place (place - 1) (omega arith) in
        let rest : wide % place ≡ place - 1 = ap (λ (x : ℕ). x % place) parts ∙ mod-mul-add 255 place (place - 1) (omega arith) in
        let whole = div-add-mod' (high / place) 256 in
        let apart : (c * 256 + b == high / place) ≡ false = elim (eqb_tells (c * 256 + b) (high / place)) [ inl t ↦ (let h = t.1 in absurd (omega arith)) | inr f ↦ f.0 ] in
        record {
          test = same_le b (wide / place) (c * 256 + b) (high / place) (λ h. omega arith) (λ h. omega arith);
          next = ap (λ (x : ℕ). cond (b == wide / place) x (place - 1)) rest ∙ cond_same (b == wide / place) (place - 1)
              ∙ sym (ap (λ (v : Bool). cond v (high % place) (place - 1)) apart);
        }

    greatest_step : (high : ℕ) → c ≤ high / (place * 256) → GreatestStep high (greatest_rest (place * 256) high c)
    greatest_step high le =
        elim (eqb_tells c (high / (place * 256))) [
          | inl t ↦ greatest_equal high _ t.1 (ap (λ (v : Bool). cond v (high % (place * 256)) (place * 256 - 1)) t.0)
          | inr f ↦ greatest_below high _ (omega (arith, f.1)) (ap (λ (v : Bool). cond v (high % (place * 256)) (place * 256 - 1)) f.0)
        ]

pow_pos256 : (k : ℕ) → 0 < 256 ^ k
pow_pos256 k = let h = one-le-pow k 256 (omega arith) in omega arith

abbrev Answer : Type 0
Answer = Result (ℕ × List ℕ) ℕ

-- the rest of a number behind its highest byte
abbrev behind_byte : ℕ → Answer → Answer
behind_byte top (Ok y) = Ok (top + y.0, y.1)
behind_byte top (Err left) = Err left

-- what the fronts say, with the number and the bytes behind it
abbrev with_number : Result (Unit {0}) ℕ → ℕ × List ℕ → Answer
with_number (Ok done) x = Ok x
with_number (Err left) x = Err left

abbrev Pair : Type 0
Pair = Result ((ℕ × ℕ) × List ℕ) ℕ

regroup_by : (b place : ℕ) (r : Answer)
    → ◌>>=◌ {A = (ℕ × ℕ) × List ℕ} {B = ℕ × List ℕ} (◌>>=◌ {A = ℕ × List ℕ} {B = (ℕ × ℕ) × List ℕ} r (λ y. Ok ((b, y.0), y.1))) (λ p. Ok (p.0.0 * place + p.0.1, p.1))
    ≡ behind_byte (b * place) r
regroup_by b place (Ok y) = refl
regroup_by b place (Err left) = refl

number_step : (more l h b : ℕ) (rest : List ℕ) (v : Bool) → (nat_le (l / 256 ^ more) b && nat_le b (h / 256 ^ more)) ≡ v
    → number_at (suc more) l h (b ∷ rest)
    ≡ cond v (behind_byte (b * 256 ^ more) (number_at more (least_rest (256 ^ more) l b) (greatest_rest (256 ^ more) h b) rest)) (Err (suc (length rest)))
number_step more l h b rest v e =
    let place : ℕ = 256 ^ more in
    let go : ℕ × List ℕ → Pair = λ x. ◌>>=◌ {A = ℕ × List ℕ} {B = (ℕ × ℕ) × List ℕ} (number_at more (least_rest place l x.0) (greatest_rest place h x.0) x.1) (λ y. Ok ((x.0, y.0), y.1)) in
    let judge : Bool → Answer = λ w. ◌>>=◌ {A = (ℕ × ℕ) × List ℕ} {B = ℕ × List ℕ} (◌>>=◌ {A = ℕ × List ℕ} {B = (ℕ × ℕ) × List ℕ} (cond w (Ok (b, rest)) (Err (suc (length rest)))) go) (λ p. Ok (p.0.0 * place + p.0.1, p.1)) in
    let both : (w : Bool) → judge w ≡ cond w (behind_byte (b * place) (number_at more (least_rest place l b) (greatest_rest place h b) rest)) (Err (suc (length rest))) =
    λ w. elim w as (λ u. judge u ≡ cond u (behind_byte (b * place) (number_at more (least_rest place l b) (greatest_rest place h b) rest)) (Err (suc (length rest)))) [
      | true ↦ regroup_by b place (number_at more (least_rest place l b) (greatest_rest place h b) rest)
      | false ↦ refl
    ] in
    ap judge e ∙ both v

module _ (low high : ℕ) (all : List ℕ) (bytes : (k : ℕ) → slice_index all k < 256) where
  fronts_step : (more k : ℕ) (v : Bool) → k < length all
      → (nat_le (low / 256 ^ more) (big_number (suc k) all) && nat_le (big_number (suc k) all) (high / 256 ^ more)) ≡ v
      → fronts_at (suc more) k low high all ≡ cond v (fronts_at more (suc k) low high all) (Err (length all - (suc k - 1)))
  fronts_step more k v lt e =
      let long : nat_lt (length all) (suc k) ≡ false = le-ltb (length all) (suc k) (omega arith) in
      let after : Result (Unit {0}) ℕ → Result (Unit {0}) ℕ = λ r. ◌>>=◌ {A = Unit {0}} {B = Unit {0}} r (λ _. fronts_at more (suc k) low high all) in
      let both : (w : Bool) → after (cond w (Ok tt) (Err (length all - (suc k - 1)))) ≡ cond w (fronts_at more (suc k) low high all) (Err (length all - (suc k - 1))) =
      λ w. elim w as (λ u. after (cond u (Ok tt) (Err (length all - (suc k - 1)))) ≡ cond u (fronts_at more (suc k) low high all) (Err (length all - (suc k - 1)))) [ true ↦ refl | false ↦ refl ] in
      ap (λ (w : Bool). after (cond w (Err 0) (cond (nat_le (low / 256 ^ more) (big_number (suc k) all) && nat_le (big_number (suc k) all) (high / 256 ^ more)) (Ok tt) (Err (length all - (suc k - 1)))))) long
      ∙ ap (λ (w : Bool). after (cond w (Ok tt) (Err (length all - (suc k - 1))))) e ∙ both v

  fronts_end : (more k : ℕ) → length all ≤ k → fronts_at (suc more) k low high all ≡ Err 0
  fronts_end more k le =
      let short : nat_lt (length all) (suc k) ≡ true = lt-ltb (length all) (suc k) (omega arith) in
      let after : Result (Unit {0}) ℕ → Result (Unit {0}) ℕ = λ r. ◌>>=◌ {A = Unit {0}} {B = Unit {0}} r (λ _. fronts_at more (suc k) low high all) in
      ap (λ (w : Bool). after (cond w (Err 0) (cond (nat_le (low / 256 ^ more) (big_number (suc k) all) && nat_le (big_number (suc k) all) (high / 256 ^ more)) (Ok tt) (Err (length all - (suc k - 1)))))) short

  -- behind k bytes: what the reader of the number answers, by the numbers that the bytes begin
  abbrev Follows : ℕ → ℕ → Type 0
  Follows more k =
      number_at more (least_rest (256 ^ more) low (big_number k all)) (greatest_rest (256 ^ more) high (big_number k all)) (drop k all)
      ≡ with_number (fronts_at more k low high all) (big_from k more all, drop (k + more) all)

  follows_more : (more k : ℕ) (r : Result (Unit {0}) ℕ) → behind_byte (slice_index all k * 256 ^ more) (with_number r (big_from (suc k) more all, drop (suc k + more) all))
      ≡ with_number r (big_from k (suc more) all, drop (k + suc more) all)
  follows_more more k (Ok done) =
      let e : suc k + more ≡ k + suc more = omega arith in
      ap (λ (j : ℕ). Ok (slice_index all k * 256 ^ more + big_from (suc k) more all, drop j all)) e
  follows_more more k (Err left) = refl

  follows_by : (more k : ℕ) → k < length all → low / 256 ^ suc more ≤ big_number k all → big_number k all ≤ high / 256 ^ suc more
      → (low / 256 ^ more ≤ big_number (suc k) all → big_number (suc k) all ≤ high / 256 ^ more → Follows more (suc k)) → Follows (suc more) k
  follows_by more k lt from to after =
      let place : ℕ = 256 ^ more in
      let pos : 0 < place = pow_pos256 more in
      let b : ℕ = slice_index all k in
      let c : ℕ = big_number k all in
      let e : 256 ^ suc more ≡ place * 256 = pow-suc 256 more in
      let from_wide : low / (place * 256) ≤ c = subst (λ (p : ℕ). low / p ≤ c) e from in
      let to_wide : c ≤ high / (place * 256) = subst (λ (p : ℕ). c ≤ high / p) e to in
      let least : ℕ = least_rest (256 ^ suc more) low c in
      let greatest : ℕ = greatest_rest (256 ^ suc more) high c in
      let l : LeastStep place pos c b (bytes k) low least = subst (λ (p : ℕ). LeastStep place pos c b (bytes k) low (least_rest p low c)) (sym e) (least_step place pos c b (bytes k) low from_wide) in
      let g : GreatestStep place pos c b (bytes k) high greatest = subst (λ (p : ℕ). GreatestStep place pos c b (bytes k) high (greatest_rest p high c)) (sym e) (greatest_step place pos c b (bytes k) high to_wide) in
      let front : big_number (suc k) all ≡ c * 256 + b = big-more 0 k all ∙ ap (λ (j : ℕ). c * 256 + slice_index all j) (zero-add k) in
      let test : (nat_le (least / place) b && nat_le b (greatest / place)) ≡ (nat_le (low / place) (big_number (suc k) all) && nat_le (big_number (suc k) all) (high / place)) =
      ap (λ (v : Bool). v && nat_le b (greatest / place)) l.test ∙ ap (λ (v : Bool). nat_le (low / place) (c * 256 + b) && v) g.test
      ∙ ap (λ (n : ℕ). nat_le (low / place) n && nat_le n (high / place)) (sym front) in
      let parts : drop k all ≡ b ∷ drop (suc k) all = drop-cons all k 0 lt in
      let whole = ap (λ (bs : List ℕ). number_at (suc more) least greatest bs) parts in
      let last : ℕ × List ℕ = (big_from k (suc more) all, drop (k + suc more) all) in
      elim (cases_Bool (nat_le (low / place) (big_number (suc k) all) && nat_le (big_number (suc k) all) (high / place))) [
        | inl t ↦ (let both = and_parts _ _ t in
            let rest = after (leb-true _ _ both.0) (leb-true _ _ both.1) in
            whole ∙ number_step more least greatest b (drop (suc k) all) true (test ∙ t)
            ∙ ap (λ (n : ℕ). behind_byte (b * place) (number_at more n (greatest_rest place greatest b) (drop (suc k) all))) (l.next ∙ ap (λ (n : ℕ). least_rest place low n) (sym front))
            ∙ ap (λ (n : ℕ). behind_byte (b * place) (number_at more (least_rest place low (big_number (suc k) all)) n (drop (suc k) all))) (g.next ∙ ap (λ (n : ℕ). greatest_rest place high n) (sym front))
            ∙ ap (behind_byte (b * place)) rest ∙ follows_more more k (fronts_at more (suc k) low high all)
            ∙ sym (ap (λ (r : Result (Unit {0}) ℕ). with_number r last) (fronts_step more k true lt t)))
        | inr f ↦ (let count : suc (length (drop (suc k) all)) ≡ length all - (suc k - 1) = omega (arith, length-drop (suc k) all) in
            whole ∙ number_step more least greatest b (drop (suc k) all) false (test ∙ f) ∙ ap (λ (n : ℕ). Err n) count
            ∙ sym (ap (λ (r : Result (Unit {0}) ℕ). with_number r last) (fronts_step more k false lt f)))
      ]

  follows : (more k : ℕ) → k ≤ length all → low / 256 ^ more ≤ big_number k all → big_number k all ≤ high / 256 ^ more → Follows more k
  follows zero k within from to = ap (λ (j : ℕ). Ok (0, drop j all)) (sym (add-zero k))
  follows (suc more) k within from to =
      elim (cases_lt k (length all)) [
        | inl lt ↦ follows_by more k lt from to (λ f t. follows more (suc k) (omega arith) f t)
        | inr ge ↦ ap (λ (bytes : List ℕ). number_at (suc more) (least_rest (256 ^ suc more) low (big_number k all)) (greatest_rest (256 ^ suc more) high (big_number k all)) bytes) (drop_all k all ge)
            ∙ sym (ap (λ (r : Result (Unit {0}) ℕ). with_number r (big_from k (suc more) all, drop (k + suc more) all)) (fronts_end more k ge))
      ]

  -- from no bytes on
  whole : (w : ℕ) → low ≤ high → high < 256 ^ w → number_at w low high all ≡ with_number (fronts_at w 0 low high all) (big_number w all, drop w all)
  whole w le below =
      let none : (n : ℕ) → n < 256 ^ w → n / 256 ^ w ≡ 0 = λ n lt. (let e = div-add-mod' n (256 ^ w) in let q : n / 256 ^ w < 1 = div_below n (256 ^ w) 1 (pow_pos256 w) (omega arith) in omega arith) in
      let low_none = none low (omega arith) in
      let high_none = none high below in
      let least : least_rest (256 ^ w) low 0 ≡ low = ap (λ (v : Bool). cond v (low % 256 ^ w) 0) (eq-eqb 0 (low / 256 ^ w) (sym low_none)) ∙ mod-eq_of_lt (omega arith) in
      let greatest : greatest_rest (256 ^ w) high 0 ≡ high = ap (λ (v : Bool). cond v (high % 256 ^ w) (256 ^ w - 1)) (eq-eqb 0 (high / 256 ^ w) (sym high_none)) ∙ mod-eq_of_lt below in
      sym (ap (λ (n : ℕ). number_at w n (greatest_rest (256 ^ w) high 0) all) least ∙ ap (λ (n : ℕ). number_at w low n all) greatest)
      ∙ follows w 0 (omega arith) (omega arith) (omega arith)
      ∙ ap (λ (j : ℕ). with_number (fronts_at w 0 low high all) (big_number w all, drop j all)) (zero-add w)

  pub number_stops : (w left : ℕ) → low ≤ high → high < 256 ^ w → fronts_at w 0 low high all ≡ Err left → number_at w low high all ≡ Err left
  number_stops w left le below e = whole w le below ∙ ap (λ (r : Result (Unit {0}) ℕ). with_number r (big_number w all, drop w all)) e

  pub number_goes : (w : ℕ) → low ≤ high → high < 256 ^ w → fronts_at w 0 low high all ≡ Ok tt → number_at w low high all ≡ Ok (big_number w all, drop w all)
  number_goes w le below e = whole w le below ∙ ap (λ (r : Result (Unit {0}) ℕ). with_number r (big_number w all, drop w all)) e
