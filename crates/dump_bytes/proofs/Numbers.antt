-- A number of so many bytes is read a byte at a time, each one that some number within the bounds has.
use Rattle.std.proofs.Common.{◌≡◌, ℕ, zero, suc, ◌+◌, ◌-◌, ◌*◌, ◌/◌, ◌%◌, ◌^◌, ◌<◌, ◌≤◌, Bool, true, false, List, [], ◌∷◌, refl, sym, ap, subst, ◌∙◌, arith, inl, inr}
use Rattle.std.specs.Prelude.{nat_le, ◌&&◌, ◌==◌, if◌then◌else◌}
use Rattle.std.specs.Int.{byte_at, bytes_high_first}
use Rattle.std.proofs.Math.Nat.{mul-le-mul_right, mod-lt, mod-eq_of_lt, mul-add-div_right, mul-add-mod_self_right, one-le-pow, pow-succ', mul_assoc, add-mul}
use Rattle.std.proofs.lemmas.Nat.{div-add-mod', div-mul-add}
use Rattle.std.proofs.lemmas.Bool.Decides.{eqb_tells}
use Rattle.std.proofs.lemmas.Bool.{cases_lt, leb-true, le-leb}
use Rattle.dump_bytes.specs.Reading.{number_at}
use Rattle.dump_bytes.specs.Reading as reading
use Rattle.dump_bytes.proofs.Readers.{Reads, reads_both, reads_made, reads_byte}

-- the least and the greatest rest of a number within the bounds whose highest byte is b
abbrev pub least_rest : ℕ → ℕ → ℕ → ℕ
least_rest place low b = if b == low / place then low % place else 0

abbrev pub greatest_rest : ℕ → ℕ → ℕ → ℕ
greatest_rest place high b = if b == high / place then high % place else place - 1

pub record IsWithin (low high n : ℕ) : Type 0 where
  pub from : low ≤ n
  pub to : n ≤ high

lt-times : (a b p : ℕ) → a < b → a * p + p ≤ b * p
lt-times a b p lt = let h : (a + 1) * p ≤ b * p = mul-le-mul_right p (omega arith) in let e = add-mul a 1 p in omega arith

module _ (place : ℕ) (pos : 0 < place) where
  split : (n : ℕ) → n / place * place + n % place ≡ n
  split n = div-add-mod' n place

  rest-lt : (n : ℕ) → n % place < place
  rest-lt n = mod-lt n pos

  div-le : (m n : ℕ) → m ≤ n → m / place ≤ n / place
  div-le m n le =
      elim (cases_lt (n / place) (m / place)) [
        | inl lt ↦ (let h = lt-times (n / place) (m / place) place lt in let a = split m in let b = split n in let c = rest-lt n in absurd (omega arith))
        | inr ge ↦ ge
      ]

  least_is : (low b m : ℕ) → low / place ≤ b → least_rest place low b ≤ m → low ≤ b * place + m
  least_is low b m le least =
      elim (eqb_tells b (low / place)) [
        | inl t ↦ (let h : low % place ≤ m = subst (λ (v : Bool). (if v then low % place else 0) ≤ m) t.0 least in let e = ap (λ (x : ℕ). x * place) t.1 in let a = split low in omega arith)
        | inr f ↦ (let lt : low / place < b = omega (arith, f.1) in let h = lt-times (low / place) b place lt in let a = split low in let c = rest-lt low in omega arith)
      ]

  greatest_is : (high b m : ℕ) → b ≤ high / place → m ≤ greatest_rest place high b → b * place + m ≤ high
  greatest_is high b m le greatest =
      elim (eqb_tells b (high / place)) [
        | inl t ↦ (let h : m ≤ high % place = subst (λ (v : Bool). m ≤ (if v then high % place else place - 1)) t.0 greatest in let e = ap (λ (x : ℕ). x * place) t.1 in let a = split high in omega arith)
        | inr f ↦ (let lt : b < high / place = omega (arith, f.1) in
            let g : m ≤ place - 1 = subst (λ (v : Bool). m ≤ (if v then high % place else place - 1)) f.0 greatest in
            let h = lt-times b (high / place) place lt in let a = split high in omega arith)
      ]

  least_of : (low n : ℕ) → low ≤ n → least_rest place low (n / place) ≤ n % place
  least_of low n le =
      elim (eqb_tells (n / place) (low / place)) [
        | inl t ↦ (let e = ap (λ (x : ℕ). x * place) t.1 in let a = split low in let b = split n in
            let h : low % place ≤ n % place = omega arith in subst (λ (v : Bool). (if v then low % place else 0) ≤ n % place) (sym t.0) h)
        | inr f ↦ (let h : 0 ≤ n % place = omega arith in subst (λ (v : Bool). (if v then low % place else 0) ≤ n % place) (sym f.0) h)
      ]

  greatest_of : (high n : ℕ) → n ≤ high → n % place ≤ greatest_rest place high (n / place)
  greatest_of high n le =
      elim (eqb_tells (n / place) (high / place)) [
        | inl t ↦ (let e = ap (λ (x : ℕ). x * place) t.1 in let a = split high in let b = split n in
            let h : n % place ≤ high % place = omega arith in subst (λ (v : Bool). n % place ≤ (if v then high % place else place - 1)) (sym t.0) h)
        | inr f ↦ (let c = rest-lt n in let h : n % place ≤ place - 1 = omega arith in subst (λ (v : Bool). n % place ≤ (if v then high % place else place - 1)) (sym f.0) h)
      ]

  greatest-lt : (high b : ℕ) → greatest_rest place high b < place
  greatest-lt high b =
      elim (eqb_tells b (high / place)) [
        | inl t ↦ subst (λ (v : Bool). (if v then high % place else place - 1) < place) (sym t.0) (rest-lt high)
        | inr f ↦ (let h : place - 1 < place = omega arith in subst (λ (v : Bool). (if v then high % place else place - 1) < place) (sym f.0) h)
      ]

  -- each byte within the bounds is some number's
  least-le-greatest : (low high b : ℕ) → low ≤ high → low / place ≤ b → b ≤ high / place → least_rest place low b ≤ greatest_rest place high b
  least-le-greatest low high b le from to =
      elim (eqb_tells b (low / place)) [
        | inl t ↦ subst (λ (v : Bool). (if v then low % place else 0) ≤ greatest_rest place high b) (sym t.0)
            (elim (eqb_tells b (high / place)) [
              | inl s ↦ (let e = ap (λ (x : ℕ). x * place) (sym t.1 ∙ s.1) in let a = split low in let c = split high in
                  let h : low % place ≤ high % place = omega arith in subst (λ (v : Bool). low % place ≤ (if v then high % place else place - 1)) (sym s.0) h)
              | inr f ↦ (let c = rest-lt low in let h : low % place ≤ place - 1 = omega arith in subst (λ (v : Bool). low % place ≤ (if v then high % place else place - 1)) (sym f.0) h)
            ])
        | inr f ↦ (let h : 0 ≤ greatest_rest place high b = omega arith in subst (λ (v : Bool). (if v then low % place else 0) ≤ greatest_rest place high b) (sym f.0) h)
      ]

pow_pos256 : (k : ℕ) → 0 < 256 ^ k
pow_pos256 k = let h = one-le-pow k 256 (omega arith) in omega arith

byte_is : (k x : ℕ) → byte_at k x ≡ x / 256 ^ k % 256
byte_is zero x = let e : x / 1 ≡ x = (let s = div-add-mod' x 1 in let r = mod-lt x {m = 1} (omega arith) in omega arith) in ap (λ (y : ℕ). y % 256) (sym e)
byte_is (suc k) x = refl

-- the low bytes don't depend on what is above them
low_bytes : (w c m : ℕ) → bytes_high_first w (c * 256 ^ w + m) ≡ bytes_high_first w m
low_bytes zero c m = refl
low_bytes (suc w) c m =
    let regroup : c * 256 ^ suc w + m ≡ (c * 256) * 256 ^ w + m = ap (λ (x : ℕ). x + m) (ap (λ (x : ℕ). c * x) (pow-succ' 256 w) ∙ sym (mul_assoc c 256 (256 ^ w))) in
    let top : byte_at w (c * 256 ^ suc w + m) ≡ byte_at w m =
    ap (byte_at w) regroup ∙ byte_is w ((c * 256) * 256 ^ w + m) ∙ ap (λ (x : ℕ). x % 256) (mul-add-div_right (pow_pos256 w) (c * 256) m)
    ∙ mul-add-mod_self_right c 256 (m / 256 ^ w) ∙ sym (byte_is w m) in
    let rest : bytes_high_first w (c * 256 ^ suc w + m) ≡ bytes_high_first w m = ap (bytes_high_first w) regroup ∙ low_bytes w (c * 256) m in
    ap (λ (b : ℕ). b ∷ bytes_high_first w (c * 256 ^ suc w + m)) top ∙ ap (λ (bs : List ℕ). byte_at w m ∷ bs) rest

-- the bytes of a number by its highest one
pub high_byte : (w b m : ℕ) → b < 256 → m < 256 ^ w → bytes_high_first (suc w) (b * 256 ^ w + m) ≡ b ∷ bytes_high_first w m
high_byte w b m is_byte below =
    let top : byte_at w (b * 256 ^ w + m) ≡ b = byte_is w (b * 256 ^ w + m) ∙ ap (λ (x : ℕ). x % 256) (div-mul-add b (256 ^ w) m below) ∙ mod-eq_of_lt is_byte in
    ap (λ (c : ℕ). c ∷ bytes_high_first w (b * 256 ^ w + m)) top ∙ ap (λ (bs : List ℕ). b ∷ bs) (low_bytes w b m)

pub and_true : (p q : Bool) → (p && q) ≡ true → (p ≡ true) × (q ≡ true)
and_true true q h = (refl, h)
and_true false q h = absurd cc

passes : (a b c : ℕ) → (nat_le a b && nat_le b c) ≡ true → (a ≤ b) × (b ≤ c)
passes a b c h = let both = and_true (nat_le a b) (nat_le b c) h in (leb-true a b both.0, leb-true b c both.1)

passed : (a b c : ℕ) → a ≤ b → b ≤ c → (nat_le a b && nat_le b c) ≡ true
passed a b c p q = ap (λ (v : Bool). v && nat_le b c) (le-leb a b p) ∙ le-leb b c q

pub reads_number : (w low high : ℕ) → low ≤ high → high < 256 ^ w → Reads (number_at w low high) (bytes_high_first w) (IsWithin low high)
reads_number zero low high le below =
    let none : 256 ^ 0 ≡ 1 = refl in
    record {
      judged = λ bytes. (record { from = omega arith; to = omega arith }, refl);
      some = (low, record { from = omega arith; to = le });
      apart = λ a b u v oka okb e. let p = oka.to in let q = okb.to in let same : a ≡ b = omega arith in (same, e);
    }
reads_number (suc w) low high le below =
    let place : ℕ = 256 ^ w in
    let pos = pow_pos256 w in
    let low_le = div-le place pos low high le in
    let top : high / place < 256 = elim (cases_lt (high / place) 256) [
      | inl lt ↦ lt
      | inr ge ↦ (let h : 256 * 256 ^ w ≤ high / place * 256 ^ w = mul-le-mul_right (256 ^ w) ge in let s = split place pos high in let e = pow-succ' 256 w in absurd (omega arith))
    ] in
    reads_made (λ p. p.0 * 256 ^ w + p.1) _ _ (bytes_high_first (suc w)) (IsWithin low high)
    (λ p is_ok. let r = passes (low / place) p.0 (high / place) is_ok.0 in
    let g = greatest-lt place pos high p.0 in let t = is_ok.1.to in high_byte w p.0 p.1 (omega arith) (omega arith))
    (λ p is_ok. let r = passes (low / place) p.0 (high / place) is_ok.0 in record { from = least_is place pos low p.0 p.1 r.0 is_ok.1.from; to = greatest_is place pos high p.0 p.1 r.1 is_ok.1.to })
    (λ n is_ok. (
      (n / place, n % place),
      (
        passed _ _ _ (div-le place pos low n is_ok.from) (div-le place pos n high is_ok.to),
        record { from = least_of place pos low n is_ok.from; to = greatest_of place pos high n is_ok.to },
      ),
      split place pos n,
    ))
    _ (reads_both (λ b. b ∷ []) (λ b. (nat_le (low / place) b && nat_le b (high / place)) ≡ true) (λ b. bytes_high_first w) (λ b. IsWithin (least_rest place low b) (greatest_rest place high b))
    (reading.byte_at (λ b. nat_le (low / place) b && nat_le b (high / place))) (λ b. number_at w (least_rest place low b) (greatest_rest place high b))
    (reads_byte (λ b. nat_le (low / place) b && nat_le b (high / place)) (low / place) (passed _ _ _ (omega arith) low_le))
    (λ b is_ok. let r = passes (low / place) b (high / place) is_ok in reads_number w (least_rest place low b) (greatest_rest place high b) (least-le-greatest place pos low high b le r.0 r.1) (greatest-lt place pos high b)))
