-- A slot of a working set list is read as its bounds and its text say.
use Rattle.std.proofs.Common.{◌≡◌, ℕ, ◌^◌, ◌<◌, ◌≤◌, Bool, true, false, List, [], ◌∷◌, ◌++◌, refl, sym, ap, subst, ◌∙◌, lit<, arith, inl, inr}
use Rattle.std.specs.Prelude.{◌==◌, ◌||◌, ◌⊎◌, nat_lt, if◌then◌else◌}
use Rattle.std.specs.Int.{bytes_high_first}
use Rattle.std.proofs.lemmas.Bool.{eqb-true, eq-eqb, ltb-false}
use Rattle.std.proofs.lemmas.Bool.Decides.{eqb_tells}
use Rattle.dump_bytes.specs.declared.dump.SlotRec.{SlotRec}
use Rattle.dump_bytes.specs.Text.{slot_code, slot_text}
use Rattle.dump_bytes.specs.Bounds.{IsSlot}
use Rattle.dump_bytes.specs.Reading.{exactly_at, zeros_at, slot_at, slot_from, is_slot_code}
use Rattle.dump_bytes.proofs.Readers.{Reads, reads_both, reads_made, reads_byte}
use Rattle.dump_bytes.proofs.Numbers.{reads_number}

pub reads_exactly : (n : ℕ) → Reads (exactly_at n) (λ b. b ∷ []) (λ b. (b == n) ≡ true)
reads_exactly n = reads_byte (λ b. b == n) n (eq-eqb n n refl)

abbrev pub zeros_text : ℕ × (ℕ × ℕ) → List ℕ
zeros_text z = (z.0 ∷ []) ++ ((z.1.0 ∷ []) ++ (z.1.1 ∷ []))

abbrev pub AreZeros : ℕ × (ℕ × ℕ) → Type 0
AreZeros z = ((z.0 == 0) ≡ true) × (((z.1.0 == 0) ≡ true) × ((z.1.1 == 0) ≡ true))

pub reads_zeros : Reads zeros_at zeros_text AreZeros
reads_zeros = reads_both _ _ _ _ _ _ (reads_exactly 0) (λ a i. reads_both _ _ _ _ _ _ (reads_exactly 0) (λ b j. reads_exactly 0))

none_of : (a b c d e : Bool) → a ≡ false → b ≡ false → c ≡ false → d ≡ false → e ≡ false → (a || (b || (c || (d || e)))) ≡ true → ⊥
none_of false false false false false p q r s t h = cc
none_of true b c d e p q r s t h = cc
none_of false true c d e p q r s t h = cc
none_of false false true d e p q r s t h = cc
none_of false false false true e p q r s t h = cc
none_of false false false false true p q r s t h = cc

zero_of : (c : ℕ) → nat_lt 0 c ≡ false → c ≡ 0
zero_of c h = omega (arith, ltb-false 0 c h)

code_cases : (c : ℕ) → is_slot_code c ≡ true → (c ≡ 0) ⊎ ((c ≡ 1) ⊎ ((c ≡ 3) ⊎ ((c ≡ 5) ⊎ (c ≡ 7))))
code_cases c h =
    elim (eqb_tells c 0) [
      | inl t ↦ inl t.1
      | inr f0 ↦ elim (eqb_tells c 1) [
        | inl t ↦ inr (inl t.1)
        | inr f1 ↦ elim (eqb_tells c 3) [
          | inl t ↦ inr (inr (inl t.1))
          | inr f3 ↦ elim (eqb_tells c 5) [
            | inl t ↦ inr (inr (inr (inl t.1)))
            | inr f5 ↦ elim (eqb_tells c 7) [
              | inl t ↦ inr (inr (inr (inr t.1)))
              | inr f7 ↦ absurd (none_of (c == 0) (c == 1) (c == 3) (c == 5) (c == 7) f0.0 f1.0 f3.0 f5.0 f7.0 h)
            ]
          ]
        ]
      ]
    ]

code_is_by : (c vpn : ℕ) → (c ≡ 0) ⊎ ((c ≡ 1) ⊎ ((c ≡ 3) ⊎ ((c ≡ 5) ⊎ (c ≡ 7)))) → slot_code (slot_from c vpn) ≡ c
code_is_by c vpn (inl e) = subst (λ (x : ℕ). slot_code (slot_from x vpn) ≡ x) (sym e) refl
code_is_by c vpn (inr (inl e)) = subst (λ (x : ℕ). slot_code (slot_from x vpn) ≡ x) (sym e) refl
code_is_by c vpn (inr (inr (inl e))) = subst (λ (x : ℕ). slot_code (slot_from x vpn) ≡ x) (sym e) refl
code_is_by c vpn (inr (inr (inr (inl e)))) = subst (λ (x : ℕ). slot_code (slot_from x vpn) ≡ x) (sym e) refl
code_is_by c vpn (inr (inr (inr (inr e)))) = subst (λ (x : ℕ). slot_code (slot_from x vpn) ≡ x) (sym e) refl

code_is : (c vpn : ℕ) → is_slot_code c ≡ true → slot_code (slot_from c vpn) ≡ c
code_is c vpn h = code_is_by c vpn (code_cases c h)

abbrev highest_vpn : ℕ → ℕ
highest_vpn code = if code == 0 then 0 else 4194303

highest-lt : (code : ℕ) → highest_vpn code < 256 ^ 4
highest-lt code = elim (eqb_tells code 0) [
  | inl t ↦ subst (λ (v : Bool). (if v then 0 else 4194303) < 256 ^ 4) (sym t.0) (lit< tt)
  | inr f ↦ subst (λ (v : Bool). (if v then 0 else 4194303) < 256 ^ 4) (sym f.0) (lit< tt)
]

slot_is : (c vpn : ℕ) → is_slot_code c ≡ true → vpn ≤ highest_vpn c → IsSlot (slot_from c vpn)
slot_is c vpn h le =
    elim (eqb_tells c 0) [
      | inl t ↦ (let low : vpn ≤ 0 = subst (λ (v : Bool). vpn ≤ (if v then 0 else 4194303)) t.0 le in
          let e : IsSlot (slot_from 0 vpn) = record { vpn = omega arith; empty = λ _. (refl, refl, omega arith) } in
          subst (λ (x : ℕ). IsSlot (slot_from x vpn)) (sym t.1) e)
      | inr f ↦ (let low : vpn ≤ 4194303 = subst (λ (v : Bool). vpn ≤ (if v then 0 else 4194303)) f.0 le in
          record { vpn = omega arith; empty = λ none. absurd (f.1 (zero_of c none)) })
    ]

-- each slot within bounds has a code
slot_made_of : (f l p : Bool) (n : ℕ) → IsSlot (record { filled = f; locked = l; pinned = p; vpn = n })
    → (code : ℕ) × (is_slot_code code ≡ true) × (n ≤ highest_vpn code) × (slot_from code n ≡ record { filled = f; locked = l; pinned = p; vpn = n })
slot_made_of false false false n i = (0, refl, (let e = (i.empty refl).2 in omega arith), refl)
slot_made_of false true p n i = let e = (i.empty refl).0 in absurd cc
slot_made_of false false true n i = let e = (i.empty refl).1 in absurd cc
slot_made_of true false false n i = (1, refl, (let e = i.vpn in omega arith), refl)
slot_made_of true true false n i = (3, refl, (let e = i.vpn in omega arith), refl)
slot_made_of true false true n i = (5, refl, (let e = i.vpn in omega arith), refl)
slot_made_of true true true n i = (7, refl, (let e = i.vpn in omega arith), refl)

slot_made : (s : SlotRec) → IsSlot s → (code : ℕ) × (is_slot_code code ≡ true) × (s.vpn ≤ highest_vpn code) × (slot_from code s.vpn ≡ s)
slot_made s i = slot_made_of s.filled s.locked s.pinned s.vpn i

pub zeros_are : (c : ℕ) (z : ℕ × (ℕ × ℕ)) (rest : List ℕ) → AreZeros z → (c ∷ 0 ∷ 0 ∷ 0 ∷ rest) ≡ (c ∷ []) ++ (zeros_text z ++ rest)
zeros_are c z rest i =
    let a : z.0 ≡ 0 = eqb-true z.0 0 i.0 in
    let b : z.1.0 ≡ 0 = eqb-true z.1.0 0 i.1.0 in
    let d : z.1.1 ≡ 0 = eqb-true z.1.1 0 i.1.1 in
    cc

pub reads_slot : Reads slot_at slot_text IsSlot
reads_slot =
    reads_made (λ p. slot_from p.0 p.1.1) _ _ slot_text IsSlot
    (λ p i. ap (λ (c : ℕ). c ∷ 0 ∷ 0 ∷ 0 ∷ bytes_high_first 4 p.1.1) (code_is p.0 p.1.1 i.0) ∙ zeros_are p.0 p.1.0 (bytes_high_first 4 p.1.1) i.1.0)
    (λ p i. slot_is p.0 p.1.1 i.0 i.1.1.to)
    (λ s i. let m = slot_made s i in ((m.0, ((0, (0, 0)), s.vpn)), (m.1, ((refl, (refl, refl)), record { from = omega arith; to = m.2 })), m.3))
    _ (reads_both _ _ _ _ _ _ (reads_byte is_slot_code 0 refl) (λ code i. reads_both _ _ _ _ _ _ reads_zeros (λ z j. reads_number 4 0 (highest_vpn code) (omega arith) (highest-lt code))))
