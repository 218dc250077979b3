-- The word of a valid entry is read as its bounds say.
use Rattle.std.proofs.Common.{◌≡◌, ◌≢◌, ℕ, ◌+◌, ◌-◌, ◌*◌, ◌/◌, ◌%◌, ◌^◌, ◌<◌, ◌≤◌, Bool, true, false, refl, sym, ap, subst, ◌∙◌, arith, inl, inr}
use Rattle.std.specs.Prelude.{◌==◌, ◌&&◌, nat_le, not, if◌then◌else◌}
use Rattle.std.proofs.lemmas.Bool.{eqb-true, eq-eqb, leb-true, le-leb}
use Rattle.std.proofs.lemmas.Bool.Decides.{eqb_tells}
use Rattle.std.proofs.Math.Nat.{mod-lt}
use Rattle.vm_types.specs.declared.limits.TheConstants.{MOST_FRAMES}
use Rattle.vm_types.specs.declared.names.Pfn.{Pfn}
use Rattle.pte_forms.specs.declared.pte.Place.{Place}
use Rattle.pte_forms.specs.Word.{IsPte, word_of, kind_bits}
use Rattle.pte_forms.specs.declared.pte.Pte.{Pte}
use Rattle.pte_forms.specs.declared.pte.Place.TheVariants.{Valid}
use Rattle.dump_bytes.specs.Text.{number}
use Rattle.dump_bytes.specs.Bounds.{IsValidWord}
use Rattle.dump_bytes.specs.Reading.{is_word_head, word_at}
use Rattle.dump_bytes.proofs.Readers.{Reads, reads_both, reads_made, reads_byte}
use Rattle.dump_bytes.proofs.Numbers.{reads_number, high_byte, and_true}

record IsHead (b : ℕ) : Type 0 where
  from : 128 ≤ b
  to : b ≤ 255
  low : b % 4 ≡ 0
  code : b / 8 % 16 ≢ 1

head_is : (b : ℕ) → is_word_head b ≡ true → IsHead b
head_is b h =
    let one = and_true (nat_le 128 b && nat_le b 255) _ h in
    let two = and_true (nat_le 128 b) (nat_le b 255) one.0 in
    let three = and_true (b % 4 == 0) (not (b / 8 % 16 == 1)) one.1 in
    record {
      from = leb-true 128 b two.0;
      to = leb-true b 255 two.1;
      low = eqb-true (b % 4) 0 three.0;
      code = λ e. let t = eq-eqb (b / 8 % 16) 1 e in let n : not (b / 8 % 16 == 1) ≡ false = ap not t in let y = three.1 in cc;
    }

is_head : (b : ℕ) → IsHead b → is_word_head b ≡ true
is_head b h =
    elim (eqb_tells (b / 8 % 16) 1) [
      | inl t ↦ absurd (h.code t.1)
      | inr f ↦ (let a = le-leb 128 b h.from in let c = le-leb b 255 h.to in let d = eq-eqb (b % 4) 0 h.low in let n : not (b / 8 % 16 == 1) ≡ true = ap not f.0 in
          ap (λ (v : Bool). (v && nat_le b 255) && ((b % 4 == 0) && not (b / 8 % 16 == 1))) a ∙ ap (λ (v : Bool). v && ((b % 4 == 0) && not (b / 8 % 16 == 1))) c
          ∙ ap (λ (v : Bool). v && not (b / 8 % 16 == 1)) d ∙ n)
    ]

modify_of : (b : ℕ) → (if (b / 4 % 2 == 1) then 4 else 0) ≡ 4 * (b / 4 % 2)
modify_of b = elim (eqb_tells (b / 4 % 2) 1) [
  | inl t ↦ subst (λ (v : Bool). (if v then 4 else 0) ≡ 4 * (b / 4 % 2)) (sym t.0) (let e = t.1 in omega arith)
  | inr f ↦ subst (λ (v : Bool). (if v then 4 else 0) ≡ 4 * (b / 4 % 2)) (sym f.0) (omega (arith, f.1))
]

head_parts : (b : ℕ) → IsHead b → b ≡ 128 + 8 * (b / 8 % 16) + 4 * (b / 4 % 2)
head_parts b h = let p = h.from in let q = h.to in let r = h.low in omega arith

kind_of : (v : Bool) (f : Pfn) → kind_bits (Valid v f) ≡ (if v then 4 else 0)
kind_of true f = refl
kind_of false f = refl

abbrev pte_of : ℕ → ℕ → Pte
pte_of b m = record { prot = b / 8 % 16; place = Valid (b / 4 % 2 == 1) (record { 0 = m }) }

word_is : (frames b m : ℕ) → 0 < frames → frames ≤ MOST_FRAMES → is_word_head b ≡ true → m ≤ frames - 1 → IsValidWord frames (b * 256 ^ 3 + m)
word_is frames b m some few head le =
    let h = head_is b head in
    let parts = head_parts b h in
    let k : kind_bits (Valid (b / 4 % 2 == 1) (record { 0 = m })) ≡ 4 * (b / 4 % 2) = kind_of (b / 4 % 2 == 1) (record { 0 = m }) ∙ modify_of b in
    record {
      pte = pte_of b m;
      is_pte = record { code = record { small = mod-lt (b / 8) {m = 16} (omega arith); named = h.code }; number = omega arith };
      word_is = omega arith;
      modify = b / 4 % 2 == 1;
      frame = m;
      below = omega arith;
      place = refl;
    }

record WordParts (frames word : ℕ) : Type 0 where
  b : ℕ
  m : ℕ
  head : is_word_head b ≡ true
  below : m ≤ frames - 1
  made : b * 256 ^ 3 + m ≡ word

head_of : (prot x : ℕ) → prot < 16 → prot ≢ 1 → x < 2 → IsHead (128 + 8 * prot + 4 * x)
head_of prot x small named bit =
    let q : (128 + 8 * prot + 4 * x) / 8 ≡ 16 + prot = omega arith in
    record { from = omega arith; to = omega arith; low = omega arith; code = λ e. (let r : (16 + prot) % 16 ≡ 1 = ap (λ (y : ℕ). y % 16) (sym q) ∙ e in named (omega arith)) }

word_parts_of : (frames word : ℕ) (pte : Pte) (v : Bool) (frame : ℕ) → IsPte pte → word_of pte ≡ word → frame < frames → pte.place ≡ Valid v (record { 0 = frame }) → WordParts frames word
word_parts_of frames word pte true frame is e lt place =
    let w : word_of (record { prot = pte.prot; place = Valid true (record { 0 = frame }) }) ≡ word = ap (λ (p : Place). word_of (record { prot = pte.prot; place = p })) (sym place) ∙ e in
    let small = is.code.small in
    record { b = 128 + 8 * pte.prot + 4 * 1; m = frame; head = is_head _ (head_of pte.prot 1 small is.code.named (omega arith)); below = omega arith; made = omega arith }
word_parts_of frames word pte false frame is e lt place =
    let w : word_of (record { prot = pte.prot; place = Valid false (record { 0 = frame }) }) ≡ word = ap (λ (p : Place). word_of (record { prot = pte.prot; place = p })) (sym place) ∙ e in
    let small = is.code.small in
    record { b = 128 + 8 * pte.prot + 4 * 0; m = frame; head = is_head _ (head_of pte.prot 0 small is.code.named (omega arith)); below = omega arith; made = omega arith }

pub reads_word : (frames : ℕ) → 0 < frames → frames ≤ MOST_FRAMES → Reads (word_at frames) number (IsValidWord frames)
reads_word frames some few =
    reads_made (λ p. p.0 * 256 ^ 3 + p.1) _ _ number (IsValidWord frames)
    (λ p i. let h = head_is p.0 i.0 in let b = h.to in let m = i.1.to in high_byte 3 p.0 p.1 (omega arith) (omega arith))
    (λ p i. word_is frames p.0 p.1 some few i.0 i.1.to)
    (λ w i. let g = word_parts_of frames w i.pte i.modify i.frame i.is_pte i.word_is i.below i.place in
    ((g.b, g.m), (g.head, record { from = omega arith; to = g.below }), g.made))
    _ (reads_both _ _ _ _ _ _ (reads_byte is_word_head 128 refl) (λ b i. reads_number 3 0 (frames - 1) (omega arith) (omega arith)))
