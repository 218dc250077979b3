-- The row of a frame is read as its bounds and its text say.
use Rattle.std.proofs.Common.{◌≡◌, ℕ, ◌-◌, ◌^◌, ◌<◌, ◌≤◌, Bool, true, false, List, [], ◌∷◌, ◌++◌, Option, Some, None, refl, sym, ap, subst, ◌∙◌, lit<, arith, inl, inr}
use Rattle.std.specs.Prelude.{◌==◌, ◌⊎◌, nat_lt, if◌then◌else◌}
use Rattle.std.proofs.lemmas.Bool.{eqb-true, ltb-true, lt-ltb}
use Rattle.std.proofs.lemmas.Bool.Decides.{eqb_tells}
use Rattle.vm_types.specs.declared.names.Page.{Page}
use Rattle.vm_types.specs.declared.names.Page.TheVariants.{Private, Shared}
use Rattle.dump_bytes.specs.declared.dump.FrameRec.{FrameRec}
use Rattle.dump_bytes.specs.Text.{number, bit, kind_code, owner_number, page_number, frame_text}
use Rattle.dump_bytes.specs.Bounds.{IsDumpedPage, IsFrame}
use Rattle.dump_bytes.specs.Reading.{below_at, any_at, page_from, owner_high, page_high, frame_at}
use Rattle.dump_bytes.proofs.Readers.{Reads, reads_both, reads_made, reads_byte}
use Rattle.dump_bytes.proofs.Numbers.{IsWithin, reads_number}
use Rattle.dump_bytes.proofs.Slots.{reads_exactly}

pub reads_below : (limit : ℕ) → 0 < limit → Reads (below_at limit) (λ b. b ∷ []) (λ b. nat_lt b limit ≡ true)
reads_below limit pos = reads_byte (λ b. nat_lt b limit) 0 (lt-ltb 0 limit pos)

pub reads_any : Reads any_at number (IsWithin 0 (2 ^ 32 - 1))
reads_any = reads_number 4 0 (2 ^ 32 - 1) (omega arith) (lit< tt)

record PageFacts (procs k o n : ℕ) : Type 0 where
  kind : kind_code (page_from k o n) ≡ k
  owner : owner_number (page_from k o n) ≡ o
  page : page_number (page_from k o n) ≡ n
  bounds : IsDumpedPage procs (page_from k o n)

kinds : (k : ℕ) → k < 3 → (k ≡ 0) ⊎ ((k ≡ 1) ⊎ (k ≡ 2))
kinds k lt = elim (eqb_tells k 0) [
  | inl t ↦ inl t.1
  | inr f ↦ elim (eqb_tells k 1) [ inl t ↦ inr (inl t.1) | inr g ↦ inr (inr (omega (arith, f.1, g.1))) ]
]

page_facts_by : (procs k o n : ℕ) → 0 < procs → (k ≡ 0) ⊎ ((k ≡ 1) ⊎ (k ≡ 2)) → o ≤ owner_high procs k → n ≤ page_high k → PageFacts procs k o n
page_facts_by procs k o n some (inl e) = subst (λ (x : ℕ). o ≤ owner_high procs x → n ≤ page_high x → PageFacts procs x o n) (sym e)
    (λ p q. record { kind = refl; owner = omega arith; page = omega arith; bounds = tt })
page_facts_by procs k o n some (inr (inl e)) = subst (λ (x : ℕ). o ≤ owner_high procs x → n ≤ page_high x → PageFacts procs x o n) (sym e)
    (λ p q. record { kind = refl; owner = refl; page = refl; bounds = (omega arith, omega arith) })
page_facts_by procs k o n some (inr (inr e)) = subst (λ (x : ℕ). o ≤ owner_high procs x → n ≤ page_high x → PageFacts procs x o n) (sym e)
    (λ p q. record { kind = refl; owner = refl; page = refl; bounds = (omega arith, omega arith) })

page_facts : (procs k o n : ℕ) → 0 < procs → nat_lt k 3 ≡ true → o ≤ owner_high procs k → n ≤ page_high k → PageFacts procs k o n
page_facts procs k o n some lt p q = page_facts_by procs k o n some (kinds k (ltb-true k 3 lt)) p q

record PageParts (procs : ℕ) (page : Option Page) : Type 0 where
  k : ℕ
  o : ℕ
  n : ℕ
  kind : nat_lt k 3 ≡ true
  owner : o ≤ owner_high procs k
  number_is : n ≤ page_high k
  made : page_from k o n ≡ page

page_parts : (procs : ℕ) (page : Option Page) → IsDumpedPage procs page → PageParts procs page
page_parts procs None i = record { k = 0; o = 0; n = 0; kind = refl; owner = omega arith; number_is = omega arith; made = refl }
page_parts procs (Some (Private owner vpn)) i = let a = i.0 in let b = i.1 in record { k = 1; o = owner.0; n = vpn; kind = refl; owner = omega arith; number_is = omega arith; made = refl }
page_parts procs (Some (Shared section page)) i = let a = i.0 in let b = i.1 in record { k = 2; o = section.0; n = page; kind = refl; owner = omega arith; number_is = omega arith; made = refl }

abbrev frame_bytes : ℕ → ℕ → ℕ → ℕ → ℕ → ℕ → ℕ → ℕ → List ℕ
frame_bytes s m k z o n r h = (s ∷ m ∷ k ∷ z ∷ []) ++ number o ++ number n ++ number r ++ number h

same_frame : (s m m' k k' z z' o o' n n' r h : ℕ) → m ≡ m' → k ≡ k' → z ≡ z' → o ≡ o' → n ≡ n' → frame_bytes s m k z o n r h ≡ frame_bytes s m' k' z' o' n' r h
same_frame s m m' k k' z z' o o' n n' r h a b c d e =
    ap (λ (x : ℕ). frame_bytes s x k z o n r h) a ∙ ap (λ (x : ℕ). frame_bytes s m' x z o n r h) b ∙ ap (λ (x : ℕ). frame_bytes s m' k' x o n r h) c
    ∙ ap (λ (x : ℕ). frame_bytes s m' k' z' x n r h) d ∙ ap (λ (x : ℕ). frame_bytes s m' k' z' o' x r h) e

bit_of : (m : ℕ) → m < 2 → bit (m == 1) ≡ m
bit_of m lt = elim (eqb_tells m 1) [
  | inl t ↦ subst (λ (v : Bool). (if v then 1 else 0) ≡ m) (sym t.0) (sym t.1)
  | inr f ↦ (let e : 0 ≡ m = omega (arith, f.1) in subst (λ (v : Bool). (if v then 1 else 0) ≡ m) (sym f.0) e)
]

bit_back : (b : Bool) → (bit b == 1) ≡ b
bit_back true = refl
bit_back false = refl

bit-lt : (b : Bool) → nat_lt (bit b) 2 ≡ true
bit-lt true = refl
bit-lt false = refl

owner_high-lt : (procs k : ℕ) → procs ≤ 16 → owner_high procs k < 256 ^ 4
owner_high-lt procs k few =
    let P : Bool → Bool → Type 0 = λ v w. (if v then 0 else (if w then procs - 1 else 63)) < 256 ^ 4 in
    let all : (v w : Bool) → P v w = λ v w. elim v as (λ x. P x w) [ true ↦ lit< tt | false ↦ elim w as (λ y. P false y) [ true ↦ omega arith | false ↦ lit< tt ] ] in
    all (k == 0) (k == 1)

page_high-lt : (k : ℕ) → page_high k < 256 ^ 4
page_high-lt k =
    let P : Bool → Bool → Type 0 = λ v w. (if v then 0 else (if w then 4194303 else 16383)) < 256 ^ 4 in
    let all : (v w : Bool) → P v w = λ v w. elim v as (λ x. P x w) [ true ↦ lit< tt | false ↦ elim w as (λ y. P false y) [ true ↦ lit< tt | false ↦ lit< tt ] ] in
    all (k == 0) (k == 1)

abbrev Parts : Type 0
Parts = ℕ × (ℕ × (ℕ × (ℕ × (ℕ × (ℕ × (ℕ × ℕ))))))

abbrev frame_from : Parts → FrameRec
frame_from p = record { state = p.0; modify = p.1.0 == 1; page = page_from p.1.1.0 p.1.1.1.1.0 p.1.1.1.1.1.0; refs = p.1.1.1.1.1.1.0; shares = p.1.1.1.1.1.1.1 }

abbrev AreParts : ℕ → Parts → Type 0
AreParts procs p =
    (nat_lt p.0 8 ≡ true) × ((nat_lt p.1.0 2 ≡ true) × ((nat_lt p.1.1.0 3 ≡ true) × (((p.1.1.1.0 == 0) ≡ true)
    × (IsWithin 0 (owner_high procs p.1.1.0) p.1.1.1.1.0 × (IsWithin 0 (page_high p.1.1.0) p.1.1.1.1.1.0
    × (IsWithin 0 (2 ^ 32 - 1) p.1.1.1.1.1.1.0 × IsWithin 0 (2 ^ 32 - 1) p.1.1.1.1.1.1.1))))))

abbrev parts_text : Parts → List ℕ
parts_text p = frame_bytes p.0 p.1.0 p.1.1.0 p.1.1.1.0 p.1.1.1.1.0 p.1.1.1.1.1.0 p.1.1.1.1.1.1.0 p.1.1.1.1.1.1.1

facts_of : (procs : ℕ) → 0 < procs → (p : Parts) → AreParts procs p → PageFacts procs p.1.1.0 p.1.1.1.1.0 p.1.1.1.1.1.0
facts_of procs some p i = page_facts procs p.1.1.0 p.1.1.1.1.0 p.1.1.1.1.1.0 some i.1.1.0 i.1.1.1.1.0.to i.1.1.1.1.1.0.to

frame_same_text : (procs : ℕ) → 0 < procs → (p : Parts) → AreParts procs p → frame_text (frame_from p) ≡ parts_text p
frame_same_text procs some p i =
    let f = facts_of procs some p i in
    same_frame p.0 (bit (p.1.0 == 1)) p.1.0 _ p.1.1.0 0 p.1.1.1.0 _ p.1.1.1.1.0 _ p.1.1.1.1.1.0 p.1.1.1.1.1.1.0 p.1.1.1.1.1.1.1
    (bit_of p.1.0 (ltb-true p.1.0 2 i.1.0)) f.kind (sym (eqb-true p.1.1.1.0 0 i.1.1.1.0)) f.owner f.page

frame_is : (procs : ℕ) → 0 < procs → (p : Parts) → AreParts procs p → IsFrame procs (frame_from p)
frame_is procs some p i =
    let r = i.1.1.1.1.1.1.0.to in
    let h = i.1.1.1.1.1.1.1.to in
    record { state = ltb-true p.0 8 i.0; page = (facts_of procs some p i).bounds; refs = omega arith; shares = omega arith }

frame_made : (procs : ℕ) (f : FrameRec) → IsFrame procs f → (p : Parts) × AreParts procs p × (frame_from p ≡ f)
frame_made procs f i =
    let g = page_parts procs f.page i.page in
    let r = i.refs in
    let h = i.shares in (
      (f.state, (bit f.modify, (g.k, (0, (g.o, (g.n, (f.refs, f.shares))))))),
      (
        lt-ltb f.state 8 i.state,
        (
          bit-lt f.modify,
          (
            g.kind,
            (
              refl,
              (
                record { from = omega arith; to = g.owner },
                (
                  record { from = omega arith; to = g.number_is },
                  (record { from = omega arith; to = omega arith }, record { from = omega arith; to = omega arith }),
                ),
              ),
            ),
          ),
        ),
      ),
      ap (λ (b : Bool). record { state = f.state; modify = b; page = page_from g.k g.o g.n; refs = f.refs; shares = f.shares }) (bit_back f.modify)
          ∙ ap (λ (q : Option Page). record { state = f.state; modify = f.modify; page = q; refs = f.refs; shares = f.shares }) g.made,
    )

pub reads_frame : (procs : ℕ) → 0 < procs → procs ≤ 16 → Reads (frame_at procs) frame_text (IsFrame procs)
reads_frame procs some few =
    reads_made frame_from _ _ frame_text (IsFrame procs) (frame_same_text procs some) (frame_is procs some) (frame_made procs)
    _ (reads_both _ _ _ _ _ _ (reads_below 8 (omega arith)) (λ s a. reads_both _ _ _ _ _ _ (reads_below 2 (omega arith)) (λ m b. reads_both _ _ _ _ _ _ (reads_below 3 (omega arith)) (λ k c.
    reads_both _ _ _ _ _ _ (reads_exactly 0) (λ z d. reads_both _ _ _ _ _ _ (reads_number 4 0 (owner_high procs k) (omega arith) (owner_high-lt procs k few)) (λ o e.
    reads_both _ _ _ _ _ _ (reads_number 4 0 (page_high k) (omega arith) (page_high-lt k)) (λ n f. reads_both _ _ _ _ _ _ reads_any (λ r g. reads_any))))))))
