-- The slot in which a page was when it was last referenced: no other slot holds it.
use Rattle.std.proofs.Common.{◌≡◌, ◌≢◌, ℕ, suc, zero, ◌+◌, ◌-◌, ◌<◌, ◌≤◌, ◌⊎◌, true, false, Option, None, List, [], ◌∷◌, ◌++◌, length, get_or, set, drop, drop-cons, not, ap, sym, ◌∙◌, refl, subst, inl, inr, arith, eqb}
use Rattle.std.specs.List.{list_any}
use Rattle.std.proofs.lemmas.Bool.{cases_lt, cases_eq, cases_Bool, false≢true, false_from_ne_true, both_ways, eqb-true, eq-eqb, ne_eqb, or_right}
use Rattle.std.proofs.lemmas.List.{get_or-set_same, get_or-set_other, get_or_append_left, get_or_at}
use Rattle.vm_types.specs.Ring.{Held, Ring, choose, fresh_slot}
use Rattle.vm_types.specs.declared.ring_choice.Choice.{Choice}
use Rattle.vm_types.specs.declared.ring_choice.Choice.TheVariants.{Empty, Victim, AllLocked}
use Rattle.paging_study.specs.Places.{one_if, last_place}
use Rattle.paging_study.specs.Intervals.{begins}
use Rattle.paging_study.specs.RingFaults.{is_held, holds, replaced, referenced, faults_from, slot_chosen}
use Rattle.paging_study.proofs.Counts.{last_place-le}

-- what a slot holds the ring holds
pub held_holds : (page : ℕ) (slots : List (Option Held)) (s : ℕ) → is_held page (get_or slots s None) ≡ true → list_any (is_held page) slots ≡ true
held_holds page [] s is = absurd (false≢true is)
held_holds page (x ∷ xs) zero is = rw is refl
held_holds page (x ∷ xs) (suc s) is = or_right _ _ (held_holds page xs s is)

-- what the ring holds a slot holds
holds_somewhere : (page : ℕ) (slots : List (Option Held)) → list_any (is_held page) slots ≡ true → (s : ℕ) × (is_held page (get_or slots s None) ≡ true)
holds_somewhere page [] is = absurd (false≢true is)
holds_somewhere page (x ∷ xs) is = elim (cases_Bool (is_held page x)) [
  | inl here ↦ (0, here)
  | inr not_here ↦
      let rest : list_any (is_held page) xs ≡ true = rw not_here at is in
      let there = holds_somewhere page xs rest in
      (suc there.0, there.1)
]

pub misses_from : (ring : Ring) (last page : ℕ) → ((s : ℕ) → is_held page (get_or ring.slots s None) ≡ true → s ≡ last)
    → is_held page (get_or ring.slots last None) ≡ false → holds ring page ≡ false
misses_from ring last page only not_there = false_from_ne_true _ (λ is.
    let there = holds_somewhere page ring.slots is in
    both_ways _ not_there (subst (λ (s : ℕ). is_held page (get_or ring.slots s None) ≡ true) (only there.0 there.1) there.1))

-- what each slot holds after a reference
abbrev pub HeldThen : (old new : List (Option Held)) (page slot : ℕ) → Type 0
HeldThen old new page slot = (s v : ℕ) → is_held v (get_or new s None) ≡ true → ((v ≡ page) × (s ≡ slot)) ⊎ ((v ≢ page) × (is_held v (get_or old s None) ≡ true))

pub same_held : (ring : Ring) (page last : ℕ) → ((s : ℕ) → is_held page (get_or ring.slots s None) ≡ true → s ≡ last) → HeldThen ring.slots ring.slots page last
same_held ring page last only s v is = elim (cases_eq v page) [
  | inl same ↦ inl (same, only s (subst (λ (w : ℕ). is_held w (get_or ring.slots s None) ≡ true) same is))
  | inr other ↦ inr (other, is)
]

other_held : (ring : Ring) (page s v : ℕ) → holds ring page ≡ false → is_held v (get_or ring.slots s None) ≡ true → (v ≢ page) × (is_held v (get_or ring.slots s None) ≡ true)
other_held ring page s v misses is =
    (λ same. both_ways _ misses (held_holds page ring.slots s (subst (λ (w : ℕ). is_held w (get_or ring.slots s None) ≡ true) same is)), is)

placed_held : (ring : Ring) (page slot : ℕ) → holds ring page ≡ false → slot < length ring.slots → HeldThen ring.slots (set ring.slots slot (fresh_slot page)) page slot
placed_held ring page slot misses within s v is = elim (cases_eq s slot) [
  | inl at ↦
      let here : is_held v (fresh_slot page) ≡ true = ap (λ o. is_held v o) (sym (ap (λ (k : ℕ). get_or (set ring.slots slot (fresh_slot page)) k None) at ∙ get_or-set_same ring.slots slot (fresh_slot page) None within)) ∙ is in
      inl (eqb-true v page here, at)
  | inr other ↦
      let there : is_held v (get_or ring.slots s None) ≡ true = ap (λ o. is_held v o) (sym (get_or-set_other ring.slots slot s (fresh_slot page) None other)) ∙ is in
      inr (other_held ring page s v misses there)
]

replaced_held : (choice : Choice) (ring : Ring) (page : ℕ) → holds ring page ≡ false → slot_chosen choice < length ring.slots → HeldThen ring.slots (replaced choice ring page).slots page (slot_chosen choice)
replaced_held (Empty slot) ring page misses within = placed_held ring page slot misses within
replaced_held (Victim slot) ring page misses within = placed_held ring page slot misses within
replaced_held AllLocked ring page misses within = λ s v is. inr (other_held ring page s v misses is)

pub loaded_held : (old new : Ring) (limit page slot : ℕ) → holds old page ≡ false → new ≡ referenced limit old page → slot ≡ slot_chosen (choose old limit) → slot < length old.slots
    → HeldThen old.slots new.slots page slot
loaded_held old new limit page slot misses new_is slot_is within =
    let is : referenced limit old page ≡ replaced (choose old limit) old page = rw misses refl in
    subst (λ (r : Ring). HeldThen old.slots r.slots page slot) (sym (new_is ∙ is))
    (subst (λ (k : ℕ). HeldThen old.slots (replaced (choose old limit) old page).slots page k) (sym slot_is)
    (replaced_held (choose old limit) old page misses (subst (λ (k : ℕ). k < length old.slots) slot_is within)))

-- each page that a slot holds was referenced, and was in that slot when it was last
abbrev pub AreHints : (slots : List (Option Held)) (hints : List ℕ) (page : ℕ → ℕ) (n : ℕ) → Type 0
AreHints slots hints page n = (s v : ℕ) → is_held v (get_or slots s None) ≡ true
    → (1 ≤ last_place (λ i. eqb (page i) v) n) × (s ≡ get_or hints (last_place (λ i. eqb (page i) v) n - 1) 0)

-- so no other slot holds the page of the next reference
pub only_there : (slots : List (Option Held)) (hints : List ℕ) (page : ℕ → ℕ) (n p first last : ℕ) → AreHints slots hints page n → p ≡ page (suc n) → first ≡ begins page (suc n)
    → (1 ≤ first → last ≡ get_or hints (first - 1) 0) → (s : ℕ) → is_held p (get_or slots s None) ≡ true → s ≡ last
only_there slots hints page n p first last are p_is first_is last_is s is =
    let w = are s (page (suc n)) (subst (λ (v : ℕ). is_held v (get_or slots s None) ≡ true) p_is is) in
    let some : 1 ≤ first = omega (arith, w.0, first_is) in
    w.1 ∙ (ap (λ (k : ℕ). get_or hints (k - 1) 0) (sym first_is) ∙ sym (last_is some))

pub hints_step : (old new : List (Option Held)) (hints : List ℕ) (page : ℕ → ℕ) (n p slot : ℕ) → AreHints old hints page n → length hints ≡ n → p ≡ page (suc n)
    → HeldThen old new p slot → AreHints new (hints ++ slot ∷ []) page (suc n)
hints_step old new hints page n p slot are len p_is held s v is = elim (held s v is) [
  | inl here ↦
      let test : eqb (page (suc n)) v ≡ true = eq-eqb _ _ (sym p_is ∙ sym here.0) in
      let at : suc n - 1 ≡ n = omega arith in
      rw test (omega arith, here.1 ∙ (sym (get_or_at hints slot [] 0 n len) ∙ ap (λ (k : ℕ). get_or (hints ++ slot ∷ []) k 0) (sym at)))
  | inr there ↦
      let test : eqb (page (suc n)) v ≡ false = ne_eqb _ _ (λ e. there.0 (sym e ∙ sym p_is)) in
      let w = are s v there.1 in
      let le : last_place (λ i. eqb (page i) v) n ≤ n = last_place-le (λ i. eqb (page i) v) n in
      rw test (w.0, w.1 ∙ sym (get_or_append_left hints (slot ∷ []) 0 (last_place (λ i. eqb (page i) v) n - 1) (omega (arith, w.0, le, len))))
]

-- the fault at one more reference
pub faults_more : (limit : ℕ) (ring after : Ring) (pages : List ℕ) (i page fault faults total : ℕ) → i < length pages → page ≡ get_or pages i 0 → after ≡ referenced limit ring page
    → fault ≡ one_if (not (holds ring page)) → faults + faults_from limit ring (drop i pages) ≡ total → faults + fault + faults_from limit after (drop (i + 1) pages) ≡ total
faults_more limit ring after pages i page fault faults total below page_is after_is fault_is before =
    let split : drop i pages ≡ get_or pages i 0 ∷ drop (suc i) pages = drop-cons pages i 0 below in
    let step : faults_from limit ring (drop i pages) ≡ one_if (not (holds ring (get_or pages i 0))) + faults_from limit (referenced limit ring (get_or pages i 0)) (drop (suc i) pages) =
    ap (λ (xs : List ℕ). faults_from limit ring xs) split in
    let next : i + 1 ≡ suc i = omega arith in
    let rest : faults_from limit after (drop (i + 1) pages) ≡ faults_from limit (referenced limit ring (get_or pages i 0)) (drop (suc i) pages) =
    ap (λ (r : Ring). faults_from limit r (drop (i + 1) pages)) (after_is ∙ ap (λ (p : ℕ). referenced limit ring p) page_is)
    ∙ ap (λ (k : ℕ). faults_from limit (referenced limit ring (get_or pages i 0)) (drop k pages)) next in
    let fault_is' : fault ≡ one_if (not (holds ring (get_or pages i 0))) = fault_is ∙ ap (λ (p : ℕ). one_if (not (holds ring p))) page_is in
    omega (arith, before, step, rest, fault_is')

-- one more slot of the ring
pub below_more : (xs : List ℕ) (x i b : ℕ) → length xs ≡ i → ((n : ℕ) → n < i → get_or xs n 0 < b) → x < b → (n : ℕ) → n < i + 1 → get_or (xs ++ x ∷ []) n 0 < b
below_more xs x i b len before here n below = elim (cases_lt n i) [
  | inl lt ↦ rw (get_or_append_left xs (x ∷ []) 0 n (omega (arith, len, lt))) (before n lt)
  | inr le ↦ rw (get_or_at xs x [] 0 n (omega (arith, len, le, below))) here
]
