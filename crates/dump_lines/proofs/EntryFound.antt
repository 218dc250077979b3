-- The valid entry of a page in an ascending list.
use Rattle.std.proofs.Common.{◌≡◌, ℕ, zero, suc, ◌<◌, ◌≤◌, Bool, false, List, [], ◌∷◌, get_or, length, map, nat_eq, refl, sym, ap, subst, ◌∙◌, arith, inl, inr}
use Rattle.std.specs.Prelude.{◌&&◌}
use Rattle.std.specs.List.{AllByRecursion, HoldsAt, list_any}
use Rattle.std.specs.List.Sorted.{IsNonDecreasingBy, IsPartitionPoint}
use Rattle.std.specs.Ordering.{nat_cmp, ordering_index}
use Rattle.std.specs.declared.cmp.Ordering.TheVariants.{Less, Equal, Greater}
use Rattle.std.proofs.lemmas.Bool.{and_from, and_left, and_right, cases_Bool, cases_eq, cases_lt, eq-eqb, ne_eqb}
use Rattle.std.proofs.lemmas.Bool.Decides.{nat_tests}
use Rattle.std.proofs.lemmas.List.Recursion.{or_at, or_from_places}
use Rattle.dump_bytes.specs.Bounds.{Ascends}
use Rattle.dump_lines.specs.Pins.{has_entry}
use Rattle.dump_lines.specs.Shares.{is_for}
use Rattle.dump_lines.specs.WordFrame.{frame_of}

abbrev key : ℕ × ℕ → ℕ
key w = w.0

above : (n : ℕ) (ws : List (ℕ × ℕ)) → AllByRecursion (λ m. n < m) (map key ws) → (j : ℕ) (d : ℕ × ℕ) → j < length ws → n < key (get_or ws j d)
above n [] a j d within = absurd (omega arith)
above n (w ∷ ws) a zero d within = a.0
above n (w ∷ ws) a (suc j) d within = above n ws a.1 j d (omega arith)

-- a later entry has a higher page number
pub rises : (ws : List (ℕ × ℕ)) → Ascends (map key ws) → (i j : ℕ) (d : ℕ × ℕ) → i < j → j < length ws → key (get_or ws i d) < key (get_or ws j d)
rises [] a i j d lt within = absurd (omega arith)
rises (w ∷ ws) a i zero d lt within = absurd (omega arith)
rises (w ∷ ws) a zero (suc j) d lt within = above (key w) ws a.0 j d (omega arith)
rises (w ∷ ws) a (suc i) (suc j) d lt within = rises ws a.1 i j d (omega arith) (omega arith)

apart : (ws : List (ℕ × ℕ)) → Ascends (map key ws) → (i j : ℕ) (d : ℕ × ℕ) → i < length ws → j < length ws → (i ≡ j → ⊥) → key (get_or ws i d) ≡ key (get_or ws j d) → ⊥
apart ws a i j d p q ne same =
    elim (cases_lt i j) [
      | inl lt ↦ (let h = rises ws a i j d lt q in omega arith)
      | inr ge ↦ elim (cases_lt j i) [ inl lt ↦ (let h = rises ws a j i d lt p in omega arith) | inr le ↦ ne (omega arith) ]
    ]

abbrev test : ℕ → ℕ → ℕ × ℕ → Bool
test vpn f w = nat_eq w.0 vpn && is_for f w

pub entry_found : (ws : List (ℕ × ℕ)) (vpn at : ℕ) (d : ℕ × ℕ) → Ascends (map key ws) → at < length ws → key (get_or ws at d) ≡ vpn → (f : ℕ) → has_entry ws vpn f ≡ nat_eq (frame_of (get_or ws at d).1) f
entry_found ws vpn at d a within same f =
    elim (cases_Bool (is_for f (get_or ws at d))) [
      | inl t ↦ or_at (list_any (test vpn f)) (test vpn f) refl (λ _ _. refl) ws at d within (and_from _ _ (eq-eqb _ _ same) t) ∙ sym t
      | inr e ↦ or_from_places (list_any (test vpn f)) (test vpn f) refl (λ _ _. refl) ws d
          (λ i inside. elim (cases_eq i at) [
            | inl is ↦ subst (λ (k : ℕ). test vpn f (get_or ws k d) ≡ false) (sym is) (and_right _ _ e)
            | inr ne ↦ and_left _ _ (ne_eqb _ _ (λ also. apart ws a i at d inside within ne (also ∙ sym same)))
          ]) ∙ sym e
    ]

pub entry_missing : (ws : List (ℕ × ℕ)) (vpn : ℕ) (d : ℕ × ℕ) → ((i : ℕ) → i < length ws → key (get_or ws i d) ≡ vpn → ⊥) → (f : ℕ) → has_entry ws vpn f ≡ false
entry_missing ws vpn d none f =
    or_from_places (list_any (test vpn f)) (test vpn f) refl (λ _ _. refl) ws d (λ i inside. and_left _ _ (ne_eqb _ _ (none i inside)))

-- ---- what comparing says
pub equal_is : (a b : ℕ) → nat_cmp a b ≡ Equal → a ≡ b
equal_is a b e = grind (arith, nat_tests)

pub less_is : (a b : ℕ) → nat_cmp a b ≡ Less → a ≡ b → ⊥
less_is a b e same = grind (arith, nat_tests)

pub greater_is : (a b : ℕ) → nat_cmp a b ≡ Greater → a ≡ b → ⊥
greater_is a b e same = grind (arith, nat_tests)

index_rises : (a b v : ℕ) → a ≤ b → ordering_index (nat_cmp a v) ≤ ordering_index (nat_cmp b v)
index_rises a b v le = grind (arith, nat_tests)

pub answers_rise : (ws : List (ℕ × ℕ)) (vpn : ℕ) → Ascends (map key ws) → IsNonDecreasingBy (λ (w : ℕ × ℕ). ordering_index (nat_cmp w.0 vpn)) ws
answers_rise ws vpn a i j d le within =
    elim (cases_lt i j) [
      | inl lt ↦ (let h = rises ws a i j d lt within in index_rises (key (get_or ws i d)) (key (get_or ws j d)) vpn (omega arith))
      | inr ge ↦ (let same : i ≡ j = omega arith in index_rises (key (get_or ws i d)) (key (get_or ws j d)) vpn (let e = ap (λ (k : ℕ). key (get_or ws k d)) same in omega arith))
    ]

-- ---- what a binary search says
pub found_entry : (ws : List (ℕ × ℕ)) (vpn at : ℕ) → Ascends (map key ws) → at < length ws → HoldsAt (λ (w : ℕ × ℕ). nat_cmp w.0 vpn ≡ Equal) ws at
    → (f : ℕ) (d : ℕ × ℕ) → has_entry ws vpn f ≡ nat_eq (frame_of (get_or ws at d).1) f
found_entry ws vpn at a within equal f d = entry_found ws vpn at d a within (equal_is _ _ (equal d)) f

pub no_entry : (ws : List (ℕ × ℕ)) (vpn at : ℕ) → Ascends (map key ws)
    → (IsNonDecreasingBy (λ (w : ℕ × ℕ). ordering_index (nat_cmp w.0 vpn)) ws → IsPartitionPoint (λ (w : ℕ × ℕ). nat_cmp w.0 vpn ≡ Less) (λ (w : ℕ × ℕ). nat_cmp w.0 vpn ≡ Greater) ws at)
    → (f : ℕ) → has_entry ws vpn f ≡ false
no_entry ws vpn at a parted =
    let parts = parted (answers_rise ws vpn a) in
    entry_missing ws vpn (0, 0) (λ i inside same.
    elim (cases_lt i at) [
      | inl lt ↦ less_is _ _ (parts.0 i (0, 0) (omega arith) lt) same
      | inr ge ↦ greater_is _ _ (parts.1 i (0, 0) (omega arith) inside) same
    ])
