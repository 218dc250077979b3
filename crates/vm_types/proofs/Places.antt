-- Two pages have two places, so a write at one page's place changes what a table has at that page alone.
use Rattle.std.proofs.Common.{◌≡◌, ◌≢◌, ℕ, ◌+◌, ◌-◌, ◌*◌, ◌^◌, ◌<◌, ◌≤◌, ◌⊎◌, inl, inr, List, Option, Some, None, length, set, get_or, ap, arith, refl, get_or-set_same}
use Rattle.std.proofs.lemmas.Bool.Decides.{eqb_tells}
use Rattle.std.proofs.lemmas.Grind.{common_steps}
use Rattle.std.proofs.lemmas.List.{get_or-set_other}
use Rattle.std.specs.Option.{option_and_then, option_map}
use Rattle.vm_types.specs.PagePlaces.{region_place, page_place, item_at, changed_at}

-- a page's place in its process is its number in P0, or counts P1 pages from 4096 on
pub region_places : (v k : ℕ) → region_place v ≡ Some k
    → ((v < 4096) × (k ≡ v)) ⊎ ((2 ^ 22 - 1024 ≤ v) × (v < 2 ^ 22) × (k ≡ v - (2 ^ 22 - 1024) + 4096))
region_places v k at = grind (arith, common_steps)

mapped_from : (p place : ℕ) (o : Option ℕ) → option_map (λ k. 5120 * p + k) o ≡ Some place → (k : ℕ) × (o ≡ Some k) × (place ≡ 5120 * p + k)
mapped_from p place None h = absurd (let no : ⊥ = cc in no)
mapped_from p place (Some k) h = (k, refl, cc)

-- the place of a page is below the end of its process's part
pub page_place-lt : (p v place : ℕ) → page_place p v ≡ Some place → (5120 * p ≤ place) × (place < 5120 * p + 5120)
page_place-lt p v place at =
    let (k, from, is) = mapped_from p place (region_place v) at in
    let part : k < 5120 = elim (region_places v k from) [ inl low ↦ omega arith | inr high ↦ omega arith ] in
    (omega arith, omega arith)

pub places_are_apart : (p v q w place : ℕ) → page_place p v ≡ Some place → page_place q w ≡ Some place → (p ≡ q) × (v ≡ w)
places_are_apart p v q w place at at' =
    let (j, from, is) = mapped_from p place (region_place v) at in
    let (k, from', is') = mapped_from q place (region_place w) at' in
    elim (region_places v j from) [
      | inl low ↦ elim (region_places w k from') [ inl low' ↦ (omega arith, omega arith) | inr high' ↦ (omega arith, omega arith) ]
      | inr high ↦ elim (region_places w k from') [ inl low' ↦ (omega arith, omega arith) | inr high' ↦ (omega arith, omega arith) ]
    ]

other_place : {X : Type 0} (items : List (Option X)) (x : Option X) (place : ℕ) (o : Option ℕ) → o ≢ Some place
    → option_and_then (λ k. get_or (set items place x) k None) o ≡ option_and_then (λ k. get_or items k None) o
other_place items x place None apart = refl
other_place items x place (Some k) apart = get_or-set_other items place k x None (λ e. apart (ap Some e))

same_place : {X : Type 0} (items : List (Option X)) (x : Option X) (place : ℕ) (o : Option ℕ) → o ≡ Some place → place < length items
    → option_and_then (λ k. get_or (set items place x) k None) o ≡ x
same_place items x place o at within = rw at (get_or-set_same items place x None within)

-- a write at the place of a page changes what the table has there alone
pub item_at-set : {X : Type 0} (items : List (Option X)) (x : Option X) (p v place : ℕ) → page_place p v ≡ Some place → place < length items
    → (q w : ℕ) → item_at (set items place x) q w ≡ changed_at (item_at items) p v x q w
item_at-set items x p v place at within q w =
    elim (eqb_tells p q) [
      | inr procs ↦ rw procs.0 (other_place items x place (page_place q w) (λ at'. procs.1 (places_are_apart p v q w place at at').0))
      | inl procs ↦ elim (eqb_tells v w) [
        | inr pages ↦ rw (procs.0, pages.0) (other_place items x place (page_place q w) (λ at'. pages.1 (places_are_apart p v q w place at at').1))
        | inl pages ↦ rw (procs.0, pages.0) (same_place items x place (page_place q w) (rw (← procs.1, ← pages.1) at) within)
      ]
    ]
