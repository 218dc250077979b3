-- The pages of a range, one after the other.
use Rattle.std.proofs.Common.{◌≡◌, ℕ, ◌+◌, ◌<◌, ◌≤◌, Bool, true, false, refl, subst, arith, nat_le, nat_lt}
use Rattle.std.proofs.lemmas.Bool.{and_from, and_parts, le-leb, leb-true, lt-ltb, ltb-true, ltb-false}
use Rattle.pager_model.specs.FlatService.{in_range}
use Rattle.pager_model.specs.Maps.{page_number}

-- each place is one of a page of the range
pub place_inside : (address pages k : ℕ) → k < pages → in_range address pages (page_number address + k) ≡ true
place_inside address pages k less =
    let least : page_number address ≤ page_number address + k = omega arith in
    let most : page_number address + k < page_number address + pages = omega (arith, less) in
    and_from (nat_le (page_number address) (page_number address + k)) (nat_lt (page_number address + k) (page_number address + pages)) (le-leb _ _ least) (lt-ltb _ _ most)

-- a page of the range is from its first page on, and below its end
pub inside_parts : (address pages v : ℕ) → in_range address pages v ≡ true → (page_number address ≤ v) × (v < page_number address + pages)
inside_parts address pages v inside =
    let parts = and_parts (nat_le (page_number address) v) (nat_lt v (page_number address + pages)) inside in
    (leb-true _ _ parts.0, ltb-true _ _ parts.1)

-- what holds so far, and of the next, holds of one more
pub one_more : (P : ℕ → Type 0) (first n : ℕ) → ((v : ℕ) → first ≤ v → v < first + n → P v) → P (first + n) → (v : ℕ) → first ≤ v → v < first + (n + 1) → P v
one_more P first n before here v least most = by (nat_lt v (first + n)) refl
  where
    by : (b : Bool) → nat_lt v (first + n) ≡ b → P v
    by true is = before v least (ltb-true _ _ is)
    by false is =
        let past = ltb-false _ _ is in
        let same : first + n ≡ v = omega (arith, past, most) in
        subst P same here
