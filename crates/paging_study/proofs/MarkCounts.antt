-- The marks of the places of a group, and what setting one changes.
use Rattle.std.proofs.Common.{◌≡◌, ℕ, suc, zero, ◌+◌, ◌-◌, ◌*◌, ◌/◌, ◌<◌, ◌≤◌, Bool, false, List, ◌∷◌, length, get_or, set, length-set, replicate, take, drop, drop-cons, sum, cond, ap, ◌∙◌, refl, inl, inr, arith, ltb, ◌&&◌}
use Rattle.std.proofs.lemmas.Bool.{cases_lt, cases_eq, lt-ltb}
use Rattle.std.proofs.lemmas.List.{get_or-set_same, get_or-set_other}
use Rattle.std.proofs.lemmas.Nat.{div-add-mod', mod_below, div_below}
use Rattle.paging_study.specs.Places.{one_if, flag_at, count_places}
use Rattle.paging_study.specs.Marks.{AreGroupCounts}
use Rattle.paging_study.proofs.Counts.{count_none, count_same, count_but_one, same_past}
use Rattle.std.specs.List.{count_by}
use Rattle.std.proofs.lemmas.List.Sums.{sum_by-cons}
use Rattle.paging_study.proofs.Forward.{one_if-le}
use Rattle.paging_study.proofs.Distance.{none_after}

-- so many more places have at most as many more that pass
count_more : (f : ℕ → Bool) (n m : ℕ) → n ≤ m → (count_places f n ≤ count_places f m) × (count_places f m + n ≤ count_places f n + m)
count_more f n zero within = let none : n ≡ 0 = omega arith in rw none (omega arith, omega arith)
count_more f n (suc m) within = elim (cases_lt n (suc m)) [
  | inl lt ↦
      let before = count_more f n m (omega arith) in
      let one : one_if (f (suc m)) ≤ 1 = one_if-le (f (suc m)) in
      (omega (arith, before.0), omega (arith, before.1))
  | inr le ↦ let at : n ≡ suc m = omega arith in rw at (omega arith, omega arith)
]

-- after the first place, those that are after it and pass are those that pass
pub same_after : (first j n : ℕ) (flag : ℕ → Bool) → first ≤ j → j ≤ n → count_places (λ t. ltb first t && flag t) n + count_places flag j ≡ count_places (λ t. ltb first t && flag t) j + count_places flag n
same_after first j zero flag from within = let none : j ≡ 0 = omega arith in rw none refl
same_after first j (suc n) flag from within = elim (cases_lt j (suc n)) [
  | inl lt ↦
      let before = same_after first j n flag from (omega arith) in
      let here : (ltb first (suc n) && flag (suc n)) ≡ flag (suc n) = rw (lt-ltb first (suc n) (omega arith)) refl in
      let here' : one_if (ltb first (suc n) && flag (suc n)) ≡ one_if (flag (suc n)) = ap one_if here in
      omega (arith, before, here')
  | inr le ↦ let at : j ≡ suc n = omega arith in rw at (omega arith)
]

-- more groups have more places
pub groups_le : (h g size : ℕ) → h ≤ g → h * size ≤ g * size
groups_le h g size le = grind arith

group_after : (h g size : ℕ) → h < g → h * size + size ≤ g * size
group_after h g size below =
    let le : suc h * size ≤ g * size = groups_le (suc h) g size (omega arith) in
    omega (arith, le)

-- which group a place is in
pub group_low : (i size : ℕ) → i / size * size ≤ i
group_low i size = omega (arith, div-add-mod' i size)

pub group_high : (i size : ℕ) → 0 < size → i < i / size * size + size
group_high i size some = omega (arith, div-add-mod' i size, mod_below i size some)

-- one mark set
module _ (flags : List Bool) (i : ℕ) (flag : Bool) where
  set_below : (n : ℕ) → n ≤ i → count_places (flag_at (set flags i flag)) n ≡ count_places (flag_at flags) n
  set_below n within = count_same (flag_at (set flags i flag)) (flag_at flags) n (λ j below. get_or-set_other flags i (suc j - 1) flag false (λ e. omega arith))

  pub set_above : (n : ℕ) → i < n → i < length flags → count_places (flag_at (set flags i flag)) n + one_if (get_or flags i false) ≡ count_places (flag_at flags) n + one_if flag
  set_above n past below =
      let at : suc i - 1 ≡ i = omega arith in
      let was : one_if (flag_at flags (suc i)) ≡ one_if (get_or flags i false) = ap (λ (k : ℕ). one_if (get_or flags k false)) at in
      let is : one_if (flag_at (set flags i flag) (suc i)) ≡ one_if flag = ap (λ (k : ℕ). one_if (get_or (set flags i flag) k false)) at ∙ ap one_if (get_or-set_same flags i flag false below) in
      let change = count_but_one (flag_at (set flags i flag)) (flag_at flags) n i past (λ j j_below other. get_or-set_other flags i (suc j - 1) flag false (λ e. other (omega arith))) in
      omega (arith, was, is, change)

module _ (size : ℕ) (flags : List Bool) (counts : List ℕ) (are : AreGroupCounts size flags counts) where
  -- a count is at most the places of a group, and at least 1 where a place is marked
  pub count_few : (g : ℕ) → g < length counts → get_or counts g 0 ≤ size
  count_few g below = omega (arith, are g below, (count_more (flag_at flags) (g * size) (g * size + size) (omega arith)).1)

  has_it : (g i : ℕ) → g < length counts → g * size ≤ i → i < g * size + size → one_if (get_or flags i false) ≤ get_or counts g 0
  has_it g i below low high =
      let at : suc i - 1 ≡ i = omega arith in
      let here : one_if (flag_at flags (suc i)) ≡ one_if (get_or flags i false) = ap (λ (k : ℕ). one_if (get_or flags k false)) at in
      let step : count_places (flag_at flags) (suc i) ≡ count_places (flag_at flags) i + one_if (flag_at flags (suc i)) = refl in
      omega (arith, are g below, here, step, (count_more (flag_at flags) (g * size) i low).0, (count_more (flag_at flags) (suc i) (g * size + size) (omega arith)).0)

  pub count_has : (i : ℕ) → 0 < size → i / size < length counts → one_if (get_or flags i false) ≤ get_or counts (i / size) 0
  count_has i some below = has_it (i / size) i below (group_low i size) (group_high i size some)

  set_in : (g i : ℕ) (flag : Bool) (count : ℕ) → g < length counts → g * size ≤ i → i < g * size + size → i < length flags
      → count + one_if (get_or flags i false) ≡ get_or counts g 0 + one_if flag → AreGroupCounts size (set flags i flag) (set counts g count)
  set_in g i flag count below low high i_below is h h_below = elim (cases_eq h g) [
    | inl at ↦ rw at (omega (arith, is, are g below, set_below flags i flag (g * size) low, set_above flags i flag (g * size + size) high i_below, get_or-set_same counts g count 0 below))
    | inr other ↦
        let same : get_or (set counts g count) h 0 ≡ get_or counts h 0 = get_or-set_other counts g h count 0 other in
        let was = are h (omega (arith, h_below, length-set counts g count)) in
        elim (cases_lt h g) [
          | inl lt ↦
              let before : h * size + size ≤ g * size = group_after h g size lt in
              omega (arith, same, was, set_below flags i flag (h * size) (omega (arith, before, low)), set_below flags i flag (h * size + size) (omega (arith, before, low)))
          | inr le ↦
              let past : g < h = elim (cases_lt g h) [ inl gt ↦ gt | inr ge ↦ absurd (other (omega arith)) ] in
              let after : g * size + size ≤ h * size = group_after g h size past in
              omega (arith, same, was, set_above flags i flag (h * size) (omega (arith, after, high)) i_below, set_above flags i flag (h * size + size) (omega (arith, after, high)) i_below)
        ]
  ]

  pub counts_set : (i : ℕ) (flag : Bool) (count : ℕ) → 0 < size → i / size < length counts → i < length flags
      → count + one_if (get_or flags i false) ≡ get_or counts (i / size) 0 + one_if flag → AreGroupCounts size (set flags i flag) (set counts (i / size) count)
  counts_set i flag count some below i_below is = set_in (i / size) i flag count below (group_low i size) (group_high i size some) i_below is

  -- groups side by side
  pub groups_taken : (a m : ℕ) → a + m ≤ length counts → count_places (flag_at flags) (a * size) + sum (take m (drop a counts)) ≡ count_places (flag_at flags) ((a + m) * size)
  groups_taken a zero within = let none : a + 0 ≡ a = omega arith in rw none (omega arith)
  groups_taken a (suc m) within =
      let split : drop a counts ≡ get_or counts a 0 ∷ drop (suc a) counts = drop-cons counts a 0 (omega arith) in
      let parts : sum (take (suc m) (drop a counts)) ≡ get_or counts a 0 + sum (take m (drop (suc a) counts)) = ap (λ (xs : List ℕ). sum (take (suc m) xs)) split ∙ sum_by-cons (λ (x : ℕ). x) (get_or counts a 0) (take m (drop (suc a) counts)) in
      let rest : count_places (flag_at flags) (suc a * size) + sum (take m (drop (suc a) counts)) ≡ count_places (flag_at flags) ((suc a + m) * size) = groups_taken (suc a) m (omega arith) in
      let next : count_places (flag_at flags) (suc a * size) ≡ count_places (flag_at flags) (a * size + size) = ap (λ (k : ℕ). count_places (flag_at flags) k) (omega arith) in
      let last : count_places (flag_at flags) ((suc a + m) * size) ≡ count_places (flag_at flags) ((a + suc m) * size) = ap (λ (k : ℕ). count_places (flag_at flags) (k * size)) (omega arith) in
      omega (arith, parts, rest, next, last, are a (omega arith))

  -- their sum is small
  pub groups_few : (a m : ℕ) → a + m ≤ length counts → sum (take m (drop a counts)) ≤ length counts * size
  groups_few a m within = omega (arith, groups_taken a m within, (count_more (flag_at flags) 0 ((a + m) * size) (omega arith)).1, groups_le (a + m) (length counts) size within)

-- places side by side
pub places_taken : (flags : List Bool) (a m : ℕ) → a + m ≤ length flags → count_places (flag_at flags) a + count_by (λ flag. flag) (take m (drop a flags)) ≡ count_places (flag_at flags) (a + m)
places_taken flags a zero within = let none : a + 0 ≡ a = omega arith in rw none (omega arith)
places_taken flags a (suc m) within =
    let split : drop a flags ≡ get_or flags a false ∷ drop (suc a) flags = drop-cons flags a false (omega arith) in
    let parts : count_by (λ flag. flag) (take (suc m) (drop a flags)) ≡ cond {A = ℕ} (get_or flags a false) 1 0 + count_by (λ flag. flag) (take m (drop (suc a) flags)) = ap (λ (xs : List Bool). count_by (λ flag. flag) (take (suc m) xs)) split ∙ sum_by-cons (λ (b : Bool). cond {A = ℕ} b 1 0) (get_or flags a false) (take m (drop (suc a) flags)) in
    let at : suc a - 1 ≡ a = omega arith in
    let here : one_if (flag_at flags (suc a)) ≡ cond {A = ℕ} (get_or flags a false) 1 0 = ap (λ (k : ℕ). one_if (get_or flags k false)) at in
    let rest : count_places (flag_at flags) (suc a) + count_by (λ flag. flag) (take m (drop (suc a) flags)) ≡ count_places (flag_at flags) (suc a + m) = places_taken flags (suc a) m (omega arith) in
    let step : count_places (flag_at flags) (suc a) ≡ count_places (flag_at flags) a + one_if (flag_at flags (suc a)) = refl in
    let last : count_places (flag_at flags) (suc a + m) ≡ count_places (flag_at flags) (a + suc m) = ap (λ (k : ℕ). count_places (flag_at flags) k) (omega arith) in
    omega (arith, parts, here, rest, step, last)

-- none marked
not_marked : (n k : ℕ) → get_or (replicate n false) k false ≡ false
not_marked zero k = refl
not_marked (suc n) zero = refl
not_marked (suc n) (suc k) = not_marked n k

pub same_there : (m k x : ℕ) → get_or (replicate m x) k x ≡ x
same_there zero k x = refl
same_there (suc m) zero x = refl
same_there (suc m) (suc k) x = same_there m k x

pub none_counted : (size n m : ℕ) (flags : List Bool) (counts : List ℕ) → flags ≡ replicate n false → counts ≡ replicate m 0 → AreGroupCounts size flags counts
none_counted size n m flags counts flags_are counts_are g below =
    let none : (k : ℕ) → count_places (flag_at flags) k ≡ 0 = λ k. count_none (flag_at flags) k (λ i i_below. ap (λ (xs : List Bool). get_or xs (suc i - 1) false) flags_are ∙ not_marked n (suc i - 1)) in
    let here : get_or counts g 0 ≡ 0 = ap (λ (xs : List ℕ). get_or xs g 0) counts_are ∙ same_there m g 0 in
    omega (arith, none (g * size), none (g * size + size), here)

-- the places of a group up to the first whole eight, the eights up to the first whole block, and the blocks
pub three_parts : (flags : List Bool) (eights blocks : List ℕ) (first end eight block past near more far : ℕ) → AreGroupCounts 8 flags eights → AreGroupCounts 128 flags blocks
    → first ≤ eight * 8 → eight ≤ block * 16 → block ≤ past → eight * 8 ≤ length flags → block * 16 ≤ length eights → past ≤ length blocks → first ≤ end → end ≤ past * 128
    → ((n : ℕ) → end ≤ n → flag_at flags (suc n) ≡ false)
    → near ≡ count_by (λ flag. flag) (take (eight * 8 - first) (drop first flags)) → more ≡ sum (take (block * 16 - eight) (drop eight eights)) → far ≡ sum (take (past - block) (drop block blocks))
    → near + more + far ≡ count_places (λ t. ltb first t && flag_at flags t) end
three_parts flags eights blocks first end eight block past near more far are are' le le' le'' within within' within'' order to none near_is more_is far_is =
    let F : ℕ → ℕ = λ k. count_places (flag_at flags) k in
    let one : F first + near ≡ F (eight * 8) =
    ap (λ (k : ℕ). F first + k) near_is ∙ (places_taken flags first (eight * 8 - first) (omega arith) ∙ ap F (omega arith)) in
    let two : F (eight * 8) + more ≡ F (block * 128) =
    ap (λ (k : ℕ). F (eight * 8) + k) more_is ∙ (groups_taken 8 flags eights are eight (block * 16 - eight) (omega arith) ∙ ap F (omega arith)) in
    let three : F (block * 128) + far ≡ F (past * 128) =
    ap (λ (k : ℕ). F (block * 128) + k) far_is ∙ (groups_taken 128 flags blocks are' block (past - block) (omega arith) ∙ ap F (omega arith)) in
    let rest : F (past * 128) ≡ F end = ap F (omega arith) ∙ same_past (flag_at flags) end (past * 128 - end) none in
    let after : count_places (λ t. ltb first t && flag_at flags t) end + F first ≡ count_places (λ t. ltb first t && flag_at flags t) first + F end = same_after first first end (flag_at flags) (omega arith) order in
    let before : count_places (λ t. ltb first t && flag_at flags t) first ≡ 0 = none_after first first (flag_at flags) (omega arith) in
    omega (arith, one, two, three, rest, after, before)

-- where the eights begin, where the blocks begin, and where they end
pub record Edges (first end n eight block past : ℕ) : Type 0 where
  pub near : first ≤ eight * 8
  pub more : eight ≤ block * 16
  pub far : block ≤ past
  pub last : past ≤ n
  pub whole : end ≤ past * 128

pub edges : (first end n : ℕ) → first ≤ end → end < n * 128 → Edges first end n ((first + 7) / 8) (((first + 7) / 8 + 15) / 16) (end / 128 + 1)
edges first end n order within =
    let eight = div-add-mod' (first + 7) 8 in
    let eight' = mod_below (first + 7) 8 (omega arith) in
    let block = div-add-mod' ((first + 7) / 8 + 15) 16 in
    let block' = mod_below ((first + 7) / 8 + 15) 16 (omega arith) in
    let past = div-add-mod' end 128 in
    let past' = mod_below end 128 (omega arith) in
    let below : end / 128 < n = div_below end 128 n (omega arith) within in
    record {
      near = omega (arith, eight, eight');
      more = omega (arith, block, block');
      far = omega (arith, eight, block, past, past', order);
      last = omega (arith, below);
      whole = omega (arith, past, past');
    }

-- the counts between two groups, as the code reads them
pub between_few : (size : ℕ) (flags : List Bool) (counts xs : List ℕ) (a b : ℕ) → AreGroupCounts size flags counts → xs ≡ counts → a ≤ b → b ≤ length counts → length counts * size < 4294967296
    → sum (take (b - a) (drop a xs)) < 4294967296
between_few size flags counts xs a b are same le within few =
    let is : sum (take (b - a) (drop a xs)) ≡ sum (take (b - a) (drop a counts)) = ap (λ (ys : List ℕ). sum (take (b - a) (drop a ys))) same in
    omega (arith, is, groups_few size flags counts are a (b - a) (omega arith), few)
