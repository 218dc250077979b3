-- Readers of lists: so many values, and so many with ascending numbers.
use Rattle.std.proofs.Common.{◌≡◌, ℕ, zero, suc, ◌+◌, ◌-◌, ◌<◌, ◌≤◌, List, [], ◌∷◌, ◌++◌, length, Ok, refl, sym, ap, ◌∙◌, arith}
use Rattle.std.specs.List.{flat_map, AllByRecursion}
use Rattle.dump_bytes.specs.Reading.{Reader, items_at, rising_at}
use Rattle.dump_bytes.proofs.Readers.{Reads, reads_both, reads_made}

module _ {A : Type 0} where
  -- the empty list takes no bytes
  reads_empty : (text : A → List ℕ) (ok : List A → Type 0) → ok [] → ((xs : List A) → ok xs → xs ≡ []) → Reads (λ bytes. Ok ([], bytes)) (flat_map text) ok
  reads_empty text ok is_ok only = record {
    judged = λ bytes. (is_ok, refl);
    some = ([], is_ok);
    apart = λ a b u v oka okb e.
        let one = only a oka in
        let two = only b okb in
        let same : flat_map text [] ++ u ≡ flat_map text [] ++ v = ap (λ (xs : List A). flat_map text xs ++ u) (sym one) ∙ e ∙ ap (λ (xs : List A). flat_map text xs ++ v) two in
        (one ∙ sym two, same);
  }

  -- a list of so many values within bounds
  pub record AreItems (ok : A → Type 0) (count : ℕ) (xs : List A) : Type 0 where
    pub count_is : length xs ≡ count
    pub each : AllByRecursion ok xs

  no_items : {ok : A → Type 0} (xs : List A) → AreItems ok 0 xs → xs ≡ []
  no_items [] is_ok = refl
  no_items (x ∷ xs) is_ok = let e = is_ok.count_is in absurd (omega arith)

  one_more : {ok : A → Type 0} {count : ℕ} (xs : List A) → AreItems ok (suc count) xs → (p : A × List A) × (ok p.0 × AreItems ok count p.1) × ((p.0 ∷ p.1) ≡ xs)
  one_more [] is_ok = let e = is_ok.count_is in absurd (omega arith)
  one_more (x ∷ xs) is_ok = ((x, xs), (is_ok.each.0, record { count_is = (let e = is_ok.count_is in omega arith); each = is_ok.each.1 }), refl)

  pub reads_items : (count : ℕ) (read : Reader A) (text : A → List ℕ) (ok : A → Type 0) → Reads read text ok → Reads (items_at count read) (flat_map text) (AreItems ok count)
  reads_items zero read text ok reads = reads_empty text (AreItems ok 0) (record { count_is = refl; each = tt }) no_items
  reads_items (suc count) read text ok reads =
      reads_made (λ p. p.0 ∷ p.1) _ _ (flat_map text) (AreItems ok (suc count)) (λ p is_ok. refl)
      (λ p is_ok. record { count_is = ap suc is_ok.1.count_is; each = (is_ok.0, is_ok.1.each) }) one_more
      _ (reads_both text ok (λ x. flat_map text) (λ x. AreItems ok count) read (λ x. items_at count read) reads (λ x is_ok. reads_items count read text ok reads))

  -- a list of so many values with ascending numbers, from floor on and below the ceiling
  abbrev pub Rises : (A → ℕ) → (A → Type 0) → ℕ → ℕ → List A → Type 0
  Rises key ok floor ceiling [] = Unit {0}
  Rises key ok floor ceiling (x ∷ xs) = ok x × (floor ≤ key x) × (key x < ceiling) × Rises key ok (key x + 1) ceiling xs

  pub record AreRising (key : A → ℕ) (ok : A → Type 0) (count floor ceiling : ℕ) (xs : List A) : Type 0 where
    pub count_is : length xs ≡ count
    pub rises : Rises key ok floor ceiling xs

  pub record IsBetween (key : A → ℕ) (ok : A → Type 0) (low high : ℕ) (x : A) : Type 0 where
    pub is_ok : ok x
    pub from : low ≤ key x
    pub below : key x < high

  no_rising : {key : A → ℕ} {ok : A → Type 0} {floor ceiling : ℕ} (xs : List A) → AreRising key ok 0 floor ceiling xs → xs ≡ []
  no_rising [] is_ok = refl
  no_rising (x ∷ xs) is_ok = let e = is_ok.count_is in absurd (omega arith)

  -- what rises leaves room for as many numbers as there are
  room : (key : A → ℕ) (ok : A → Type 0) (floor ceiling : ℕ) (xs : List A) → floor ≤ ceiling → Rises key ok floor ceiling xs → floor + length xs ≤ ceiling
  room key ok floor ceiling [] le r = omega arith
  room key ok floor ceiling (x ∷ xs) le r = let more = room key ok (key x + 1) ceiling xs (omega arith) r.3 in omega arith

  one_more_rising : (key : A → ℕ) (ok : A → Type 0) (count floor ceiling : ℕ) (xs : List A) → AreRising key ok (suc count) floor ceiling xs
      → (p : A × List A) × (IsBetween key ok floor (ceiling - count) p.0 × AreRising key ok count (key p.0 + 1) ceiling p.1) × ((p.0 ∷ p.1) ≡ xs)
  one_more_rising key ok count floor ceiling [] is_ok = let e = is_ok.count_is in absurd (omega arith)
  one_more_rising key ok count floor ceiling (x ∷ xs) is_ok =
      let e = is_ok.count_is in
      let few : length xs ≡ count = omega arith in
      let r = is_ok.rises in
      let after = room key ok (key x + 1) ceiling xs (omega arith) r.3 in
      ((x, xs), (record { is_ok = r.0; from = r.1; below = omega arith }, record { count_is = few; rises = r.3 }), refl)

  pub reads_rising : (key : A → ℕ) (count floor ceiling : ℕ) (read : ℕ → ℕ → Reader A) (text : A → List ℕ) (ok : A → Type 0)
      → ((low high : ℕ) → low < high → high ≤ ceiling → Reads (read low high) text (IsBetween key ok low high)) → floor + count ≤ ceiling
      → Reads (rising_at key count floor ceiling read) (flat_map text) (AreRising key ok count floor ceiling)
  reads_rising key zero floor ceiling read text ok reads fits =
      reads_empty text (AreRising key ok 0 floor ceiling) (record { count_is = refl; rises = tt }) no_rising
  reads_rising key (suc count) floor ceiling read text ok reads fits =
      reads_made (λ p. p.0 ∷ p.1) _ _ (flat_map text) (AreRising key ok (suc count) floor ceiling) (λ p is_ok. refl)
      (λ p is_ok. record { count_is = ap suc is_ok.1.count_is; rises = (is_ok.0.is_ok, is_ok.0.from, (let b = is_ok.0.below in omega arith), is_ok.1.rises) })
      (one_more_rising key ok count floor ceiling)
      _ (reads_both text (IsBetween key ok floor (ceiling - count)) (λ x. flat_map text) (λ x. AreRising key ok count (key x + 1) ceiling)
      (read floor (ceiling - count)) (λ x. rising_at key count (key x + 1) ceiling read)
      (reads floor (ceiling - count) (omega arith) (omega arith))
      (λ x is_ok. let b = is_ok.below in reads_rising key count (key x + 1) ceiling read text ok reads (omega arith)))
