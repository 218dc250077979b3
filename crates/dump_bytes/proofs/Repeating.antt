-- A list is read value by value: what was read so far, and the reading of what is left of it.
use Rattle.std.proofs.Common.{◌≡◌, ℕ, zero, suc, ◌+◌, ◌-◌, ◌<◌, ◌≤◌, List, [], ◌∷◌, ◌++◌, length, Result, Ok, Err, refl, sym, ap, ◌∙◌, append_assoc, length-append, arith}
use Rattle.dump_bytes.specs.Reading.{◌>>=◌, Reader, exactly_at, items_at, rising_at, letters_at}

-- what was read before is put in front of what comes
abbrev pub put_after : {A : Type 0} → List A → Result (List A × List ℕ) ℕ → Result (List A × List ℕ) ℕ
put_after done (Ok y) = Ok (done ++ y.0, y.1)
put_after done (Err left) = Err left

module _ {A : Type 0} where
  after_none : (r : Result (List A × List ℕ) ℕ) → r ≡ put_after [] r
  after_none (Ok y) = refl
  after_none (Err left) = refl

  -- one more value, and the others after it
  abbrev with_first : A → Result (List A × List ℕ) ℕ → Result (List A × List ℕ) ℕ
  with_first x r =
      ◌>>=◌ {A = (A × List A) × List ℕ} {B = List A × List ℕ} (◌>>=◌ {A = List A × List ℕ} {B = (A × List A) × List ℕ} r (λ y. Ok ((x, y.0), y.1)))
      (λ p. Ok (p.0.0 ∷ p.0.1, p.1))

  abbrev with_others : (A → Reader (List A)) → Result (A × List ℕ) ℕ → Result (List A × List ℕ) ℕ
  with_others others r =
      ◌>>=◌ {A = (A × List A) × List ℕ} {B = List A × List ℕ}
      (◌>>=◌ {A = A × List ℕ} {B = (A × List A) × List ℕ} r (λ x. ◌>>=◌ {A = List A × List ℕ} {B = (A × List A) × List ℕ} (others x.0 x.1) (λ y. Ok ((x.0, y.0), y.1))))
      (λ p. Ok (p.0.0 ∷ p.0.1, p.1))

  after_one : (done : List A) (x : A) (r : Result (List A × List ℕ) ℕ) → put_after done (with_first x r) ≡ put_after (done ++ (x ∷ [])) r
  after_one done x (Ok y) = let all : List A → Result (List A × List ℕ) ℕ = λ xs. Ok (xs, y.1) in ap all (sym (append_assoc done (x ∷ []) y.0))
  after_one done x (Err left) = refl

  -- so many values of a list were read
  pub record IsAlong (read : Reader A) (count : ℕ) (bytes : List ℕ) (done : List A) (rest : List ℕ) : Type 0 where
    pub more : ℕ
    pub total : length done + more ≡ count
    pub same : items_at count read bytes ≡ put_after done (items_at more read rest)

  pub along_none : (read : Reader A) (count : ℕ) (bytes : List ℕ) → IsAlong read count bytes [] bytes
  along_none read count bytes = record { more = count; total = omega arith; same = after_none (items_at count read bytes) }

  along_one_by : (read : Reader A) (count : ℕ) (bytes : List ℕ) (done : List A) (rest : List ℕ) (x : A) (left : List ℕ) (more : ℕ)
      → read rest ≡ Ok (x, left) → length done < count → length done + more ≡ count
      → items_at count read bytes ≡ put_after done (items_at more read rest) → IsAlong read count bytes (done ++ (x ∷ [])) left
  along_one_by read count bytes done rest x left zero was lt total same = absurd (omega arith)
  along_one_by read count bytes done rest x left (suc more) was lt total same = record {
    more = more;
    total = omega (arith, length-append done (x ∷ []));
    same = same
        ∙ ap (λ (r : Result (A × List ℕ) ℕ). put_after done (with_others (λ p. items_at more read) r)) was
        ∙ after_one done x (items_at more read left);
  }

  pub along_one : {read : Reader A} {count : ℕ} {bytes rest : List ℕ} {done : List A} (x : A) (left : List ℕ)
      → IsAlong read count bytes done rest → read rest ≡ Ok (x, left) → length done < count → IsAlong read count bytes (done ++ (x ∷ [])) left
  along_one {read} {count} {bytes} {rest} {done} x left i was lt = along_one_by read count bytes done rest x left i.more was lt i.total i.same

  along_stop_by : (read : Reader A) (count : ℕ) (bytes : List ℕ) (done : List A) (rest : List ℕ) (left more : ℕ)
      → read rest ≡ Err left → length done < count → length done + more ≡ count
      → items_at count read bytes ≡ put_after done (items_at more read rest) → items_at count read bytes ≡ Err left
  along_stop_by read count bytes done rest left zero was lt total same = absurd (omega arith)
  along_stop_by read count bytes done rest left (suc more) was lt total same = same
      ∙ ap (λ (r : Result (A × List ℕ) ℕ). put_after done (with_others (λ p. items_at more read) r)) was

  pub along_stop : {read : Reader A} {count : ℕ} {bytes rest : List ℕ} {done : List A} (left : ℕ)
      → IsAlong read count bytes done rest → read rest ≡ Err left → length done < count → items_at count read bytes ≡ Err left
  along_stop {read} {count} {bytes} {rest} {done} left i was lt = along_stop_by read count bytes done rest left i.more was lt i.total i.same

  -- so many values with ascending numbers were read, and the next is from the floor on
  pub record IsRising (key : A → ℕ) (ceiling : ℕ) (read : ℕ → ℕ → Reader A) (count : ℕ) (bytes : List ℕ) (done : List A) (floor : ℕ) (rest : List ℕ) : Type 0 where
    pub more : ℕ
    pub total : length done + more ≡ count
    pub fits : floor + more ≤ ceiling
    pub same : rising_at key count 0 ceiling read bytes ≡ put_after done (rising_at key more floor ceiling read rest)

  pub rising_none : (key : A → ℕ) (ceiling : ℕ) (read : ℕ → ℕ → Reader A) (count : ℕ) (bytes : List ℕ) → count ≤ ceiling → IsRising key ceiling read count bytes [] 0 bytes
  rising_none key ceiling read count bytes le =
      record { more = count; total = omega arith; fits = omega arith; same = after_none (rising_at key count 0 ceiling read bytes) }

  rising_one_by : (key : A → ℕ) (ceiling : ℕ) (read : ℕ → ℕ → Reader A) (count : ℕ) (bytes : List ℕ) (done : List A) (floor : ℕ) (rest : List ℕ) (x : A) (left : List ℕ) (high more : ℕ)
      → read floor high rest ≡ Ok (x, left) → high + count ≡ ceiling + length done + 1 → key x < high → length done < count → length done + more ≡ count
      → floor + more ≤ ceiling → rising_at key count 0 ceiling read bytes ≡ put_after done (rising_at key more floor ceiling read rest)
      → IsRising key ceiling read count bytes (done ++ (x ∷ [])) (key x + 1) left
  rising_one_by key ceiling read count bytes done floor rest x left high zero was top below lt total fits same = absurd (omega arith)
  rising_one_by key ceiling read count bytes done floor rest x left high (suc more) was top below lt total fits same =
      let top_is : high ≡ ceiling - more = omega arith in
      record {
        more = more;
        total = omega (arith, length-append done (x ∷ []));
        fits = omega arith;
        same = same
            ∙ ap (λ (r : Result (A × List ℕ) ℕ). put_after done (with_others (λ p. rising_at key more (key p + 1) ceiling read) r))
            (ap (λ (h : ℕ). read floor h rest) (sym top_is) ∙ was)
            ∙ after_one done x (rising_at key more (key x + 1) ceiling read left);
      }

  pub rising_one : {key : A → ℕ} {ceiling : ℕ} {read : ℕ → ℕ → Reader A} {count : ℕ} {bytes rest : List ℕ} {done : List A} {floor : ℕ} (x : A) (left : List ℕ) (high : ℕ)
      → IsRising key ceiling read count bytes done floor rest → read floor high rest ≡ Ok (x, left) → high + count ≡ ceiling + length done + 1 → key x < high → length done < count
      → IsRising key ceiling read count bytes (done ++ (x ∷ [])) (key x + 1) left
  rising_one {key} {ceiling} {read} {count} {bytes} {rest} {done} {floor} x left high i was top below lt =
      rising_one_by key ceiling read count bytes done floor rest x left high i.more was top below lt i.total i.fits i.same

  rising_stop_by : (key : A → ℕ) (ceiling : ℕ) (read : ℕ → ℕ → Reader A) (count : ℕ) (bytes : List ℕ) (done : List A) (floor : ℕ) (rest : List ℕ) (left high more : ℕ)
      → read floor high rest ≡ Err left → high + count ≡ ceiling + length done + 1 → length done < count → length done + more ≡ count
      → floor + more ≤ ceiling → rising_at key count 0 ceiling read bytes ≡ put_after done (rising_at key more floor ceiling read rest)
      → rising_at key count 0 ceiling read bytes ≡ Err left
  rising_stop_by key ceiling read count bytes done floor rest left high zero was top lt total fits same = absurd (omega arith)
  rising_stop_by key ceiling read count bytes done floor rest left high (suc more) was top lt total fits same =
      let top_is : high ≡ ceiling - more = omega arith in
      same
      ∙ ap (λ (r : Result (A × List ℕ) ℕ). put_after done (with_others (λ p. rising_at key more (key p + 1) ceiling read) r))
      (ap (λ (h : ℕ). read floor h rest) (sym top_is) ∙ was)

  pub rising_stop : {key : A → ℕ} {ceiling : ℕ} {read : ℕ → ℕ → Reader A} {count : ℕ} {bytes rest : List ℕ} {done : List A} {floor : ℕ} (left high : ℕ)
      → IsRising key ceiling read count bytes done floor rest → read floor high rest ≡ Err left → high + count ≡ ceiling + length done + 1 → length done < count
      → rising_at key count 0 ceiling read bytes ≡ Err left
  rising_stop {key} {ceiling} {read} {count} {bytes} {rest} {done} {floor} left high i was top lt =
      rising_stop_by key ceiling read count bytes done floor rest left high i.more was top lt i.total i.fits i.same

-- the first of the letters were read
pub record IsSpelled (letters bytes done others rest : List ℕ) : Type 0 where
  pub split : letters ≡ done ++ others
  pub same : letters_at letters bytes ≡ put_after done (letters_at others rest)

pub spelled_one : {letters bytes done rest : List ℕ} (c : ℕ) (others left : List ℕ) → IsSpelled letters bytes done (c ∷ others) rest → exactly_at c rest ≡ Ok (c, left)
    → IsSpelled letters bytes (done ++ (c ∷ [])) others left
spelled_one {letters} {bytes} {done} {rest} c others left i was = record {
  split = i.split ∙ sym (append_assoc done (c ∷ []) others);
  same = i.same
      ∙ ap (λ (r : Result (ℕ × List ℕ) ℕ). put_after done (with_others (λ p. letters_at others) r)) was
      ∙ after_one done c (letters_at others left);
}

pub spelled_stop : {letters bytes done rest : List ℕ} (c : ℕ) (others : List ℕ) (left : ℕ) → IsSpelled letters bytes done (c ∷ others) rest → exactly_at c rest ≡ Err left
    → letters_at letters bytes ≡ Err left
spelled_stop {letters} {bytes} {done} {rest} c others left i was = i.same
    ∙ ap (λ (r : Result (ℕ × List ℕ) ℕ). put_after done (with_others (λ p. letters_at others) r)) was
