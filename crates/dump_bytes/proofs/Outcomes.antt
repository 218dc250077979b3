-- What the reading of all bytes answers: the dump whose text they are, or where they stop being one.
use Rattle.std.proofs.Common.{◌≡◌, ℕ, suc, ◌+◌, ◌-◌, ◌≤◌, List, [], ◌∷◌, ◌++◌, length, take, drop, inl, inr, Result, Ok, Err, sym, ap, subst, ◌∙◌, append_assoc, length-append, arith}
use Rattle.std.proofs.lemmas.List.{append-nil, take-append-le, take-append-drop}
use Rattle.std.proofs.lemmas.Bool.{cases_lt}
use Rattle.std.proofs.Math.Seq.{take-length}
use Rattle.dump_bytes.specs.Dumped.{Dumped}
use Rattle.dump_bytes.specs.Text.{dump_text}
use Rattle.dump_bytes.specs.Bounds.{IsDump}
use Rattle.dump_bytes.specs.Begins.{IsTextOf, BeginsDump, IsBadAfter}
use Rattle.dump_bytes.specs.Reading.{◌>>=◌, dump_at, ended, whole_at}
use Rattle.dump_bytes.proofs.Readers.{Judged, Stuck, Stops}
use Rattle.dump_bytes.proofs.Dumps.{reads_dump}

take_front : (good over : List ℕ) → take (length good) (good ++ over) ≡ good
take_front good over = let le : length good ≤ length good = omega arith in rw take-append-le (take-length good)

take_next : (good over : List ℕ) (b : ℕ) → take (length good + 1) (good ++ (b ∷ over)) ≡ good ++ (b ∷ [])
take_next good over b =
    let len : length good + 1 ≡ length (good ++ (b ∷ [])) = omega (arith, length-append good (b ∷ [])) in
    ap (λ (n : ℕ). take n (good ++ (b ∷ over))) len ∙ ap (take (length (good ++ (b ∷ [])))) (sym (append_assoc good (b ∷ []) over)) ∙ take_front (good ++ (b ∷ [])) over

-- no dump's text is the good bytes, or goes on with the next one
abbrev Halts : List ℕ → List ℕ → Type 0
Halts good [] = (d : Dumped) → IsDump d → dump_text d ≡ good → ⊥
Halts good (b ∷ over) = (d : Dumped) (v : List ℕ) → IsDump d → dump_text d ≡ good ++ (b ∷ v) → ⊥

halts : (good over : List ℕ) → Stops dump_text IsDump good over → Halts good over
halts good [] stops = λ d is e. stops d [] is (append-nil (dump_text d) ∙ e)
halts good (b ∷ over) stops = λ d v is e. stops d [] v is (append-nil (dump_text d) ∙ e)

-- bytes that are split where no dump goes on are bad after the first part
bad_at : (good over : List ℕ) (d : Dumped) (rest : List ℕ) → IsDump d → dump_text d ≡ good ++ rest → Halts good over → IsBadAfter (good ++ over) (length good)
bad_at good [] d rest is begins stops = record {
  within = omega (arith, length-append good []);
  begins = subst BeginsDump (sym (take_front good [])) (d, rest, record { bounds = is; text = sym begins });
  stops = λ lt. absurd (omega (arith, length-append good []));
  ends = λ e other t. stops other t.bounds (sym t.text ∙ append-nil good);
}
bad_at good (b ∷ over) d rest is begins stops = record {
  within = omega (arith, length-append good (b ∷ over));
  begins = subst BeginsDump (sym (take_front good (b ∷ over))) (d, rest, record { bounds = is; text = sym begins });
  stops = λ lt begun.
      let more : BeginsDump (good ++ (b ∷ [])) = subst BeginsDump (take_next good over b) begun in
      stops more.0 more.1 more.2.bounds (sym more.2.text ∙ append_assoc good (b ∷ []) more.1);
  ends = λ e. absurd (omega (arith, length-append good (b ∷ over)));
}

pub stuck_is_bad : (bytes : List ℕ) (left : ℕ) → Stuck dump_text IsDump bytes left → IsBadAfter bytes (length bytes - left)
stuck_is_bad bytes left s =
    let count : length bytes - left ≡ length s.good = (let a = ap (λ (t : List ℕ). length t) s.split in let b = s.left_is in omega (arith, length-append s.good s.over)) in
    rw (count, s.split) (bad_at s.good s.over s.value s.rest s.value_ok s.begins (halts s.good s.over s.stops))

-- a whole dump with bytes behind it
past : (bytes : List ℕ) (d : Dumped) (b : ℕ) (rest : List ℕ) → IsDump d → bytes ≡ dump_text d ++ (b ∷ rest) → IsBadAfter bytes (length bytes - suc (length rest))
past bytes d b rest is e =
    let count : length bytes - suc (length rest) ≡ length (dump_text d) = (let a = ap (λ (t : List ℕ). length t) e in omega (arith, length-append (dump_text d) (b ∷ rest))) in
    let none : Halts (dump_text d) (b ∷ rest) = λ other v also f.
    let same = reads_dump.apart other d [] (b ∷ v) also is (append-nil (dump_text other) ∙ f) in
    let after = same.1 in
    cc
    in
    rw (count, e) (bad_at (dump_text d) (b ∷ rest) d [] is (sym (append-nil (dump_text d))) none)

-- so many of the bytes are left from the place where they are bad
pub record IsBadFrom (bytes : List ℕ) (left : ℕ) : Type 0 where
  pub few : left ≤ length bytes
  pub bad : IsBadAfter bytes (length bytes - left)

abbrev pub IsOutcome : List ℕ → Result Dumped ℕ → Type 0
IsOutcome bytes (Ok d) = IsTextOf bytes d
IsOutcome bytes (Err left) = IsBadFrom bytes left

ended_is : (bytes : List ℕ) (d : Dumped) (rest : List ℕ) → IsDump d → bytes ≡ dump_text d ++ rest → IsOutcome bytes (ended d rest)
ended_is bytes d [] is e = record { bounds = is; text = e ∙ append-nil (dump_text d) }
ended_is bytes d (b ∷ rest) is e = record {
  few = (let a = ap (λ (t : List ℕ). length t) e in omega (arith, length-append (dump_text d) (b ∷ rest)));
  bad = past bytes d b rest is e;
}

judged_is : (bytes : List ℕ) (r : Result (Dumped × List ℕ) ℕ) → Judged dump_text IsDump bytes r → IsOutcome bytes (r >>= λ x. ended x.0 x.1)
judged_is bytes (Ok x) j = ended_is bytes x.0 x.1 j.0 j.1
judged_is bytes (Err left) s = record {
  few = (let a = ap (λ (t : List ℕ). length t) s.split in let b = s.left_is in omega (arith, length-append s.good s.over));
  bad = stuck_is_bad bytes left s;
}

pub whole_is : (bytes : List ℕ) → IsOutcome bytes (whole_at bytes)
whole_is bytes = judged_is bytes (dump_at bytes) (reads_dump.judged bytes)

-- bytes that are a dump's text are no bad ones, so each dump is read
pub not_both : (bytes : List ℕ) (n : ℕ) (d : Dumped) → IsTextOf bytes d → IsBadAfter bytes n → ⊥
not_both bytes n d t bad =
    elim (cases_lt n (length bytes)) [
      | inl lt ↦ bad.stops lt (d, drop (n + 1) bytes, record { bounds = t.bounds; text = take-append-drop (n + 1) bytes ∙ t.text })
      | inr ge ↦ (let le = bad.within in bad.ends (omega arith) d t)
    ]
