-- What the bytes that were read say of the whole input.
use Rattle.std.proofs.Common.{◌≡◌, ℕ, ◌+◌, ◌-◌, ◌<◌, ◌≤◌, List, [], ◌++◌, length, Option, Some, None, Result, Ok, Err, sym, ap, subst, ◌∙◌, append-nil, length-append, arith, inl, inr}
use Rattle.std.specs.Prelude.{IfSome}
use Rattle.std.specs.Io.KnownBytes.{Consumes, IsAtEnd}
use Rattle.std.proofs.lemmas.Bool.{cases_lt}
use Rattle.std.proofs.lemmas.List.{take-append-le, take_all}
use Rattle.dump_bytes.specs.Dumped.{Dumped}
use Rattle.dump_bytes.specs.Begins.{IsTextOf, BeginsDump, IsBadAfter}
use Rattle.dump_bytes.specs.Reading.{whole_at}
use Rattle.dump_bytes.proofs.Outcomes.{IsOutcome, IsBadFrom, whole_is}
use Rattle.dump_bytes.proofs.Lengths.{dump-le}

outcome_is : (bytes : List ℕ) (r : Result Dumped ℕ) → whole_at bytes ≡ r → IsOutcome bytes r
outcome_is bytes r e = subst (λ (x : Result Dumped ℕ). IsOutcome bytes x) e (whole_is bytes)

-- what begins a dump is no longer than one
begins-le : (bytes : List ℕ) → BeginsDump bytes → length bytes ≤ 786792
begins-le bytes b =
    let same = ap (λ (t : List ℕ). length t) b.2.text in
    let le = dump-le b.0 b.2.bounds in
    omega (arith, length-append bytes b.1)

-- the whole text begins a dump
text_begins : (bytes : List ℕ) (d : Dumped) → IsTextOf bytes d → BeginsDump bytes
text_begins bytes d t = (d, [], record { bounds = t.bounds; text = append-nil bytes ∙ t.text })

-- bytes that are bad before their end are bad whatever follows
bad_longer : (bytes more : List ℕ) (n : ℕ) → n < length bytes → IsBadAfter bytes n → IsBadAfter (bytes ++ more) n
bad_longer bytes more n lt bad = record {
  within = omega (arith, length-append bytes more);
  begins = subst BeginsDump (sym (take-append-le n bytes more (omega arith))) bad.begins;
  stops = λ also begun. bad.stops lt (subst BeginsDump (take-append-le (n + 1) bytes more (omega arith)) begun);
  ends = λ e. absurd (omega (arith, length-append bytes more));
}

-- bytes that are bad at their end begin a dump
bad_begins : (bytes : List ℕ) (n : ℕ) → n ≡ length bytes → IsBadAfter bytes n → BeginsDump bytes
bad_begins bytes n e bad = subst BeginsDump (take_all n bytes (omega arith)) bad.begins

-- the bytes were read to the end of the input
pub whole_read : (told new : Option (List ℕ)) (bytes : List ℕ) (d : Dumped) (room : ℕ) → Consumes told new bytes → 786792 < room → (length bytes < room → IsAtEnd new)
    → whole_at bytes ≡ Ok d → IfSome told (λ text. IsTextOf text d × (new ≡ Some []))
whole_read None new bytes d room c long end e = tt
whole_read (Some text) None bytes d room c long end e = absurd c
whole_read (Some text) (Some rest) bytes d room c long end e =
    let is = outcome_is bytes (Ok d) e in
    let le = begins-le bytes (text_begins bytes d is) in
    let none : rest ≡ [] = end (omega arith) in
    let same : text ≡ bytes = c ∙ ap (λ (t : List ℕ). bytes ++ t) none ∙ append-nil bytes in
    (subst (λ (t : List ℕ). IsTextOf t d) (sym same) is, ap (λ (t : List ℕ). Some t) none)

pub whole_bounds : (bytes : List ℕ) (d : Dumped) → whole_at bytes ≡ Ok d → IsTextOf bytes d
whole_bounds bytes d e = outcome_is bytes (Ok d) e

-- so many of the bytes are left at the bad one
pub left-le : (bytes : List ℕ) (left : ℕ) → whole_at bytes ≡ Err left → left ≤ length bytes
left-le bytes left e = (outcome_is bytes (Err left) e).few

pub bad_inside : (told new : Option (List ℕ)) (bytes : List ℕ) (left : ℕ) → Consumes told new bytes → 0 < left → whole_at bytes ≡ Err left
    → IfSome told (λ text. IsBadAfter text (length bytes - left))
bad_inside None new bytes left c some e = tt
bad_inside (Some text) None bytes left c some e = absurd c
bad_inside (Some text) (Some rest) bytes left c some e =
    let is = outcome_is bytes (Err left) e in
    let few = is.few in
    subst (λ (t : List ℕ). IsBadAfter t (length bytes - left)) (sym c) (bad_longer bytes rest (length bytes - left) (omega arith) is.bad)

bad_ended_by : (text bytes rest : List ℕ) (left room : ℕ) → text ≡ bytes ++ rest → 786792 < room → length bytes ≤ room → (length bytes < room → rest ≡ []) → IsBadFrom bytes left
    → IsBadAfter text (length bytes - left)
bad_ended_by text bytes rest left room c long within end is =
    elim (cases_lt (length bytes) room) [
      | inl lt ↦ (let same : text ≡ bytes = c ∙ ap (λ (t : List ℕ). bytes ++ t) (end lt) ∙ append-nil bytes in
          subst (λ (t : List ℕ). IsBadAfter t (length bytes - left)) (sym same) is.bad)
      | inr ge ↦ elim (cases_lt 0 left) [
        | inl some ↦ (let few = is.few in subst (λ (t : List ℕ). IsBadAfter t (length bytes - left)) (sym c) (bad_longer bytes rest (length bytes - left) (omega arith) is.bad))
        | inr none ↦ (let le = begins-le bytes (bad_begins bytes (length bytes - left) (omega arith) is.bad) in absurd (omega arith))
      ]
    ]

pub bad_ended : (told new : Option (List ℕ)) (bytes : List ℕ) (left room : ℕ) → Consumes told new bytes → 786792 < room → length bytes ≤ room → (length bytes < room → IsAtEnd new)
    → whole_at bytes ≡ Err left → IfSome told (λ text. IsBadAfter text (length bytes - left))
bad_ended None new bytes left room c long within end e = tt
bad_ended (Some text) None bytes left room c long within end e = absurd c
bad_ended (Some text) (Some rest) bytes left room c long within end e = bad_ended_by text bytes rest left room c long within end (outcome_is bytes (Err left) e)

-- the bytes read before a failed read begin a dump
pub cut_begins : (bytes : List ℕ) → whole_at bytes ≡ Err 0 → BeginsDump bytes
cut_begins bytes e = bad_begins bytes (length bytes - 0) (omega arith) (outcome_is bytes (Err 0) e).bad

pub whole_begins : (bytes : List ℕ) (d : Dumped) → whole_at bytes ≡ Ok d → BeginsDump bytes
whole_begins bytes d e = text_begins bytes d (outcome_is bytes (Ok d) e)

pub cut_told : (told new : Option (List ℕ)) (bytes : List ℕ) → Consumes told new bytes → BeginsDump bytes
    → IfSome told (λ text. (taken : List ℕ) × BeginsDump taken × Consumes (Some text) new taken)
cut_told None new bytes c b = tt
cut_told (Some text) new bytes c b = (bytes, b, c)
