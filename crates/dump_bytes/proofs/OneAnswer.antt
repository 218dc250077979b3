-- Each input has one answer.
use Rattle.std.proofs.Common.{◌≡◌, ℕ, ◌+◌, ◌-◌, ◌<◌, ◌≤◌, List, [], ◌++◌, length, take, drop, Result, Ok, Err, inl, inr, sym, ap, ◌∙◌, append_assoc, arith}
use Rattle.std.specs.Prelude.{◌⊎◌}
use Rattle.std.proofs.lemmas.Bool.{cases_lt}
use Rattle.std.proofs.lemmas.List.{take-append-drop, take-take}
use Rattle.dump_bytes.specs.Dumped.{Dumped}
use Rattle.dump_bytes.specs.Begins.{IsTextOf, BeginsDump, IsBadAfter}
use Rattle.dump_bytes.specs.Reading.{whole_at}
use Rattle.dump_bytes.proofs.Dumps.{reads_dump}
use Rattle.dump_bytes.proofs.Outcomes.{IsOutcome, whole_is}

answer_by : (bytes : List ℕ) (r : Result Dumped ℕ) → IsOutcome bytes r → ((d : Dumped) × IsTextOf bytes d) ⊎ ((n : ℕ) × IsBadAfter bytes n)
answer_by bytes (Ok d) is = inl (d, is)
answer_by bytes (Err left) is = inr (length bytes - left, is.bad)

pub some_answer : (bytes : List ℕ) → ((d : Dumped) × IsTextOf bytes d) ⊎ ((n : ℕ) × IsBadAfter bytes n)
some_answer bytes = answer_by bytes (whole_at bytes) (whole_is bytes)

pub one_dump : (bytes : List ℕ) (d e : Dumped) → IsTextOf bytes d → IsTextOf bytes e → d ≡ e
one_dump bytes d e s t = (reads_dump.apart d e [] [] s.bounds t.bounds (ap (λ (x : List ℕ). x ++ []) (sym s.text ∙ t.text))).0

-- fewer bytes of those that begin a dump begin it too
fewer_begin : (bytes : List ℕ) (m n : ℕ) → m ≤ n → BeginsDump (take n bytes) → BeginsDump (take m bytes)
fewer_begin bytes m n le b =
    let parts : take n bytes ≡ take m bytes ++ drop m (take n bytes) =
    sym (take-append-drop m (take n bytes)) ∙ ap (λ (x : List ℕ). x ++ drop m (take n bytes)) (take-take m n bytes le) in (
      b.0,
      drop m (take n bytes) ++ b.1,
      record {
        bounds = b.2.bounds;
        text = sym (append_assoc (take m bytes) (drop m (take n bytes)) b.1) ∙ ap (λ (x : List ℕ). x ++ b.1) (sym parts) ∙ b.2.text;
      },
    )

no_earlier : (bytes : List ℕ) (m n : ℕ) → m < n → IsBadAfter bytes m → IsBadAfter bytes n → ⊥
no_earlier bytes m n lt first second =
    let within = second.within in
    first.stops (omega arith) (fewer_begin bytes (m + 1) n (omega arith) second.begins)

pub one_place : (bytes : List ℕ) (m n : ℕ) → IsBadAfter bytes m → IsBadAfter bytes n → m ≡ n
one_place bytes m n first second =
    elim (cases_lt m n) [
      | inl lt ↦ absurd (no_earlier bytes m n lt first second)
      | inr ge ↦ elim (cases_lt n m) [
        | inl lt ↦ absurd (no_earlier bytes n m lt second first)
        | inr le ↦ omega arith
      ]
    ]
