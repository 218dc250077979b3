-- Bytes by pairs of digits, one after another.
use Rattle.std.proofs.Common.{◌≡◌, ℕ, ◌+◌, ◌*◌, ◌≤◌, arith, drop, get_or, length-drop, List, [], ◌∷◌, ◌++◌, length, Result, Ok, Err, refl, sym, ap, ◌∙◌, append_assoc}
use Rattle.std.proofs.lemmas.List.{length-append}
use Rattle.trace_words.specs.declared.cause.Cause.{Cause}
use Rattle.trace_words.specs.Judged.{◌>>=◌}
use Rattle.trace_words.specs.Number.{hexadecimal_digit}
use Rattle.trace_words.specs.Pairs.{paired}

-- the bytes before the rest are these
pub record IsPairedSoFar (word bytes rest : List ℕ) : Type 0 where
  pub same : (paired rest >>= λ more. Ok (bytes ++ more)) ≡ paired word
  pub size : length rest + 2 * length bytes ≡ length word

-- two digits more
pub paired_more : (rest : List ℕ) (h l : ℕ) → 2 ≤ length rest → Ok h ≡ hexadecimal_digit (get_or rest 0 0) → Ok l ≡ hexadecimal_digit (get_or rest 1 0) → paired rest ≡ (paired (drop 2 rest) >>= λ bytes. Ok ((16 * h + l) ∷ bytes))
paired_more [] h l two high low = absurd (omega arith)
paired_more (a ∷ []) h l two high low = absurd (omega arith)
paired_more (a ∷ b ∷ rest) h l two high low = rw (← high, ← low) refl

added : (bytes : List ℕ) (byte : ℕ) (r : Result (List ℕ) Cause) → ((r >>= λ (more : List ℕ). Ok (byte ∷ more)) >>= λ (more : List ℕ). Ok (bytes ++ more)) ≡ (r >>= λ (more : List ℕ). Ok ((bytes ++ byte ∷ []) ++ more))
added bytes byte (Ok more) = rw (append_assoc bytes (byte ∷ []) more) refl
added bytes byte (Err cause) = refl

pub one_pair : (word bytes rest : List ℕ) (h l : ℕ) → IsPairedSoFar word bytes rest → 2 ≤ length rest → Ok h ≡ hexadecimal_digit (get_or rest 0 0) → Ok l ≡ hexadecimal_digit (get_or rest 1 0) → IsPairedSoFar word (bytes ++ (16 * h + l) ∷ []) (drop 2 rest)
one_pair word bytes rest h l so_far two high low = record {
  same = sym (added bytes (16 * h + l) (paired (drop 2 rest))) ∙ ap (λ (r : Result (List ℕ) Cause). r >>= λ (more : List ℕ). Ok (bytes ++ more)) (sym (paired_more rest h l two high low)) ∙ so_far.same;
  size = (let size : length rest + 2 * length bytes ≡ length word = so_far.size in simp (length-drop, length-append) (omega arith));
}
