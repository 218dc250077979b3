-- The numbers of calls, one after another.
use Rattle.std.proofs.Common.{◌≡◌, ℕ, ◌+◌, ◌≤◌, List, [], ◌∷◌, ◌++◌, length, Result, Ok, Err, refl, sym, ap, ◌∙◌, append_assoc, arith}
use Rattle.std.proofs.lemmas.List.{length-append}
use Rattle.trace_words.specs.Judged.{◌>>=◌}
use Rattle.trace_lines.specs.declared.breach.Breach.{Breach}
use Rattle.trace_lines.specs.Breaches.{ranged}
use Rattle.trace_lines.specs.Fails.{call_numbers}

-- the words before the rest spell these numbers
pub record AreReadSoFar (words : List (List ℕ)) (calls : List ℕ) (rest : List (List ℕ)) : Type 0 where
  pub same : (call_numbers (3 + length calls) rest >>= λ more. Ok (calls ++ more)) ≡ call_numbers 3 words
  pub few : length rest + length calls ≤ 16

added : (calls : List ℕ) (n : ℕ) (r : Result (List ℕ) Breach) → ((r >>= λ (more : List ℕ). Ok (n ∷ more)) >>= λ (more : List ℕ). Ok (calls ++ more)) ≡ (r >>= λ (more : List ℕ). Ok ((calls ++ n ∷ []) ++ more))
added calls n (Ok more) = rw (append_assoc calls (n ∷ []) more) refl
added calls n (Err cause) = refl

one_number : (place : ℕ) (word : List ℕ) (more : List (List ℕ)) (n : ℕ) → Ok n ≡ ranged place 1 4294967295 word → call_numbers place (word ∷ more) ≡ (call_numbers (place + 1) more >>= λ (ns : List ℕ). Ok (n ∷ ns))
one_number place word more n e = rw (← e) refl

pub one_call : (words rest more : List (List ℕ)) (calls word : List ℕ) (n : ℕ) → AreReadSoFar words calls rest → rest ≡ word ∷ more → Ok n ≡ ranged (3 + length calls) 1 4294967295 word → AreReadSoFar words (calls ++ n ∷ []) more
one_call words rest more calls word n so_far e spelled = record {
  same =
      let place : 3 + length (calls ++ n ∷ []) ≡ 3 + length calls + 1 = rw length-append (omega arith) in
      ap (λ (p : ℕ). call_numbers p more >>= λ (ns : List ℕ). Ok ((calls ++ n ∷ []) ++ ns)) place
      ∙ sym (added calls n (call_numbers (3 + length calls + 1) more))
      ∙ ap (λ (r : Result (List ℕ) Breach). r >>= λ (ns : List ℕ). Ok (calls ++ ns)) (sym (one_number (3 + length calls) word more n spelled) ∙ ap (call_numbers (3 + length calls)) (sym e))
      ∙ so_far.same;
  few = (let few : length rest + length calls ≤ 16 = so_far.few in let longer : length rest ≡ length more + 1 = ap length e ∙ omega arith in rw length-append (omega arith));
}

pub no_number : (words rest more : List (List ℕ)) (calls word : List ℕ) (breach : Breach) → AreReadSoFar words calls rest → rest ≡ word ∷ more → Err breach ≡ ranged (3 + length calls) 1 4294967295 word → Err breach ≡ call_numbers 3 words
no_number words rest more calls word breach so_far e spelled = (rw (e, ← spelled) refl) ∙ so_far.same
