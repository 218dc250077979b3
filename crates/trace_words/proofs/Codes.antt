-- A protection code is read from its name, and from no other word.
use Rattle.std.proofs.Common.{◌≡◌, ℕ, zero, suc, ◌<◌, Bool, true, false, ltb, cond, List, [], length, Option, Some, None, Ok, refl, sym, ap, ◌∙◌, arith}
use Rattle.std.specs.Prelude.{IfOk, IfSome}
use Rattle.std.specs.List.{position}
use Rattle.std.specs.Option.{ok_or}
use Rattle.std.proofs.lemmas.Bool.{ltb-true}
use Rattle.std.proofs.lemmas.List.Quantifiers.{position-Some}
use Rattle.std.proofs.lemmas.Slice.Eq.{bytes_eq-Decides}
use Rattle.vm_types.specs.WellFormed.{IsCode}
use Rattle.vm_text.specs.Readings.{Reads}
use Rattle.vm_text.specs.Services.{protection_name, protection_names}
use Rattle.trace_words.specs.declared.cause.Cause.TheVariants.{UnknownWord}
use Rattle.trace_words.specs.Protection.{code_named, protection}
use Rattle.trace_words.specs.Words.{is}

code_read : (code : ℕ) → IsCode code → code_named (protection_name code) ≡ Some code
code_read zero h = refl
code_read (suc zero) h = absurd (h.named refl)
code_read (suc (suc zero)) h = refl
code_read (suc (suc (suc zero))) h = refl
code_read (suc (suc (suc (suc zero)))) h = refl
code_read (suc (suc (suc (suc (suc zero))))) h = refl
code_read (suc (suc (suc (suc (suc (suc zero)))))) h = refl
code_read (suc (suc (suc (suc (suc (suc (suc zero))))))) h = refl
code_read (suc (suc (suc (suc (suc (suc (suc (suc zero)))))))) h = refl
code_read (suc (suc (suc (suc (suc (suc (suc (suc (suc zero))))))))) h = refl
code_read (suc (suc (suc (suc (suc (suc (suc (suc (suc (suc zero)))))))))) h = refl
code_read (suc (suc (suc (suc (suc (suc (suc (suc (suc (suc (suc zero))))))))))) h = refl
code_read (suc (suc (suc (suc (suc (suc (suc (suc (suc (suc (suc (suc zero)))))))))))) h = refl
code_read (suc (suc (suc (suc (suc (suc (suc (suc (suc (suc (suc (suc (suc zero))))))))))))) h = refl
code_read (suc (suc (suc (suc (suc (suc (suc (suc (suc (suc (suc (suc (suc (suc zero)))))))))))))) h = refl
code_read (suc (suc (suc (suc (suc (suc (suc (suc (suc (suc (suc (suc (suc (suc (suc zero))))))))))))))) h = refl
code_read (suc (suc (suc (suc (suc (suc (suc (suc (suc (suc (suc (suc (suc (suc (suc (suc c)))))))))))))))) h = absurd (omega (arith, h.small))

abbrev pub IsNamed : List ℕ → ℕ → Type 0
IsNamed word code = IsCode code × (protection_name code ≡ word)

code_given : (word : List ℕ) → IfSome (code_named word) (IsNamed word)
code_given word = by_length (ltb 0 (length word)) refl where
  by_code : 0 < length word → (o : Option ℕ) → position (λ name. is word name) protection_names ≡ o → IfSome o (IsNamed word)
  by_code some None e = tt
  by_code some (Some code) e =
      let at = position-Some (λ name. is word name) protection_names code [] e in
      let same : word ≡ protection_name code = (bytes_eq-Decides word (protection_name code)).0 at.1 in
      (record { small = at.0; named = λ one. omega (arith, some, ap (length {A = ℕ}) (same ∙ ap protection_name one)) }, sym same)

  by_length : (t : Bool) → ltb 0 (length word) ≡ t → IfSome (cond t (position (λ name. is word name) protection_names) None) (IsNamed word)
  by_length false e = tt
  by_length true e = by_code (ltb-true 0 (length word) e) (position (λ name. is word name) protection_names) refl

-- what any reader of protection codes gives
pub only_code : (word : List ℕ) (o : Option ℕ) → Reads IsCode protection_name word o → o ≡ code_named word
only_code word (Some code) h = sym (code_read code h.found.0) ∙ ap code_named h.found.1
only_code word None h = by_code (code_named word) (code_given word) where
  by_code : (o : Option ℕ) → IfSome o (IsNamed word) → None ≡ o
  by_code None g = refl
  by_code (Some code) g = absurd (h.none code g.0 g.1)

pub protection_read : (code : ℕ) → IsCode code → protection (protection_name code) ≡ Ok code
protection_read code h = ap (λ (o : Option ℕ). ok_or o UnknownWord) (code_read code h)

pub protection_named : (word : List ℕ) → IfOk (protection word) (IsNamed word)
protection_named word = by_code (code_named word) (code_given word) where
  by_code : (o : Option ℕ) → IfSome o (IsNamed word) → IfOk (ok_or o UnknownWord) (IsNamed word)
  by_code None g = tt
  by_code (Some code) g = g
