use Rattle.std.proofs.Common.{◌≡◌, ◌+◌, ◌∙◌, ◌++◌, ◌∷◌, [], List, ℕ, length, get_or, take, refl, sym, ap, arith}
use Rattle.std.proofs.lemmas.List.{take_more}
use Rattle.vm_text.specs.Hex.{hex, hex_digit}
use Rattle.vm_text.proofs.Digits.{hex_at, hex_more, more_small, within_8}
use Rattle.vm_text.proofs.HexLemmas.{length-hex}
use Rattle.vm_text.proofs.number.read_hex.Goals as goal

pub returns-then-word-places : goal.returns-then-word-places
returns-then-word-places c = record {
  found = tt;
  none = λ v small is. absurd (omega (arith, ap (length {A = ℕ}) is, length-hex c.args.places v));
}

pub loop-byte-init : goal.loop-byte-init
unfolding hex
loop-byte-init c = record { digits = refl; small = omega arith }

pub returns-in_default : goal.returns-in_default
returns-in_default c = record {
  found = tt;
  none = λ v small is.
      let digit = hex_at c.args.places v c.loop-byte.byte-index (omega arith) in
      c.in_default.ensures digit.0 digit.1 (digit.2 ∙ ap (λ (s : List ℕ). get_or s c.loop-byte.byte-index 0) is);
}

pub overflow_mul-value : goal.overflow_mul-value
overflow_mul-value c = omega (arith, more_small c.loop-byte.byte-index c.loop-byte.value 0 c.loop-byte.invariant.small (omega arith), within_8 (c.loop-byte.byte-index + 1) (omega arith))

pub overflow_add-value : goal.overflow_add-value
overflow_add-value c = omega (arith, c.in-Some.ensures.0, more_small c.loop-byte.byte-index c.loop-byte.value c.in-Some.digit c.loop-byte.invariant.small c.in-Some.ensures.0, within_8 (c.loop-byte.byte-index + 1) (omega arith))

pub loop-byte-preserved : goal.loop-byte-preserved
loop-byte-preserved c =
    let text : take (c.loop-byte.byte-index + 1) c.args.word.now ≡ take c.loop-byte.byte-index c.args.word.now ++ get_or c.args.word.now c.loop-byte.byte-index 0 ∷ [] =
    take_more c.args.word.now c.loop-byte.byte-index 0 (omega arith) in
    rw c.from.ensures (record {
      digits = hex_more c.loop-byte.byte-index c.loop-byte.value c.in-Some.digit c.in-Some.ensures.0
          ∙ (ap (λ (front : List ℕ). front ++ hex_digit c.in-Some.digit ∷ []) c.loop-byte.invariant.digits
          ∙ (ap (λ (byte : ℕ). take c.loop-byte.byte-index c.args.word.now ++ byte ∷ []) c.in-Some.ensures.1 ∙ sym text));
      small = more_small c.loop-byte.byte-index c.loop-byte.value c.in-Some.digit c.loop-byte.invariant.small c.in-Some.ensures.0;
    })
