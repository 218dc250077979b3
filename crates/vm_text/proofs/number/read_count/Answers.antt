use Rattle.std.proofs.Common.{◌≡◌, ◌∙◌, sym, arith}
use Rattle.std.proofs.lemmas.Fmt.{decimal_injective}
use Rattle.vm_text.proofs.number.read_count.Goals as goal

pub returns-then-number-gt4294967295 : goal.returns-then-number-gt4294967295
returns-then-number-gt4294967295 c = record {
  found = tt;
  none = λ n small is.
      let same : n ≡ c.in_ok-number.number = decimal_injective n c.in_ok-number.number (omega arith) c.in_ok-number.ensures.found.0 (is ∙ sym c.in_ok-number.ensures.found.1) in
      absurd (omega arith);
}
