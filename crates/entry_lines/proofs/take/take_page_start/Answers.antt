use Rattle.std.proofs.Common.{◌≡◌, arith}
use Rattle.vm_text.proofs.Digits.{hex_injective}
use Rattle.entry_lines.proofs.Behind.{first}
use Rattle.entry_lines.proofs.take.take_page_start.Goals as goal

pub returns-then-address-ne0 : goal.returns-then-address-ne0
returns-then-address-ne0 c = record {
  found = tt;
  none = λ a rest start e.
      let aligned = start.aligned in
      let small = start.small in
      let same : a.0 ≡ c.in_ok-address.address = hex_injective 8 a.0 c.in_ok-address.address (omega arith) c.in_ok-address.ensures.found.0 (first e c.in_ok-address.ensures.found.1) in
      absurd (omega arith);
}
