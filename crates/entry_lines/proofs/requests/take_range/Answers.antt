use Rattle.std.proofs.Common.{◌≡◌, subst, arith}
use Rattle.std.proofs.lemmas.Bool.{false≢true}
use Rattle.std.proofs.lemmas.Fmt.{decimal_injective}
use Rattle.vm_types.specs.WellFormed.{IsRange}
use Rattle.vm_text.proofs.Digits.{hex_injective}
use Rattle.vm_text.proofs.Ranges.{range_start}
use Rattle.entry_lines.proofs.Behind.{behind, first}
use Rattle.entry_lines.proofs.requests.take_range.Goals as goal

pub returns-then-not-is_range : goal.returns-then-not-is_range
returns-then-not-is_range c = record {
  found = tt;
  none = λ x rest has e.
      let start = range_start x.0.0 x.1 has in
      let small = start.small in
      let few = has.few in
      let other = c.in_ok-at.ensures.found.0.small in
      let at : x.0.0 ≡ c.in_ok-at.at.0 = hex_injective 8 x.0.0 c.in_ok-at.at.0 (omega arith) (omega arith) (first e c.in_ok-at.ensures.found.1) in
      let pages : x.1 ≡ c.in_ok-pages.pages =
      decimal_injective x.1 c.in_ok-pages.pages (omega arith) (omega (arith, c.in_ok-pages.ensures.found.0)) (first (behind e c.in_ok-at.ensures.found.1) c.in_ok-pages.ensures.found.1) in
      false≢true (c.if-not-is_range.ensures.1 (subst (λ a. IsRange a c.in_ok-pages.pages) at (subst (λ n. IsRange x.0.0 n) pages has)));
}
