-- A range begins with the first address of a page.
use Rattle.std.proofs.Common.{ℕ, inl, inr, arith}
use Rattle.vm_types.specs.WellFormed.{IsRange}
use Rattle.vm_text.specs.Named.{IsPageStart}

pub range_start : (address pages : ℕ) → IsRange address pages → IsPageStart address
range_start address pages range = record {
  aligned = range.aligned;
  small = elim range.inside [ inl low ↦ omega arith | inr high ↦ omega (arith, high.1) ];
}
