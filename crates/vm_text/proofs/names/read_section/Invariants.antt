use Rattle.std.proofs.Common.{◌≡◌, ◌≢◌, ℕ, ◌<◌, ◌^◌}
use Rattle.vm_text.specs.Names.{section_name}
use Rattle.vm_text.proofs.names.read_section.Given as goal

abbrev pub invariant-loop-section : goal.invariant-loop-section
invariant-loop-section l = record {
  number : l.number ≡ l.section-index;
  small : l.number < 2 ^ 32;
  others : (k : ℕ) → k < l.section-index → section_name l.names k ≢ l.word;
}
