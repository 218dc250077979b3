use Rattle.std.proofs.Common.{◌∙◌}
use Rattle.vm_types.specs.declared.config.SectionKind.TheVariants as kind
use Rattle.state_tests.proofs.of_frame_store.section.Goals as goal

pub returns : goal.returns
returns c =
    let name = c.of.ensures ∙ c.in_ok-from_slice.ensures.items in
    let bytes = c.of-2.ensures ∙ c.in_ok-zeros.ensures in
    λ i. record { name = name i; kind = kind.Shared; bytes = bytes i }
