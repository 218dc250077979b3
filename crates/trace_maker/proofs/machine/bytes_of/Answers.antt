use Rattle.std.proofs.Common.{ap, ◌∙◌, ◌+◌, ◌/◌, ◌%◌, slice_set}
use Rattle.vm_types.specs.declared.limits.TheConstants.{PAGE_BYTES}
use Rattle.trace_maker.proofs.Growing.{pattern_set, pattern_start}
use Rattle.trace_maker.proofs.machine.bytes_of.Goals as goal

pub loop-n-init : goal.loop-n-init
loop-n-init c = c.in_ok-bytes.ensures.items_if_clones_equal (λ y e. e) ∙ pattern_start c.args.count

pub loop-n-preserved : goal.loop-n-preserved
loop-n-preserved c =
    ap (λ xs. slice_set xs c.loop-n.n ((c.loop-n.n / PAGE_BYTES + c.loop-n.n % PAGE_BYTES) % 256)) c.loop-n.invariant ∙ pattern_set c.args.count c.loop-n.n c.loop-n-test.true
