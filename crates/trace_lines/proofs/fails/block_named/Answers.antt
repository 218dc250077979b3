use Rattle.std.proofs.Common.{◌∙◌, ap, arith, length, List}
use Rattle.vm_types.specs.declared.config.ProcSpec.{ProcSpec}
use Rattle.vm_types.specs.declared.config.Section.{Section}
use Rattle.trace_lines.specs.Fails.{slots_at}
use Rattle.trace_lines.specs.Lookups.{blocks_at}
use Rattle.trace_lines.proofs.Blocks.{blocks_at_most, slots_at_most}
use Rattle.trace_lines.proofs.fails.block_named.Goals as goal

pub returns-then-page-blocks_at-clause-keyed : goal.returns-then-page-blocks_at-clause-keyed
returns-then-page-blocks_at-clause-keyed c =
    let count = ap (λ (sections : List Section). length sections) c.items-sections.ensures in
    let pages = c.blocks_at.ensures ∙ ap (λ (sections : List Section). blocks_at sections c.in-Some.s) c.items-sections.ensures in (
      omega (arith, c.requires.sections, c.in-Some.ensures.bound, count),
      omega (arith, c.requires.pages, blocks_at_most c.args.config.now.sections c.in-Some.s, pages, c.if-page-blocks_at.true),
    )

pub returns-then-slot-slots_at-clause-keyed : goal.returns-then-slot-slots_at-clause-keyed
returns-then-slot-slots_at-clause-keyed c =
    let slots = c.slots_at.ensures ∙ ap (λ (procs : List ProcSpec). slots_at procs c.in-Swap.p) c.items.ensures in
    omega (arith, slots_at_most c.args.config.now.procs c.in-Swap.p c.requires.slots, slots, c.if-slot-slots_at.true)
