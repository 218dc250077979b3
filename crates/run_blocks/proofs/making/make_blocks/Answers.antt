use Rattle.std.proofs.Common.{◌∙◌, ◌++◌, List, ap, append_assoc}
use Rattle.vm_types.specs.declared.names.BlockId.{BlockId}
use Rattle.frame_store.specs.Blocks.{blocks_of, file_blocks, section_blocks, swap_blocks}
use Rattle.run_blocks.specs.Adds.{names_of}
use Rattle.run_blocks.proofs.Added.{none_made}
use Rattle.run_blocks.proofs.making.make_blocks.Goals as goal

pub returns-clause-names : goal.returns-clause-names
unfolding blocks_of
returns-clause-names g c =
    let config = c.args.config.now in
    let sections = c.in_ok-make_sections.ensures.adds.names ∙ ap (λ xs. names_of xs ++ section_blocks config.sections) c.in_ok-blocks.ensures.items in
    let file = c.in_ok-make_file.ensures.adds.names ∙ ap (λ (xs : List BlockId). xs ++ file_blocks config.pagefile) sections in
    c.in_ok-make_swaps.ensures.adds.names ∙ (ap (λ (xs : List BlockId). xs ++ swap_blocks config.procs) file ∙ append_assoc (section_blocks config.sections) (file_blocks config.pagefile) (swap_blocks config.procs))

pub returns-clause-made : goal.returns-clause-made
returns-clause-made g c =
    c.in_ok-make_swaps.ensures.adds.made (c.in_ok-make_file.ensures.adds.made (c.in_ok-make_sections.ensures.adds.made (none_made g.D.Block.Block.seen g.D.Block.Block.tells c.args.config.now _ c.in_ok-blocks.ensures.items)))
