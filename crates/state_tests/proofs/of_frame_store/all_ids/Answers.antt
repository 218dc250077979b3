use Rattle.std.proofs.Common.{◌≡◌, ◌++◌, ap, ◌∙◌, append_assoc}
use Rattle.frame_store.specs.Blocks.{blocks_of, file_blocks, section_blocks, swap_blocks}
use Rattle.state_tests.proofs.of_frame_store.all_ids.Goals as goal

pub returns : goal.returns
unfolding blocks_of
returns c =
    let config = c.args.config.now in
    let sections : c.push_sections.new.ids.items ≡ section_blocks config.sections =
    c.in_ok-push_sections.ensures ∙ (λ i. c.new-ids.ensures.items i ++ section_blocks (c.items.ensures i)) in
    let file : c.push_row.new.ids.items ≡ section_blocks config.sections ++ file_blocks config.pagefile = c.in_ok-push_row.ensures ∙ ap (λ xs. xs ++ file_blocks config.pagefile) sections in
    c.in_ok-push_swaps.ensures ∙ ((λ i. file i ++ swap_blocks (c.items-2.ensures i)) ∙ append_assoc (section_blocks config.sections) (file_blocks config.pagefile) (swap_blocks config.procs))
