use Rattle.std.proofs.Common.{arith, ap, ◌∙◌, ◌≡◌, ◌+◌, length, sum}
use Rattle.frame_store.specs.Blocks.{blocks_of, extents, block_counts}
use Rattle.frame_store.specs.Numbers.{firsts, listed_by, number_by}
use Rattle.frame_store.proofs.Blocks.{file_first, numbered, section_firsts, swap_firsts}
use Rattle.frame_store.proofs.Counts.{count_is, few_blocks}
use Rattle.frame_store.proofs.Listed.{listed_are}
use Rattle.frame_store.proofs.numbers.Numbers.counted.Goals as goal

pub firsts-requires : goal.firsts-requires
firsts-requires c =
    let config = c.args.config.now in
    let pages : sum c.deref.result.now ≡ sum (block_counts config.sections) = ap sum (c.deref.ensures.value ∙ (c.in_ok-pages.ensures ∙ ap block_counts c.items.ensures)) in
    let few = few_blocks config c.requires in
    omega (arith, pages, few)

pub overflow_add-file : goal.overflow_add-file
overflow_add-file c =
    let config = c.args.config.now in
    let pages = c.deref.ensures.value ∙ (c.in_ok-pages.ensures ∙ ap block_counts c.items.ensures) in
    let file : c.in_ok-sections.file ≡ sum (block_counts config.sections) = (let next = c.in_ok-sections.ensures.next in omega (arith, next)) ∙ ap sum pages in
    let few = few_blocks config c.requires in
    omega (arith, file, few)

pub firsts-requires-2 : goal.firsts-requires-2
firsts-requires-2 c =
    let config = c.args.config.now in
    let pages = c.deref.ensures.value ∙ (c.in_ok-pages.ensures ∙ ap block_counts c.items.ensures) in
    let slots = c.deref-2.ensures.value ∙ (c.in_ok-slots.ensures ∙ ap extents c.items-2.ensures) in
    let file : c.in_ok-sections.file ≡ sum (block_counts config.sections) = (let next = c.in_ok-sections.ensures.next in omega (arith, next)) ∙ ap sum pages in
    let rest : sum c.deref-2.result.now ≡ sum (extents config.procs) = ap sum slots in
    let few = few_blocks config c.requires in
    omega (arith, file, rest, few)

pub returns-clause-numbers : goal.returns-clause-numbers
returns-clause-numbers c n b there =
    let pages = c.deref.ensures.value ∙ (c.in_ok-pages.ensures ∙ ap block_counts c.items.ensures) in
    let slots = c.deref-2.ensures.value ∙ (c.in_ok-slots.ensures ∙ ap extents c.items-2.ensures) in
    let sections : c.in_ok-sections.sections.items ≡ section_firsts c.args.config.now = c.in_ok-sections.ensures.numbers ∙ ap (firsts 0) pages in
    let file : c.in_ok-sections.file ≡ file_first c.args.config.now = (let next = c.in_ok-sections.ensures.next in omega (arith, next)) ∙ ap sum pages in
    let swaps : c.in_ok-swaps.swaps.items ≡ swap_firsts c.args.config.now = c.in_ok-swaps.ensures.numbers ∙ (λ i. firsts (file i + c.args.config.now.pagefile) (slots i)) in
    (λ i. number_by (sections i) (file i) (swaps i) b) ∙ (numbered c.args.config.now n b there).1

pub returns-clause-listed : goal.returns-clause-listed
returns-clause-listed c =
    let pages = c.deref.ensures.value ∙ (c.in_ok-pages.ensures ∙ ap block_counts c.items.ensures) in
    let slots = c.deref-2.ensures.value ∙ (c.in_ok-slots.ensures ∙ ap extents c.items-2.ensures) in
    let sections : c.in_ok-sections.sections.items ≡ section_firsts c.args.config.now = c.in_ok-sections.ensures.numbers ∙ ap (firsts 0) pages in
    let file : c.in_ok-sections.file ≡ file_first c.args.config.now = (let next = c.in_ok-sections.ensures.next in omega (arith, next)) ∙ ap sum pages in
    let swaps : c.in_ok-swaps.swaps.items ≡ swap_firsts c.args.config.now = c.in_ok-swaps.ensures.numbers ∙ (λ i. firsts (file i + c.args.config.now.pagefile) (slots i)) in
    (λ i. listed_by (sections i) (file i) (swaps i) (length (blocks_of c.args.config.now))) ∙ listed_are c.args.config.now

pub returns-clause-count : goal.returns-clause-count
returns-clause-count c =
    let config = c.args.config.now in
    let pages = c.deref.ensures.value ∙ (c.in_ok-pages.ensures ∙ ap block_counts c.items.ensures) in
    let slots = c.deref-2.ensures.value ∙ (c.in_ok-slots.ensures ∙ ap extents c.items-2.ensures) in
    let file : c.in_ok-sections.file ≡ sum (block_counts config.sections) = (let next = c.in_ok-sections.ensures.next in omega (arith, next)) ∙ ap sum pages in
    let rest : sum c.deref-2.result.now ≡ sum (extents config.procs) = ap sum slots in
    let count = c.in_ok-swaps.ensures.next in
    let all = count_is config in
    omega (arith, file, rest, count, all)
