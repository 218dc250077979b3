use Rattle.std.proofs.Common.{◌+◌, ◌<◌, ◌&&◌, ◌++◌, ◌∷◌, [], ◌∙◌, Some, ap, arith, length, nat_lt, true}
use Rattle.vm_types.specs.declared.config.Config.{Config}
use Rattle.vm_state.specs.History.{pager}
use Rattle.fault_core.proofs.Windows.{block_small, first_looking, is_window, length_as, length_is, next_looking, out_count, page_small, pages_count, reach_few}
use Rattle.fault_core.proofs.cluster.cluster.Goals as goal

pub loop-more-init : goal.loop-more-init
loop-more-init g c =
    first_looking c.args.state.now.config (pager c.args.state.now) (c.args.x).page c.args.b _ _ c.goes_on-more.result c.requires.formed
    (c.push.ensures.items ∙ ap (λ items. items ++ Some (c.args.x).page ∷ []) c.requires.none) (c.push-2.ensures.items ∙ ap (λ items. items ++ true ∷ []) c.new-out.ensures)
    (c.goes_on-more.ensures ∙ ap (λ n. true && nat_lt 1 n) c.reach-reach.ensures)

pub following-page-requires-clause-page : goal.following-page-requires-clause-page
following-page-requires-clause-page g c κs within =
    let small = page_small c.args.state.now.config (c.args.x).page c.requires.formed c.requires.known in
    let few = reach_few c.args.state.now.config (pager c.args.state.now) (c.args.x).page c.requires.formed in
    let before = c.loop-more.invariant.goes c.loop-more-test.true in omega (arith, small, few, before)

pub following-page-requires-clause-block : goal.following-page-requires-clause-block
following-page-requires-clause-block g c κs within =
    let small = block_small c.args.state.now.config c.args.b c.requires.formed c.requires.exists in
    let few = reach_few c.args.state.now.config (pager c.args.state.now) (c.args.x).page c.requires.formed in
    let before = c.loop-more.invariant.goes c.loop-more-test.true in omega (arith, small, few, before)

pub push-requires-in-loop-more : goal.push-requires-in-loop-more
push-requires-in-loop-more g c = (omega arith, less)
  where
    less : length c.loop-more.out.items < 8
    less =
        let count = out_count c.args.state.now.config (pager c.args.state.now) (c.args.x).page c.args.b c.loop-more.pages.items c.loop-more.out.items c.loop-more.places c.loop-more.invariant.some c.loop-more.invariant.looked in
        let few = reach_few c.args.state.now.config (pager c.args.state.now) (c.args.x).page c.requires.formed in
        let before = c.loop-more.invariant.goes c.loop-more-test.true in omega (arith, count, few, before)

pub push-requires-in-loop-more-2 : goal.push-requires-in-loop-more-2
push-requires-in-loop-more-2 g c = (omega arith, less)
  where
    less : length c.loop-more.pages.items < 8
    less =
        let count = pages_count c.args.state.now.config (pager c.args.state.now) (c.args.x).page c.args.b c.loop-more.pages.items c.loop-more.out.items c.loop-more.places c.loop-more.invariant.some c.loop-more.invariant.looked in
        let few = reach_few c.args.state.now.config (pager c.args.state.now) (c.args.x).page c.requires.formed in
        let before = c.loop-more.invariant.goes c.loop-more-test.true in omega (arith, count, few, before)

pub loop-more-preserved : goal.loop-more-preserved
loop-more-preserved g c =
    next_looking c.args.state.now.config (pager c.args.state.now) (c.args.x).page c.args.b c.loop-more.pages.items _ c.loop-more.out.items _ c.loop-more.places c.loop-more.more c.goes_on-more-in-loop-more.result
    c.following-page.result.1 c.following-page.result.0 c.loop-more.invariant c.loop-more-test.true c.following-page.ensures.page c.following-page.ensures.out c.push-in-loop-more-2.ensures.items c.push-in-loop-more.ensures.items
    (c.goes_on-more-in-loop-more.ensures ∙ ap (λ n. c.following-page.result.1 && nat_lt (c.loop-more.places + 1) n) c.reach-reach.ensures)

pub returns-clause-pages : goal.returns-clause-pages
returns-clause-pages g c =
    is_window c.args.state.now.config (pager c.args.state.now) (c.args.x).page c.args.b c.loop-more.pages.items c.loop-more.out.items c.loop-more.places c.loop-more.more c.requires.formed c.loop-more.invariant

pub returns-clause-length : goal.returns-clause-length
returns-clause-length g c =
    length_is c.args.state.now.config (pager c.args.state.now) (c.args.x).page c.args.b c.loop-more.pages.items c.loop-more.out.items c.loop-more.places (length (pager c.args.state.now).free) c.choose.result
    c.loop-more.more c.loop-more.invariant c.loop-more-test.false
    (length_as _ _ _ _ _ _ _ c.as_slice.ensures.value (ap (λ (x : Config). (x.params).pfc) c.config.ensures) c.free_len.ensures c.choose.ensures)

pub returns-clause-within : goal.returns-clause-within
returns-clause-within g c =
    let out = out_count c.args.state.now.config (pager c.args.state.now) (c.args.x).page c.args.b c.loop-more.pages.items c.loop-more.out.items c.loop-more.places c.loop-more.invariant.some c.loop-more.invariant.looked in
    let pages = pages_count c.args.state.now.config (pager c.args.state.now) (c.args.x).page c.args.b c.loop-more.pages.items c.loop-more.out.items c.loop-more.places c.loop-more.invariant.some c.loop-more.invariant.looked in
    let same = ap (λ xs. length xs) c.as_slice.ensures.value in
    let inside = c.choose.ensures.is.within in
    omega (arith, out, pages, same, inside)
