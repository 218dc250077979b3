use Rattle.std.proofs.Common.{◌<◌, ◌^◌, ℕ, sym, subst}
use Rattle.vm_types.specs.Configuration.{section_pages}
use Rattle.state_pages.proofs.SectionsSeen.{one_more}
use Rattle.state_pages.proofs.pages_shown.some_shared_waits.Goals as goal

pub paged_pages-requires : goal.paged_pages-requires
paged_pages-requires c = subst (λ s. section_pages s < 2 ^ 32) (sym c.index-sections-s.is) (c.requires.few c.loop-s.s c.index-sections-s.result c.loop-s-test.true)

pub loop-s-preserved : goal.loop-s-preserved
loop-s-preserved c =
    one_more c.args.pages.now c.args.sections.now c.loop-s.s c.paged_pages.result c.index-sections-s.result c.loop-s-test.true c.index-sections-s.is c.paged_pages.ensures
    (c.section_waits.ensures.none c.if-section_waits.false) c.loop-s.invariant
