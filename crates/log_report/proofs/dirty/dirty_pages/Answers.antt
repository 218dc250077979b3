use Rattle.std.proofs.Common.{◌∙◌, ◌≤◌, List, ap, arith, filter, length, subst, sym}
use Rattle.std.specs.Prelude.{All}
use Rattle.vm_types.specs.declared.limits.TheConstants.{MOST_SECTION_PAGES}
use Rattle.vm_types.specs.Configuration.{section_pages}
use Rattle.vm_types.specs.declared.config.Section.{Section}
use Rattle.pager_model.specs.DirtyPages.{is_dirty, pages_from}
use Rattle.shadow_pager.specs.Shown.{shown}
use Rattle.log_report.proofs.PagesAdded.{few_pages}
use Rattle.log_report.proofs.dirty.dirty_pages.Goals as goal

pub shared_pages-requires-clause-few : goal.shared_pages-requires-clause-few
shared_pages-requires-clause-few c = omega (arith, ap length c.items.ensures, (c.requires.sections).few)

pub shared_pages-requires-clause-small : goal.shared_pages-requires-clause-small
shared_pages-requires-clause-small c =
    subst (λ (xs : List Section). All (λ (section : Section). section_pages section ≤ MOST_SECTION_PAGES) xs) (sym c.items.ensures)
    (few_pages c.args.config.now.sections (c.requires.sections).pages)

pub returns : goal.returns
returns c =
    c.keep_dirty.ensures
    ∙ ap (filter (is_dirty c.args.config.now (shown c.args.pager.now).pager)) (c.in_ok-pages.ensures ∙ ap (pages_from 0) c.items.ensures)
