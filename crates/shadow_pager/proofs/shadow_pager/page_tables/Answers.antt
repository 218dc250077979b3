use Rattle.std.proofs.Common.{List, ap, map, ◌∙◌}
use Rattle.vm_types.specs.declared.config.Section.{Section}
use Rattle.shadow_tables.specs.Lying.{first_by}
use Rattle.shadow_tables.proofs.Lies.{first_same}
use Rattle.shadow_pager.proofs.shadow_pager.page_tables.Goals as goal

pub returns : goal.returns
returns c =
    record {
      count = c.in_ok-pages_of.ensures.count;
      pages = c.in_ok-pages_of.ensures.pages;
      valid = c.in_ok-new.ensures;
      charged = c.in_ok-new-2.ensures;
      touched = c.in_ok-new-3.ensures;
      lies = λ g. c.in_ok-new-4.ensures g ∙ (ap (λ (ss : List Section). first_by (map (λ (x : Section). x.kind) ss) g) c.items-sections.ensures ∙ first_same c.args.config.now g);
      assigned = c.in_ok-new-5.ensures;
    }
