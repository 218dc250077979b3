use Rattle.std.proofs.Common.{◌/◌}
use Rattle.std.specs.Ordering.{nat_cmp}
use Rattle.std.specs.BTreeSet.{contains}
use Rattle.vm_types.specs.declared.limits.TheConstants.{PAGE_BYTES}
use Rattle.trace_lines.specs.Keys.{page_key}
use Rattle.trace_lines.proofs.Overlaps.{kept_answer, small_page, whole}
use Rattle.trace_lines.proofs.mappings.is_repeated.Goals as goal

pub returns : goal.returns
returns c =
    kept_answer c.args.config.now.maps c.args.m.now ((c.args.m.now.at).0 / PAGE_BYTES) c.has_page.result
    (λ page. contains nat_cmp c.args.seen.now.pages (page_key (c.args.m.now.proc).0 page))
    (whole (c.args.m.now.at).0 c.requires.aligned) c.requires.some c.requires.bounded.maps
    (λ k lt. c.requires.seen.pages (c.args.m.now.proc).0 _ (small_page (c.args.m.now.at).0 c.args.m.now.pages k c.requires.inside lt))
    c.has_page.ensures
