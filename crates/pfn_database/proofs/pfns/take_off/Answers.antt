use Rattle.std.proofs.Common.{sym, ◌∙◌, refl}
use Rattle.page_lists.proofs.Counts.{without-absent}
use Rattle.pfn_database.proofs.Changes.{is_free-other, is_modified-other}
use Rattle.pfn_database.proofs.pfns.take_off.Goals as goal

pub returns-in-Free-clause-modified : goal.returns-in-Free-clause-modified
returns-in-Free-clause-modified c =
    let absent = rw c.in-Free.is at c.requires.modified in
    c.remove.ensures.other ∙ sym (without-absent c.args.lists.now.modified c.args.f absent)

pub returns-in-Modified-clause-free : goal.returns-in-Modified-clause-free
returns-in-Modified-clause-free c =
    let absent = rw c.in-Modified.is at c.requires.free in
    c.remove-in-Modified.ensures.other ∙ sym (without-absent c.args.lists.now.free c.args.f absent)

pub returns-in_default : goal.returns-in_default
returns-in_default c =
    let free = rw (is_free-other _ c.in_default.not-Free) at c.requires.free in
    let modified = rw (is_modified-other _ c.in_default.not-Modified) at c.requires.modified in
    record {
      free = sym (without-absent c.args.lists.now.free c.args.f free);
      modified = sym (without-absent c.args.lists.now.modified c.args.f modified);
      frames = refl;
      cells = refl;
    }
