use Rattle.std.proofs.Common.{◌*◌}
use Rattle.vm_types.specs.declared.limits.TheConstants.{PRIVATE_PAGES}
use Rattle.page_tables.proofs.Entries.{none_kept}
use Rattle.page_tables.proofs.tables.Tables.new.Goals as goal

pub returns-clause-empty : goal.returns-clause-empty
returns-clause-empty c p v =
    let words = c.in_ok-vec.ensures.items_if_clones_equal (λ _ same. same) in
    rw words (none_kept (c.args.procs * PRIVATE_PAGES) p v)
