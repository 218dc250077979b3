use Rattle.pfn_database.specs.declared.row.Row.{Row}
use Rattle.pfn_database.specs.Rows.{shared}
use Rattle.pfn_database.specs.Frames.{row_of}
use Rattle.frame_changes.proofs.RowChanges.{row_again, row_counted, entry_more}
use Rattle.frame_changes.proofs.entries.enter.Goals as goal

pub returns-clause-rows : goal.returns-clause-rows
returns-clause-rows c =
    row_counted _ _ c.args.f.0 (row_of c.args.frames.now c.args.f.0) _ c.mark.ensures.consistent c.requires.below
    (row_again _ _ _ c.args.f.0 _ (λ (row : Row). record row { modify = c.args.modify }) c.requires.below
    (row_again _ _ _ c.args.f.0 _ shared c.requires.below c.set_active.ensures.rows c.share.ensures.rows) c.mark.ensures.rows)
    (entry_more (row_of c.args.frames.now c.args.f.0))
