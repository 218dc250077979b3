use Rattle.std.proofs.Common.{rules, ◌≡◌, ◌/◌, Some, None, slice_index_or}
use Rattle.page_rows.proofs.Runs.{all_set}
use Rattle.page_rows.proofs.rows.put.Goals as goal

pub returns-in-Some-Some-clause-set : goal.returns-in-Some-Some-clause-set
returns-in-Some-Some-clause-set g c =
    let open_at : slice_index_or c.args.firsts.now (c.args.place / 64) None ≡ Some c.in-Some-Some.first = search rules in
    all_set c.args.firsts.now c.args.items.now.items _ c.requires.laid c.args.place c.in-Some-Some.first open_at c.args.item
