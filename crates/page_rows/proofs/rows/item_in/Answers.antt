use Rattle.std.proofs.Common.{rules, ◌≡◌, ◌/◌, Some, None, arith, slice_index_or}
use Rattle.page_rows.proofs.rows.item_in.Goals as goal

pub overflow_add-first : goal.overflow_add-first
overflow_add-first g c =
    let open_at : slice_index_or c.args.firsts.now (c.args.place / 64) None ≡ Some c.in-Some-Some.first = search rules in
    let within = c.requires.within (c.args.place / 64) c.in-Some-Some.first open_at in
    omega (arith, within, c.args.items.now.ok.0, c.args.items.now.small)
