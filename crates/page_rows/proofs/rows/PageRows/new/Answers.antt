use Rattle.std.proofs.Common.{rules, ◌≡◌, None, replicate}
use Rattle.page_rows.proofs.Runs.{none_in}
use Rattle.page_rows.proofs.rows.PageRows.new.Goals as goal

pub returns : goal.returns
returns g c =
    let shut : c.in_ok-vec.field-0.items ≡ replicate c.args.runs None = search rules in
    none_in c.in_ok-vec.field-0.items c.in_ok-with_capacity.field-0.items c.args.runs shut
