use Rattle.std.proofs.Common.{◌∙◌, None, ap, get_or, sym}
use Rattle.page_rows.specs.Rows.{item_in}
use Rattle.page_rows.proofs.Runs.{get_all}
use Rattle.page_rows.proofs.rows.PageRows.get.Goals as goal

pub returns : goal.returns
returns g c =
    let firsts = c.self.inside.firsts.items in
    let items = c.self.inside.items.items in
    c.item_in.ensures ∙ (ap (λ xs. item_in xs items c.args.place) c.deref.ensures.value ∙ (sym (get_all firsts items c.args.place) ∙ ap (λ xs. get_or xs c.args.place None) c.self.view_is))
