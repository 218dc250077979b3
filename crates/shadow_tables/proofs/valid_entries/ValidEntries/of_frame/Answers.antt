use Rattle.std.proofs.Common.{[], List, ap, slice_index_or, ◌∙◌}
use Rattle.pager_model.specs.Pager.{Valid}
use Rattle.shadow_tables.specs.Listed.{entries_of}
use Rattle.shadow_tables.proofs.valid_entries.ValidEntries.of_frame.Goals as goal

pub returns : goal.returns
returns c =
    let f = (c.args.f).0 in
    c.entries_in.ensures
    ∙ (ap (λ (xs : List (List Valid)). slice_index_or xs f []) c.deref.ensures.value
    ∙ (c.self.invariant.shared f ∙ ap (λ (es : List Valid). entries_of es f) c.self.view_is))
