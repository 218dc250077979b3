use Rattle.std.proofs.Common.{List, Some, ℕ, ap, sym, ◌∙◌}
use Rattle.std.proofs.lemmas.Result.{on_ok_weaker}
use Rattle.pager_model.specs.Sets.{at_page}
use Rattle.shadow_flat.specs.Slots.{bytes_kept}
use Rattle.shadow_flat.proofs.Slots.{found_first}
use Rattle.shadow_flat.proofs.kept_pages.row_of.Goals as goal

pub returns-in-None-clause-kept : goal.returns-in-None-clause-kept
returns-in-None-clause-kept c =
    let rows = c.args.rows.now.items in
    on_ok_weaker c.give.result
    (λ is. is ∙ ap (λ (bytes : List ℕ). at_page (bytes_kept (c.args.slots.now, rows)) c.args.page (Some bytes))
    (c.first_bytes.ensures ∙ found_first c.args.config.now c.args.origin (c.args.slots.now, rows) c.args.page (sym c.at.ensures ∙ c.in-None.is)))
    c.give.ensures.kept
