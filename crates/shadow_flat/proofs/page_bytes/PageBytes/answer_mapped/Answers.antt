use Rattle.std.proofs.Common.{ap, ◌∙◌}
use Rattle.vm_types.specs.declared.config.Origin.{Origin}
use Rattle.pager_model.specs.Maps.{page_behind, page_number}
use Rattle.shadow_flat.specs.Kept.{kept}
use Rattle.shadow_flat.specs.Slots.{found_at}
use Rattle.shadow_flat.proofs.Told.{told_result}
use Rattle.shadow_flat.proofs.page_bytes.PageBytes.answer_mapped.Goals as goal

pub returns : goal.returns
returns c = λ state h mapped unrefused.
    let config = c.args.config.now in
    let page = c.page_behind-page.result in
    let old = c.args.self.now in
    told_result config state (kept old) _ (c.args.p).0 c.args.r c.args.behind page (found_at config c.origin-2.result old.pages page) c.refer.result h mapped unrefused
    (c.page_behind-page.ensures ∙ ap (page_behind config (c.args.p).0 (page_number (c.args.r.addr).0)) c.origin.ensures)
    (ap (λ (o : Origin). found_at config o old.pages page) c.origin-2.ensures)
    c.refer.ensures.reply c.refer.ensures.kept
