use Rattle.std.proofs.Common.{◌≡◌, [], List, Option, Some, ℕ, ap, refl, slice_set, true, ◌∙◌}
use Rattle.std.proofs.lemmas.List.{get_or_read}
use Rattle.pager_model.specs.Flat.{bytes_after, offset_in_page, reply_from}
use Rattle.pager_model.specs.Sets.{at_page}
use Rattle.vm_types.specs.declared.names.Page.{Page}
use Rattle.shadow_flat.specs.Slots.{Slotted, bytes_kept, found_at}
use Rattle.shadow_flat.proofs.Slots.{at_twice, bytes_changed, row_found, slot_at}
use Rattle.shadow_flat.proofs.kept_pages.KeptPages.refer.Goals as goal

pub returns-clause-reply : goal.returns-clause-reply
returns-clause-reply c =
    let old : Slotted = (c.self.inside.slots, c.self.inside.rows.items) in
    let mid : Slotted = (c.row_of.new.slots, c.row_of.new.rows.items) in
    let page = c.args.page in
    let at = c.in_ok-at.at in
    let found = found_at c.args.config.now c.args.origin old page in
    let there : c.index_mut.result.now ≡ found =
    get_or_read mid.1 at c.index_mut.result.now (c.in_ok-at.ensures.slots.within page (slot_at at true) c.in_ok-at.ensures.slot) c.index_mut.ensures.value []
    ∙ row_found mid (bytes_kept old) page at found c.in_ok-at.ensures.slot c.in_ok-at.ensures.kept in
    c.apply.ensures.reply
    ∙ ap (λ (bytes : List ℕ). reply_from c.args.r.op bytes (offset_in_page c.args.r)) (there ∙ ap (λ (pages : Slotted). found_at c.args.config.now c.args.origin pages page) c.self.view_is)

pub returns-clause-kept : goal.returns-clause-kept
returns-clause-kept c =
    let old : Slotted = (c.self.inside.slots, c.self.inside.rows.items) in
    let mid : Slotted = (c.row_of.new.slots, c.row_of.new.rows.items) in
    let page = c.args.page in
    let at = c.in_ok-at.at in
    let bytes = c.apply.new.page in
    let found = found_at c.args.config.now c.args.origin old page in
    let there : c.index_mut.result.now ≡ found =
    get_or_read mid.1 at c.index_mut.result.now (c.in_ok-at.ensures.slots.within page (slot_at at true) c.in_ok-at.ensures.slot) c.index_mut.ensures.value []
    ∙ row_found mid (bytes_kept old) page at found c.in_ok-at.ensures.slot c.in_ok-at.ensures.kept in
    bytes_changed mid.0 mid.0 page (slot_at at true) mid.1 (slice_set mid.1 at bytes) bytes c.in_ok-at.ensures.slot refl c.in_ok-at.ensures.slots refl
    ∙ (ap (λ (kept : Page → Option (List ℕ)). at_page kept page (Some bytes)) c.in_ok-at.ensures.kept
    ∙ (at_twice (bytes_kept old) page (Some found) (Some bytes)
    ∙ (ap (λ (bs : List ℕ). at_page (bytes_kept old) page (Some bs)) (c.apply.ensures.bytes ∙ ap (λ (bs : List ℕ). bytes_after c.args.r.op bs (offset_in_page c.args.r)) there)
    ∙ ap (λ (pages : Slotted). at_page (bytes_kept pages) page (Some (bytes_after c.args.r.op (found_at c.args.config.now c.args.origin pages page) (offset_in_page c.args.r)))) c.self.view_is)))
