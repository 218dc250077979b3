use Rattle.std.proofs.Common.{sym, ◌∙◌, refl, ap, subst, length, ◌<◌, ◌≡◌}
use Rattle.std.specs.List.{position_or_len}
use Rattle.vm_types.specs.Access.{is_allowed}
use Rattle.pager_model.specs.Flat.{reply_from, bytes_after, offset_in_page}
use Rattle.flat_model.specs.FlatMachine.{is_of}
use Rattle.flat_model.proofs.Entries.{page_at_place}
use Rattle.flat_model.proofs.Found.{origin_there}
use Rattle.flat_model.proofs.Told.{told_written, allowed_at}
use Rattle.flat_model.proofs.flat.Flat.answer.Goals as goal

pub allowed-requires : goal.allowed-requires
allowed-requires c = c.in-Some.ensures.usable.0

pub answer_new-requires-clause-origin : goal.answer_new-requires-clause-origin
answer_new-requires-clause-origin c = origin_there c.args.self.now.tables.sections c.in-Some.behind.origin c.in-Some.ensures.usable.1

pub returns-in-Some-place_of : goal.returns-in-Some-place_of
returns-in-Some-place_of c = record {
  told = λ config state h.
      let right = sym (c.allowed.ensures ∙ ap (is_allowed c.in-Some.behind.prot c.args.r.mode) c.changes.ensures) ∙ c.if-not-allowed.false in
      let at = allowed_at config state c.args.self.now c.args.p.0 c.args.r c.in-Some.behind c.page_at-page.result h
      c.in-Some.ensures.value right (c.page_at-page.ensures config (c.items.ensures ∙ h.tables.sections)) in
      let there = subst (λ es. (c.in-Some-place_of.place < length es) × (c.in-Some-place_of.place ≡ position_or_len (is_of c.page_at-page.result) es)) c.deref.ensures.value c.in-Some-place_of.ensures in
      told_written config state c.args.self.now _ c.args.p.0 c.args.r c.in-Some.behind.origin c.page_at-page.result
      (record { page = c.index_mut.result.now.page; bytes = c.apply.new.page }) c.index_mut.result.now c.in-Some-place_of.place c.apply.result
      (ap (λ e. e.page) c.index_mut.ensures.value ∙ page_at_place c.args.self.now.stored.items c.in-Some-place_of.place c.page_at-page.result c.index_mut.result.now there.0 there.1)
      at h there.0 there.1
      (c.apply.ensures.reply ∙ ap (λ e. reply_from c.args.r.op e.bytes (offset_in_page c.args.r)) c.index_mut.ensures.value)
      (c.apply.ensures.bytes ∙ ap (λ e. bytes_after c.args.r.op e.bytes (offset_in_page c.args.r)) c.index_mut.ensures.value)
      refl refl;
}
