use Rattle.std.proofs.Common.{sym, ◌∙◌, refl, ap}
use Rattle.pager_model.specs.Flat.{reply_from, bytes_after, offset_in_page}
use Rattle.flat_model.proofs.Told.{told_pushed, told_full, full_from}
use Rattle.flat_model.proofs.flat.Flat.answer_new.Goals as goal

pub returns : goal.returns
returns c = λ config state p h at absent.
    let room = full_from config state c.args.self.now c.args.page h absent ∙ (sym c.is_full.ensures ∙ c.if-is_full.false) in
    let first = c.bytes_at-bytes.ensures config (c.items.ensures ∙ h.tables.sections) in
    told_pushed config state c.args.self.now (record { tables = c.args.self.now.tables; stored = c.push.new.self }) p c.args.r c.args.origin
    (record { page = c.args.page; bytes = c.apply-reply.new.page }) c.apply-reply.result at h absent room
    (c.apply-reply.ensures.reply ∙ ap (λ bytes. reply_from c.args.r.op bytes (offset_in_page c.args.r)) first)
    (c.apply-reply.ensures.bytes ∙ ap (λ bytes. bytes_after c.args.r.op bytes (offset_in_page c.args.r)) first)
    refl c.in_ok-push.ensures.items

pub returns-then-is_full : goal.returns-then-is_full
returns-then-is_full c = λ config state p h at absent.
    told_full config state c.args.self.now p c.args.r c.args.origin c.args.page at (full_from config state c.args.self.now c.args.page h absent ∙ (sym c.is_full.ensures ∙ c.if-is_full.true)) h
