use Rattle.std.proofs.Common.{Option, ap, sym, ◌∙◌}
use Rattle.vm_types.specs.declared.reply.Why.TheVariants as why
use Rattle.pager_model.specs.Flat.{FlatState, flat_refusal, refusal_at}
use Rattle.pager_model.specs.Maps.{Map, Mapped, page_number}
use Rattle.shadow_flat.proofs.Told.{beside, told_refused}
use Rattle.shadow_flat.proofs.page_bytes.PageBytes.answer.Goals as goal

pub returns-in-Some : goal.returns-in-Some
returns-in-Some c = λ state h is.
    told_refused c.args.config.now state _ (c.args.p).0 c.args.r _
    (sym (c.in-Some.ensures state.stored ∙ ap (λ (s : FlatState). flat_refusal c.args.config.now s (c.args.p).0 c.args.r) (beside _ state is))) h

pub answer_mapped-requires-clause-origin : goal.answer_mapped-requires-clause-origin
answer_mapped-requires-clause-origin c = (c.requires.right _ _ _ (sym c.in-Some-mapping.ensures)).origin

pub returns-in-Some-mapping : goal.returns-in-Some-mapping
returns-in-Some-mapping c = λ state h is.
    c.answer_mapped.ensures state h
    (ap (λ (map : Map). map (c.args.p).0 (page_number (c.args.r.addr).0)) (sym is.maps) ∙ sym c.in-Some-mapping.ensures)
    (sym (c.in_default.ensures state.stored ∙ ap (λ (s : FlatState). flat_refusal c.args.config.now s (c.args.p).0 c.args.r) (beside _ state is)))

pub returns-in-None : goal.returns-in-None
returns-in-None c = λ state h is.
    told_refused c.args.config.now state _ (c.args.p).0 c.args.r why.Unmapped
    (ap (λ (o : Option Mapped). refusal_at c.args.config.now state (c.args.p).0 c.args.r o) (ap (λ (map : Map). map (c.args.p).0 (page_number (c.args.r.addr).0)) (sym is.maps) ∙ sym c.in-None.ensures)) h
