use Rattle.std.proofs.Common.{subst, sym}
use Rattle.vm_types.specs.declared.reply.Answer.TheVariants.{Good}
use Rattle.vm_types.specs.declared.service.Service.{Service}
use Rattle.pager_model.specs.FlatService.{flat_service}
use Rattle.shadow_flat.specs.Kept.{KeepsFlat, kept}
use Rattle.shadow_flat.proofs.Forgotten.{kept_forgotten}
use Rattle.shadow_flat.proofs.page_bytes.PageBytes.change.Goals as goal

pub returns-in-Delete : goal.returns-in-Delete
returns-in-Delete c = λ config state h.
    subst (λ (s : Service). KeepsFlat config (flat_service state c.args.p.0 s Good) (kept c.forget.new.self)) (sym c.in-Delete.is)
    (kept_forgotten config state (kept c.args.self.now) (kept c.forget.new.self) c.args.p.0 c.in-Delete.at.0 c.in-Delete.pages h c.forget.ensures _)
