use Rattle.std.proofs.Common.{subst, sym, refl, None}
use Rattle.vm_types.specs.declared.reply.Answer.TheVariants.{Good}
use Rattle.vm_types.specs.declared.service.Service.{Service}
use Rattle.pager_model.specs.FlatService.{flat_service}
use Rattle.flat_model.specs.FlatMachine.{IsFlat}
use Rattle.flat_model.proofs.Changing.{flat_forgotten, maps_changed, tables_kept}
use Rattle.flat_model.proofs.flat.Flat.change.Goals as goal

pub returns-in-Delete : goal.returns-in-Delete
returns-in-Delete c = λ config state h here.
    subst (λ (s : Service). IsFlat config (flat_service state c.args.p.0 s Good) (record { tables = c.set-in-Delete.new.self; stored = c.forget.new.stored })) (sym c.in-Delete.is)
    (flat_forgotten config state c.args.self.now c.args.p.0 c.in-Delete.at.0 c.in-Delete.pages h (record { tables = c.set-in-Delete.new.self; stored = c.forget.new.stored }) _
    (tables_kept config c.args.self.now.tables c.set-in-Delete.new.self h.tables c.set-in-Delete.ensures.pagefile c.set-in-Delete.ensures.sections c.set-in-Delete.ensures.count)
    (maps_changed (λ old. None) (λ old. None) (λ o. refl) c.args.p.0 c.in-Delete.at.0 c.in-Delete.pages state.map c.args.self.now.tables.pages.items c.set-in-Delete.new.self.pages.items h.map c.set-in-Delete.ensures.pages)
    c.forget.ensures)
