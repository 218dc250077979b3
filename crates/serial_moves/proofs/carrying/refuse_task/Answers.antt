use Rattle.std.proofs.Common.{◌∙◌, ap, subst, sym}
use Rattle.vm_journal.specs.declared.entry.What.{What}
use Rattle.vm_state.specs.History.{MayAdd, added, entry_by}
use Rattle.serial_moves.proofs.Refused.{refuses_reference, refuses_service}
use Rattle.serial_moves.proofs.carrying.refuse_task.Goals as goal

pub refuse-requires-clause-may : goal.refuse-requires-clause-may
refuse-requires-clause-may g c κs within = subst (λ (w : What). MayAdd c.args.state.now (entry_by c.args.seat w)) (refuses_reference c.args.task c.in-Reference.r c.in-Reference.is) c.requires.may

pub refuse_service-requires-clause-may : goal.refuse_service-requires-clause-may
refuse_service-requires-clause-may g c κs within = subst (λ (w : What). MayAdd c.args.state.now (entry_by c.args.seat w)) (refuses_service c.args.task c.in-Service.s c.in-Service.is) c.requires.may

pub returns-in-Reference : goal.returns-in-Reference
returns-in-Reference g c = c.refuse.ensures ∙ ap (λ (w : What). added c.args.state.now (entry_by c.args.seat w)) (sym (refuses_reference c.args.task c.in-Reference.r c.in-Reference.is))

pub returns-in-Service : goal.returns-in-Service
returns-in-Service g c = c.refuse_service.ensures ∙ ap (λ (w : What). added c.args.state.now (entry_by c.args.seat w)) (sym (refuses_service c.args.task c.in-Service.s c.in-Service.is))
