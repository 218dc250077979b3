use Rattle.std.proofs.Common.{◌∙◌, sym, ap}
use Rattle.pager_policy.specs.Serve.{served_with}
use Rattle.vm_state.specs.Answering.{answer_in}
use Rattle.vm_state.specs.History.{pager}
use Rattle.vm_services.proofs.AtOnce.{at_once}
use Rattle.vm_services.proofs.Steps.{answered, may_answer}
use Rattle.vm_services.proofs.server.resident.Goals as goal

pub served-requires-after_bounds : goal.served-requires-after_bounds
served-requires-after_bounds g c κs within =
    may_answer c.args.state.now c.args.seat c.args.s (answer_in c.args.state.now.config (pager c.args.state.now) (c.args.seat).0 c.args.s) _ (at_once c.args.state.now c.args.seat c.args.s c.in-Create.is) c.requires.may

pub returns-in-Create : goal.returns-in-Create
returns-in-Create g c =
    answered c.args.state.now c.served.new.self c.args.seat c.args.s c.served.result _
    (at_once c.args.state.now c.args.seat c.args.s c.in-Create.is ∙ ap (served_with c.args.s) (sym c.served.ensures.answer)) c.served.ensures.entry
