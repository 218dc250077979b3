use Rattle.std.proofs.Common.{◌↔◌, IsNone, subst, sym}
use Rattle.vm_types.specs.declared.config.Config.{Config}
use Rattle.vm_journal.specs.declared.entry.What.{What}
use Rattle.pager_model.specs.Step.{IsLegalWhat}
use Rattle.pager_model.specs.Zero.{IsZero}
use Rattle.shadow_pager.specs.Shown.{shown}
use Rattle.log_check.proofs.step.what_fails.Goals as goal

pub returns-in-Zero-clause-legal : goal.returns-in-Zero-clause-legal
returns-in-Zero-clause-legal c =
    let a = (shown c.args.pager.now).pager in
    subst (λ (w : What). IsNone c.zero_fails.result ↔ IsLegalWhat c.args.past.now.config c.args.past.now.past a c.args.seat.0 w) (sym c.in-Zero.is)
    (subst (λ (k : Config). IsNone c.zero_fails.result ↔ IsZero k a c.args.seat.0 c.in-Zero.a.0 c.in-Zero.f.0) c.config-config.ensures c.zero_fails.ensures.legal)
