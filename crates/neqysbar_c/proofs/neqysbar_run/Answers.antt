use Rattle.std.proofs.Common.{◌∙◌, ap, length, refl}
use Rattle.neqysbar_c.specs.Call.{filled, no_memory, ran}
use Rattle.neqysbar_c.proofs.neqysbar_run.Goals as goal

pub returns-in-Ok-clause-run : goal.returns-in-Ok-clause-run
returns-in-Ok-clause-run c =
    ran _ c.in-Ok.text.items c.in-Ok.ensures.run (c.fill.ensures.filled ∙ ap (filled c.args.output.now) c.as_slice.ensures.value)
    (c.fill.ensures.number ∙ ap length c.as_slice.ensures.value)

pub returns-in-Err-clause-run : goal.returns-in-Err-clause-run
returns-in-Err-clause-run c = no_memory refl refl
