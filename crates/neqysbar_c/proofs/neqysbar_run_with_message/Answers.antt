use Rattle.std.proofs.Common.{◌∙◌, ap, length, refl}
use Rattle.neqysbar_c.specs.Call.{filled}
use Rattle.neqysbar_c.specs.Message.{no_memory, ran}
use Rattle.neqysbar_c.proofs.neqysbar_run_with_message.Goals as goal

pub returns-in-Ok-clause-run : goal.returns-in-Ok-clause-run
returns-in-Ok-clause-run c =
    let text = c.fill.ensures.number ∙ ap length c.as_slice.ensures.value in
    let said = c.fill-in-Ok.ensures.number ∙ ap length c.as_slice-in-Ok.ensures.value in
    ran _ c.in-Ok.text.items c.in-Ok.said.items c.in-Ok.ensures.run c.in-Ok.ensures.message
    (c.fill.ensures.filled ∙ ap (filled c.args.output.now) c.as_slice.ensures.value) (c.fill-in-Ok.ensures.filled ∙ ap (filled c.args.message.now) c.as_slice-in-Ok.ensures.value)
    (λ i. (text i, said i))

pub returns-in-Err-clause-run : goal.returns-in-Err-clause-run
returns-in-Err-clause-run c = no_memory refl refl refl
