use Rattle.std.proofs.Common.{sym, ap, ◌∙◌}
use Rattle.vm_types.specs.declared.names.Page.TheVariants.{Shared}
use Rattle.state_pages.specs.PagesShown.{is_waiting}
use Rattle.state_pages.proofs.pages_shown.section_waits.Goals as goal

pub returns-then-is_waiting-clause-some : goal.returns-then-is_waiting-clause-some
returns-then-is_waiting-clause-some c _ =
    record { page = Shared c.args.s c.loop-i.i; waits = ap is_waiting (sym c.at.ensures.value) ∙ (sym c.is_waiting.ensures ∙ c.if-is_waiting.true) }
