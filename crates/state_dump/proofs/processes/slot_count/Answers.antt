use Rattle.std.proofs.Common.{◌∙◌, ap}
use Rattle.vm_types.specs.declared.config.Config.{Config}
use Rattle.vm_types.specs.declared.config.ProcSpec.{ProcSpec}
use Rattle.pager_model.specs.Around.{past_view}
use Rattle.pager_laws.proofs.RunsAreSound.{run_kept}
use Rattle.vm_state.specs.History.{pager}
use Rattle.state_dump.proofs.SlotsShown.{extent_is}
use Rattle.state_dump.proofs.processes.slot_count.Goals as goal

abbrev none : ProcSpec
none = record { limit = 0; quota = 0; extent = 0; locks = 0 }

pub returns : goal.returns
returns g c =
    let law = c.run_law.ensures in
    let s = c.args.state.now in
    extent_is s.config (past_view s.past) (pager s) (run_kept s.config s.past law.formed law.run) (c.args.p).0 c.items.result.now none (c.items.ensures ∙ ap (λ (x : Config). x.procs) c.config.ensures) c.requires
