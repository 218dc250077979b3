use Rattle.std.proofs.Common.{◌∙◌, ap}
use Rattle.pager_model.specs.Around.{past_view}
use Rattle.pager_laws.proofs.RunsAreSound.{run_kept}
use Rattle.vm_state.specs.History.{pager}
use Rattle.state_dump.proofs.SlotsShown.{read_slot, slot_shown}
use Rattle.state_dump.proofs.processes.slot_rec.Goals as goal

pub returns-in-Some : goal.returns-in-Some
returns-in-Some g c =
    let law = c.run_law.ensures in
    ap read_slot c.in-Some.ensures
    ∙ slot_shown c.args.state.now.config (past_view c.args.state.now.past) (pager c.args.state.now) (run_kept c.args.state.now.config c.args.state.now.past law.formed law.run) (c.args.p).0 c.args.n

pub returns-in-None : goal.returns-in-None
returns-in-None g c =
    let law = c.run_law.ensures in
    ap read_slot c.in-None.ensures
    ∙ slot_shown c.args.state.now.config (past_view c.args.state.now.past) (pager c.args.state.now) (run_kept c.args.state.now.config c.args.state.now.past law.formed law.run) (c.args.p).0 c.args.n
