use Rattle.std.proofs.Common.{Some, None, refl, ◌∙◌}
use Rattle.vm_state.specs.History.{pager}
use Rattle.call_begins.proofs.Heads.{head_there}
use Rattle.modified_writer.proofs.ListedPages.{block_left, held_known, listed_within, row_holds}
use Rattle.modified_writer.proofs.NextWrites.{next_is}
use Rattle.modified_writer.proofs.cluster.next_write.Goals as goal

pub frame-requires-after_bounds : goal.frame-requires-after_bounds
frame-requires-after_bounds g c κs within =
    listed_within c.args.state.now.config c.args.state.now.past c.run_law.ensures.formed c.run_law.ensures.run c.in_ok-f.f.0 (head_there (pager c.args.state.now).modified c.in_ok-f.f c.in_ok-f.ensures)

pub returns-in_err-page : goal.returns-in_err-page
returns-in_err-page g c =
    c.from_residual-in_err-page.ensures
    ∙ next_is c.args.state.now.config (pager c.args.state.now) c.args.last (pager c.args.state.now).modified c.in_ok-f.f None None (head_there (pager c.args.state.now).modified c.in_ok-f.f c.in_ok-f.ensures)
    (row_holds c.args.state.now c.in_ok-f.f.0 c.frame.result None c.frame.ensures c.in_err-page.was) refl

pub block_out-requires-clause-known : goal.block_out-requires-clause-known
block_out-requires-clause-known g c κs within =
    held_known c.args.state.now.config c.args.state.now.past c.run_law.ensures.formed c.run_law.ensures.run c.in_ok-f.f.0 c.in_ok-page.page
    (row_holds c.args.state.now c.in_ok-f.f.0 c.frame.result (Some c.in_ok-page.page) c.frame.ensures c.in_ok-page.was)

pub block_out-requires-clause-room : goal.block_out-requires-clause-room
block_out-requires-clause-room g c κs within =
    block_left c.args.state.now.config c.args.state.now.past c.run_law.ensures.formed c.run_law.ensures.run c.in_ok-f.f.0 c.in_ok-page.page
    (row_holds c.args.state.now c.in_ok-f.f.0 c.frame.result (Some c.in_ok-page.page) c.frame.ensures c.in_ok-page.was)

pub returns-in_err-block : goal.returns-in_err-block
returns-in_err-block g c =
    c.from_residual-in_err-block.ensures
    ∙ next_is c.args.state.now.config (pager c.args.state.now) c.args.last (pager c.args.state.now).modified c.in_ok-f.f (Some c.in_ok-page.page) None (head_there (pager c.args.state.now).modified c.in_ok-f.f c.in_ok-f.ensures)
    (row_holds c.args.state.now c.in_ok-f.f.0 c.frame.result (Some c.in_ok-page.page) c.frame.ensures c.in_ok-page.was) c.in_err-block.ensures

pub returns : goal.returns
returns g c =
    next_is c.args.state.now.config (pager c.args.state.now) c.args.last (pager c.args.state.now).modified c.in_ok-f.f (Some c.in_ok-page.page) (Some c.in_ok-block.block) (head_there (pager c.args.state.now).modified c.in_ok-f.f c.in_ok-f.ensures)
    (row_holds c.args.state.now c.in_ok-f.f.0 c.frame.result (Some c.in_ok-page.page) c.frame.ensures c.in_ok-page.was) c.in_ok-block.ensures
