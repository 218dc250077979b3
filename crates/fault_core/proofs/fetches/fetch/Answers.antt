use Rattle.std.proofs.Common.{refl, sym, ◌∙◌}
use Rattle.pager_policy.specs.Advance.{again_block_busy, again_no_frame}
use Rattle.vm_state.specs.History.{pager}
use Rattle.call_begins.proofs.Heads.{head_there, some_free}
use Rattle.fault_core.proofs.Comes.{no_frame, source_is, source_real}
use Rattle.fault_core.proofs.Firsts.{busy, still}
use Rattle.fault_core.proofs.Steps.{waits}
use Rattle.fault_core.proofs.fetches.fetch.Goals as goal

pub is_busy_block-requires-after_bounds : goal.is_busy_block-requires-after_bounds
is_busy_block-requires-after_bounds g c κs within b is =
    source_real c.args.state.now c.args.x c.requires.seeks.sought c.requires.seeks.refers.ready b (sym (source_is c.args.state.now c.args.x c.requires.seeks.sought c.source-block.result c.source-block.ensures) ∙ is)

pub returns-then-is_busy_block : goal.returns-then-is_busy_block
returns-then-is_busy_block g c =
    waits c.args.state.now (c.args.x).seat (c.args.x).r again_block_busy _ _ (busy c.args.state.now c.args.x c.source-block.result (source_is c.args.state.now c.args.x c.requires.seeks.sought c.source-block.result c.source-block.ensures) (sym c.is_busy_block.ensures ∙ c.if-is_busy_block.true))

pub zero-requires-clause-head : goal.zero-requires-clause-head
zero-requires-clause-head g c κs within = head_there (pager c.args.state.now).free c.in-Some.f c.in-Some.ensures

pub read_in-requires-clause-free : goal.read_in-requires-clause-free
read_in-requires-clause-free g c κs within = some_free (pager c.args.state.now).free (c.in-Some.f).0 (head_there (pager c.args.state.now).free c.in-Some.f c.in-Some.ensures)

pub read_in-requires-clause-exists : goal.read_in-requires-clause-exists
read_in-requires-clause-exists g c κs within =
    source_real c.args.state.now c.args.x c.requires.seeks.sought c.requires.seeks.refers.ready c.in-Some-block.b
    (sym (source_is c.args.state.now c.args.x c.requires.seeks.sought c.source-block.result c.source-block.ensures) ∙ c.in-Some-block.is)

pub returns-in-None : goal.returns-in-None
returns-in-None g c =
    waits c.args.state.now (c.args.x).seat (c.args.x).r again_no_frame _ _
    (still c.args.state.now c.args.x c.source-block.result c.source-block.result (source_is c.args.state.now c.args.x c.requires.seeks.sought c.source-block.result c.source-block.ensures) (sym c.is_busy_block.ensures ∙ c.if-is_busy_block.false) refl
    ∙ no_frame c.args.state.now c.args.x c.source-block.result c.in-None.ensures)
