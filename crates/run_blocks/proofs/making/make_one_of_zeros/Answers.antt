use Rattle.std.proofs.Common.{replicate}
use Rattle.vm_types.specs.declared.limits.TheConstants.{PAGE_BYTES}
use Rattle.run_blocks.proofs.Added.{added_one}
use Rattle.run_blocks.proofs.making.make_one_of_zeros.Goals as goal
use Rattle.run_blocks.proofs.making.make_one_of_zeros.Goals.{in-Ok, in-Err}

pub returns-clause-adds : goal.returns-clause-adds
returns-clause-adds g c =
    elim c.match-push.branch [
      | in-Ok w ↦ rw (w.result-is, w.in-Ok.ensures.items)
          (added_one g.D.Block.Block.seen g.D.Block.Block.tells c.args.config.now c.args.id c.in_ok-block.block (replicate PAGE_BYTES 0) c.planned_calls.result.now c.args.blocks.now.items
          (record {
            content_is = c.in_ok-block.ensures.content;
            plan_is = c.in_ok-block.ensures.plan;
            unread = c.in_ok-block.ensures.reads;
            unwritten = c.in_ok-block.ensures.writes;
            sound = c.in_ok-block.ensures.faults;
          })
          c.planned_calls.ensures c.requires)
      | in-Err w ↦ rw w.result-is tt
    ]
