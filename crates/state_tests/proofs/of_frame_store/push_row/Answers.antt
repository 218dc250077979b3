use Rattle.state_tests.specs.TestStore.{in_row}
use Rattle.state_tests.proofs.TestRows.{item_more}
use Rattle.state_tests.proofs.of_frame_store.push_row.Goals as goal

pub loop-number-preserved : goal.loop-number-preserved
loop-number-preserved c =
    item_more (in_row c.args.row) c.args.ids.now.items c.loop-number.ids.items c.push.new.self.items c.loop-number.number c.in_row.result c.loop-number.invariant c.in_row.ensures c.in_ok-push.ensures.items
