use Rattle.std.proofs.Common.{[]}
use Rattle.state_tests.specs.TestStore.{great_section}
use Rattle.state_tests.proofs.TestRows.{item_more}
use Rattle.state_tests.proofs.of_frame_store.sections.Goals as goal

pub loop-number-preserved : goal.loop-number-preserved
loop-number-preserved c =
    item_more great_section [] c.loop-number.sections.items c.push.new.self.items c.loop-number.number c.in_ok-section.field-0 c.loop-number.invariant c.in_ok-section.ensures c.in_ok-push.ensures.items
