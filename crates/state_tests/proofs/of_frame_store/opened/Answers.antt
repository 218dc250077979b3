use Rattle.std.proofs.Common.{arith}
use Rattle.state_tests.proofs.TestConfig.{opened}
use Rattle.state_tests.proofs.of_frame_store.opened.Goals as goal

pub returns : goal.returns
returns c =
    opened c.in_ok-config.config.frames _ c.in_ok-new.field-0 c.in_ok-blocks.blocks.items c.in_ok-config.ensures.frames c.in_ok-new.ensures.buffers c.in_ok-new.ensures.blocks c.in_ok-blocks.ensures.unused
    (let left = c.in_ok-new.ensures.left in omega (arith, left))
    (let left = c.in_ok-new.ensures.left in let size = c.in_ok-new.ensures.size in let frames = c.in_ok-config.ensures.frames in omega (arith, left, size, frames))
