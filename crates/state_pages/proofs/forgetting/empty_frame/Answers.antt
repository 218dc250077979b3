use Rattle.std.proofs.Common.{ap}
use Rattle.state_fits.specs.Forgetting.{frame_in_transition}
use Rattle.state_pages.proofs.forgetting.empty_frame.Goals as goal

pub empty_to_head-requires-clause-below : goal.empty_to_head-requires-clause-below
empty_to_head-requires-clause-below c = c.requires.below c.in-Transition.f.0 (ap frame_in_transition c.in-Transition.is)
