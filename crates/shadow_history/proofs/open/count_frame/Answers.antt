use Rattle.std.proofs.Common.{rules}
use Rattle.shadow_history.proofs.Frames.{on_frame_counts}
use Rattle.shadow_history.proofs.open.count_frame.Goals as goal

pub returns : goal.returns
returns c = rw (← on_frame_counts c.args.f.0 c.args.flights.now) (search rules)
