use Rattle.std.proofs.Common.{◌∙◌}
use Rattle.vm_state.specs.History.{pager}
use Rattle.vm_state.specs.PageReadings.{frame_of}
use Rattle.state_pages.specs.Shown.{frame_number}
use Rattle.vm_services.proofs.RangeTests.{valid_if}
use Rattle.vm_services.proofs.ranges.is_valid_at.Goals as goal

pub returns : goal.returns
returns g c = c.is_some.ensures ∙ valid_if (pager c.args.state.now) (c.args.p).0 c.args.vpn frame_number frame_of c.valid_frame.result c.valid_frame.ensures
