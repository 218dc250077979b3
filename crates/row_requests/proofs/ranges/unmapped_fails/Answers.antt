use Rattle.std.proofs.Common.{refl}
use Rattle.shadow_pager.specs.Shown.{shown}
use Rattle.row_requests.proofs.MappedRanges.{none_in_use}
use Rattle.row_requests.proofs.ranges.unmapped_fails.Goals as goal

pub returns-in-None-clause-legal : goal.returns-in-None-clause-legal
returns-in-None-clause-legal c = (
  λ t. none_in_use c.args.config.now (shown c.args.pager.now).pager c.args.range.process.0 c.args.range.at.0 c.args.range.pages (c.in-None.ensures.none refl),
  λ all. refl,
)
