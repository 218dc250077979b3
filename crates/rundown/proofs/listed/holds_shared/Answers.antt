use Rattle.std.proofs.Common.{◌∙◌, None, Some, ap, sym}
use Rattle.pager_policy.specs.Rundown.{holds_shared}
use Rattle.modified_writer.proofs.ListedPages.{row_holds}
use Rattle.rundown.proofs.listed.holds_shared.Goals as goal

pub returns-in-Shared : goal.returns-in-Shared
returns-in-Shared g c = sym (ap holds_shared (row_holds c.args.state.now (c.args.f).0 c.frame.result (Some c.in-Some.page) c.frame.ensures c.in-Some.is ∙ ap Some c.in-Shared.is))

pub returns-in_default : goal.returns-in_default
returns-in_default g c = sym (ap holds_shared (row_holds c.args.state.now (c.args.f).0 c.frame.result (Some c.in-Some.page) c.frame.ensures c.in-Some.is ∙ ap Some c.in_default.is))

pub returns-in-None : goal.returns-in-None
returns-in-None g c = sym (ap holds_shared (row_holds c.args.state.now (c.args.f).0 c.frame.result None c.frame.ensures c.in-None.is))
