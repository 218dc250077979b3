use Rattle.std.proofs.Common.{true, sym, subst}
use Rattle.vm_journal.specs.declared.entry.What.{What}
use Rattle.shadow_pager.specs.Shown.{shown}
use Rattle.log_check.specs.Replies.{ShowsAsFlat}
use Rattle.log_check.proofs.replies.other_reply.Goals as goal

pub returns-in-Served-clause-shows : goal.returns-in-Served-clause-shows
returns-in-Served-clause-shows c = subst (λ (w : What). ShowsAsFlat c.args.config.now (shown c.args.pager.now).pager c.args.bytes.now c.serves.new.bytes (c.args.e.seat).0 w true) (sym c.in-Served.is) c.serves.ensures
