use Rattle.std.proofs.Common.{◌∙◌, sym}
use Rattle.shadow_pager.specs.Shown.{shown}
use Rattle.log_rundown.specs.Places.{seen_as}
use Rattle.log_rundown.proofs.Choices.{evicts, goes_later, none_seen, writes_first}
use Rattle.log_rundown.proofs.moves.choose_at.Goals as goal

pub returns-then-not-is_stopped : goal.returns-then-not-is_stopped
returns-then-not-is_stopped c =
    λ later. evicts c.args.past.now.config c.args.past.now.past (shown c.args.pager.now).pager ((c.args.at).process).0 (c.args.at).slot c.args.failed later
    (seen_as c.in-Some.seen) c.in-Some.ensures c.goes_to-to.result c.goes_to-to.ensures (sym c.is_stopped.ensures ∙ c.if-not-is_stopped.true)

pub returns-then-failed : goal.returns-then-failed
returns-then-failed c =
    λ later. goes_later c.args.past.now.config c.args.past.now.past (shown c.args.pager.now).pager ((c.args.at).process).0 (c.args.at).slot c.args.failed later
    (seen_as c.in-Some.seen) c.in-Some.ensures (sym c.is_stopped.ensures ∙ c.if-not-is_stopped.false) c.if-failed.true

pub returns-else-failed : goal.returns-else-failed
returns-else-failed c =
    λ later. writes_first c.args.past.now.config c.args.past.now.past (shown c.args.pager.now).pager ((c.args.at).process).0 (c.args.at).slot c.args.failed later
    (seen_as c.in-Some.seen) c.in-Some.ensures (sym c.is_stopped.ensures ∙ c.if-not-is_stopped.false) c.if-failed.false

pub returns-in-None : goal.returns-in-None
returns-in-None c =
    λ later. none_seen c.args.past.now.config c.args.past.now.past (shown c.args.pager.now).pager ((c.args.at).process).0 (c.args.at).slot c.args.failed later c.in-None.ensures
