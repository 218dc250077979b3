use Rattle.std.specs.Prelude.{codes}
use Rattle.command_messages.specs.LineWords.{line_number}
use Rattle.command_messages.proofs.Adding.{adds_for}
use Rattle.command_messages.proofs.bounds.push_quota.Goals as goal

pub returns : goal.returns
returns c =
    adds_for c.args.out.now.items c.push_has_to_be.new.out.items (codes "the quota") (codes "at least the limit") c.line_number-quota.result (line_number 4 c.args.text.now)
    c.from.result c.args.n c.line_number-quota.ensures c.from.ensures c.push_has_to_be.ensures
