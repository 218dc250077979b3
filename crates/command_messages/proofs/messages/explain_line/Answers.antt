use Rattle.std.proofs.Common.{Option, sym, subst}
use Rattle.command_messages.specs.Messages.{IsSaid, line_message}
use Rattle.command_messages.specs.declared.faults.LineFault.{LineFault}
use Rattle.command_messages.proofs.messages.explain_line.Goals as goal

pub returns-in-None : goal.returns-in-None
returns-in-None g c =
    subst (λ (line : Option LineFault). IsSaid (g.M.Sink.seen c.args.messages.now) (g.M.Sink.seen c.say-in-None.new.messages) (line_message line c.args.text.now.items)) (sym c.in-None.is) c.say-in-None.ensures
