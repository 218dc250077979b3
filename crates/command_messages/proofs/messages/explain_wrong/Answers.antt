use Rattle.std.proofs.Common.{◌∙◌, ap, subst, sym}
use Rattle.command_ends.specs.declared.wrong.Wrong.{Wrong}
use Rattle.command_messages.specs.Messages.{IsSaid, wrong_message}
use Rattle.command_messages.proofs.messages.explain_wrong.Goals as goal

pub returns-in-Line : goal.returns-in-Line
returns-in-Line g c =
    let is = c.as_slice.ensures.value ∙ c.fault_message.ensures ∙ sym (ap (λ (wrong : Wrong). wrong_message wrong c.args.text.now.items) c.in-Line.is) in
    subst (IsSaid (g.M.Sink.seen c.args.messages.now) (g.M.Sink.seen c.say.new.messages)) is c.say.ensures

pub returns-in-LogLine : goal.returns-in-LogLine
returns-in-LogLine g c =
    let is = c.as_slice-in-LogLine.ensures.value ∙ c.log_message.ensures ∙ sym (ap (λ (wrong : Wrong). wrong_message wrong c.args.text.now.items) c.in-LogLine.is) in
    subst (IsSaid (g.M.Sink.seen c.args.messages.now) (g.M.Sink.seen c.say-in-LogLine.new.messages)) is c.say-in-LogLine.ensures

pub returns-in-DumpByte : goal.returns-in-DumpByte
returns-in-DumpByte g c =
    let is = c.as_slice-in-DumpByte.ensures.value ∙ c.dump_message.ensures ∙ sym (ap (λ (wrong : Wrong). wrong_message wrong c.args.text.now.items) c.in-DumpByte.is) in
    subst (IsSaid (g.M.Sink.seen c.args.messages.now) (g.M.Sink.seen c.say-in-DumpByte.new.messages)) is c.say-in-DumpByte.ensures
