use Rattle.std.proofs.Common.{sym, ◌∙◌, ap, arith}
use Rattle.std.specs.Prelude.{None, Some}
use Rattle.command_messages.specs.Messages.{message_of}
use Rattle.neqysbar_c.proofs.call.run_line_and_tell.Goals as goal

pub returns-then-status-eq1-clause-message : goal.returns-then-status-eq1-clause-message
returns-then-status-eq1-clause-message c =
    record {
      wrong = None;
      fault = Some c.fault_of-fault.result;
      kept = c.fault_of-fault.new.kept.items;
      says = (λ two. omega (arith, two, c.if-status-eq1.true), λ eight. omega (arith, eight, c.if-status-eq1.true));
      quotes = tt;
      told = λ _. (c.fault_of-fault.ensures.holds, c.fault_of-fault.ensures.quotes);
      is = c.in_ok-message.ensures ∙ ap (message_of None (Some c.fault_of-fault.result) c.fault_of-fault.new.kept.items) (sym c.if-status-eq1.true);
    }
