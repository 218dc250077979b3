use Rattle.std.proofs.Common.{Err, ap, inl, inr, refl}
use Rattle.pager_policy.specs.Serial.{IsSerial}
use Rattle.run_words.specs.Text.{run_text, status_line}
use Rattle.run_text.specs.Parts.{run_status}
use Rattle.run_commands.proofs.Finishing.{are_parts, finished_run, is_reported, run_outcome}
use Rattle.run_commands.proofs.serial_call.run_config.Goals as goal

pub print_run-requires : goal.print_run-requires
print_run-requires g c =
    is_reported IsSerial g.D.Block.Block.tells
    c.args.config c.in-Ok.ensures.finished.0 c.in-Ok.finished c.deref.result.now c.deref-in-Ok.result.now c.requires.formed c.in-Ok.ensures.finished.2 c.deref.ensures.value c.deref-in-Ok.ensures.value

pub returns-in-Ok-clause-outcome : goal.returns-in-Ok-clause-outcome
returns-in-Ok-clause-outcome g c =
    let ended = c.in-Ok.ensures.finished.2 in
    let status = run_status c.deref-in-Ok.result.now in
    let parts =
    are_parts IsSerial g.D.Block.Block.tells
    c.args.config c.in-Ok.ensures.finished.0 c.in-Ok.finished c.deref.result.now c.deref-in-Ok.result.now c.requires.formed c.in-Ok.ensures.finished.2 c.deref.ensures.value c.deref-in-Ok.ensures.value in
    inl (record {
      status = status;
      text = run_text c.in-Ok.finished.config ended.past ended.rest status;
      outcome = run_outcome c.deref-in-Ok.result.now;
      answers = inl (finished_run IsSerial g.D.Block.Block.tells
          c.args.config c.in-Ok.ensures.finished.0 c.in-Ok.finished c.deref.result.now c.deref-in-Ok.result.now c.requires.formed c.in-Ok.ensures.finished.2 c.deref.ensures.value c.deref-in-Ok.ensures.value
          (g.D.Depot.seen c.args.depot.now) (g.D.Depot.seen c.run_serial.new.depot) (g.met.D.Depot.known c.args.depot.now)
          c.in-Ok.ensures.finished.1 c.runs_are_sound.ensures c.whole_serial_is_caused.ensures);
      ends = c.print_run.ensures ended.past ended.rest parts;
    })

pub returns-in-Err-DepotFault-clause-outcome : goal.returns-in-Err-DepotFault-clause-outcome
returns-in-Err-DepotFault-clause-outcome g c =
    inl (record {
      status = 6;
      text = status_line 6;
      outcome = inr (inr refl);
      answers = inr (record { ending = refl; lines = refl; failed = c.in-Err-DepotFault.ensures.failed (ap Err c.in-Err-DepotFault.field-0-is) });
      ends = c.end_with-in-Err-DepotFault.ensures;
    })
