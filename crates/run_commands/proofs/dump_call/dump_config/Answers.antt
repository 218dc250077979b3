use Rattle.std.proofs.Common.{Err, ap, inl, inr, refl}
use Rattle.vm_types.specs.Moved.{moved}
use Rattle.run_words.specs.Text.{status_line}
use Rattle.dump_bytes.specs.Dumped.{dumped}
use Rattle.dump_bytes.specs.Text.{dump_text}
use Rattle.run_commands.proofs.Dumping.{dumped_run}
use Rattle.run_commands.proofs.dump_call.dump_config.Goals as goal

pub returns-in-Ok-clause-outcome : goal.returns-in-Ok-clause-outcome
returns-in-Ok-clause-outcome g c =
    let run = c.in-Ok.ensures.run in
    inl (record {
      status = 0;
      text = dump_text (dumped c.in-Ok.dump);
      outcome = inl refl;
      answers = inl (dumped_run (moved (g.D.Depot.seen c.args.depot.now) (g.D.Depot.seen c.dumped_run.new.depot)) c.args.config (dumped c.in-Ok.dump) run.0 c.requires.formed run.1 run.2 c.dumps_of_runs_are_sound.ensures);
      ends = c.end_dump.ensures;
    })

pub returns-in-Err-DepotFault-clause-outcome : goal.returns-in-Err-DepotFault-clause-outcome
returns-in-Err-DepotFault-clause-outcome g c =
    inl (record {
      status = 6;
      text = status_line 6;
      outcome = inr (inr refl);
      answers = inr (record { ending = refl; lines = refl; failed = c.in-Err-DepotFault.ensures.failed (ap Err c.in-Err-DepotFault.field-0-is) });
      ends = c.end_with-in-Err-DepotFault.ensures;
    })
