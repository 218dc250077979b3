use Rattle.std.proofs.Common.{ℕ, ◌++◌, ◌∙◌, ap, inl, reverse, sym}
use Rattle.std.proofs.lemmas.List.{length-reverse}
use Rattle.run_words.specs.Text.{status_line}
use Rattle.run_text.specs.Parts.{run_status}
use Rattle.trace_maker.specs.Made.{made_config}
use Rattle.run_commands.specs.MakeText.{make_lines}
use Rattle.run_commands.proofs.Finishing.{run_outcome}
use Rattle.run_commands.proofs.Making.{counted_run}
use Rattle.run_commands.proofs.make_call.run_made.Goals as goal

pub returns-in-Ok-count_serial-clause-outcome : goal.returns-in-Ok-count_serial-clause-outcome
returns-in-Ok-count_serial-clause-outcome g c =
    let make = c.args.make in
    let run = c.in-Ok-count_serial.run' in
    let ended = c.in-Ok-count_serial.ensures.counted.2 in
    let entries = reverse (ended.rest ++ ended.past) in
    let status = run_status run.dirty.items in
    let is = c.in-Ok.ensures.made ∙ ap (λ (seed : ℕ). made_config seed make.procs make.refs) c.from.ensures in
    inl (record {
      status = status;
      text = make_lines make entries ++ status_line status;
      outcome = run_outcome run.dirty.items;
      answers = inl (counted_run g.D.Block.Block.tells make c.in-Ok.config is c.in-Ok-count_serial.ensures.counted.0 run c.in-Ok.ensures.well_formed ended
          (g.D.Depot.seen c.args.depot.now) (g.D.Depot.seen c.count_serial.new.depot) (g.met.D.Depot.known c.args.depot.now)
          c.in-Ok-count_serial.ensures.counted.1 c.runs_are_sound.ensures c.whole_serial_is_caused.ensures);
      ends = c.end_made.ensures entries (ended.all ∙ sym (length-reverse (ended.rest ++ ended.past))) ended.kinds;
    })
