use Rattle.std.proofs.Common.{[], inl, refl, subst}
use Rattle.std.proofs.lemmas.List.{append-nil}
use Rattle.dump_bytes.specs.Dumped.{dumped}
use Rattle.dump_bytes.specs.Text.{dump_text}
use Rattle.command_ends.specs.Ends.{Ends}
use Rattle.command_ends.proofs.Ending.{ends_cut}
use Rattle.run_commands.proofs.dump_call.end_dump.Goals as goal

pub returns-in-Ok : goal.returns-in-Ok
returns-in-Ok g c =
    let w = c.in-Ok.ensures in
    record { how = inl (refl, w.bytes, w.failures, w.stalls); known = w.known; failures_later = w.failures_later; stalls_later = w.stalls_later }

pub returns-in-Err : goal.returns-in-Err
returns-in-Err g c =
    subst (λ text. Ends (g.K.Sink.seen c.args.sink.now) (g.K.Sink.seen c.write_dump.new.sink) 0 text 4) (append-nil (dump_text (dumped c.args.dump.now))) (ends_cut [] 0 c.in-Err.ensures)
