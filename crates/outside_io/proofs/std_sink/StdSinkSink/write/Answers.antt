use Rattle.outside_io.proofs.Handing.{known_alike}
use Rattle.outside_io.proofs.std_sink.StdSinkSink.write.Goals as goal

pub returns-in_err-empty_buffer-clause-known : goal.returns-in_err-empty_buffer-clause-known
returns-in_err-empty_buffer-clause-known g c =
    known_alike _ _ _ _ (g.met.W.SteadyWrite.steady c.empty_buffer.new.self.writer c.args.self.now.writer)

pub returns-clause-known : goal.returns-clause-known
returns-clause-known g c =
    known_alike _ _ _ _ (g.met.W.SteadyWrite.steady c.keep.new.self.writer c.args.self.now.writer)
