use Rattle.seat_laws.proofs.Refusable.{reads_lost}
use Rattle.seat_laws.proofs.laws.failed_reads_are_lost.Goals as goal

pub returns : goal.returns
returns c = reads_lost
