use Rattle.seat_laws.proofs.FreeSeats.{may_begin}
use Rattle.seat_laws.proofs.laws.free_may_begin.Goals as goal

pub returns : goal.returns
returns c = may_begin
