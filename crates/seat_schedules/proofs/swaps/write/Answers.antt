use Rattle.modified_writer.specs.declared.begun.Begin.TheVariants.{Carry}
use Rattle.pager_policy.specs.WriteCluster.{reason_need}
use Rattle.seat_schedules.proofs.OtherCalls.{write_worked}
use Rattle.seat_laws.proofs.FreeSeats.{may_begin}
use Rattle.seat_schedules.proofs.swaps.write.Goals as goal

pub begin-requires-clause-idle : goal.begin-requires-clause-idle
begin-requires-clause-idle g c κs within = may_begin c.args.state.now c.args.seat c.requires.free

pub returns-in-Carry : goal.returns-in-Carry
returns-in-Carry g c = write_worked c.args.state.now c.begin.new.state c.args.seat reason_need Carry c.args.worker.now c.begin.new.carrier c.requires.free c.requires.worker (c.in-Carry.ensures.gives c.requires.free.room)
