use Rattle.std.proofs.Common.{ap, sym, ◌∙◌}
use Rattle.vm_types.specs.declared.names.Seat.{Seat}
use Rattle.call_begins.specs.MayBegin.{empty}
use Rattle.rundown.proofs.WrittenOnce.{cluster_counted, cluster_loaded, cluster_written, has_room, may_begin}
use Rattle.rundown.proofs.clusters.write_one_cluster.Goals as goal

pub begin-requires-clause-idle : goal.begin-requires-clause-idle
begin-requires-clause-idle g c κs within = may_begin c.args.state.now c.writer-seat.result c.writer-seat.ensures c.requires.steady

pub begin-requires-clause-carrier : goal.begin-requires-clause-carrier
begin-requires-clause-carrier g c κs within = c.requires.carrier ∙ ap (λ (x : Seat). empty x) (sym c.writer-seat.ensures)

pub land_writes-all_failed-requires-after_bounds : goal.land_writes-all_failed-requires-after_bounds
land_writes-all_failed-requires-after_bounds g c κs within =
    cluster_loaded c.args.state.now c.begin.new.state c.writer-seat.result c.begin.result c.args.carrier.now c.begin.new.carrier c.requires.steady
    (c.requires.carrier ∙ ap (λ (x : Seat). empty x) (sym c.writer-seat.ensures)) (c.begin.ensures.gives (has_room c.args.state.now c.requires.steady))

pub returns-clause-carrier : goal.returns-clause-carrier
returns-clause-carrier g c = c.land_writes-all_failed.ensures.carrier ∙ sym (c.requires.carrier ∙ ap (λ (x : Seat). empty x) (sym c.writer-seat.ensures))

pub returns-clause-writes : goal.returns-clause-writes
returns-clause-writes g c =
    cluster_counted c.args.state.now c.begin.new.state c.writer-seat.result c.begin.result c.args.carrier.now c.begin.new.carrier c.requires.steady
    (c.requires.carrier ∙ ap (λ (x : Seat). empty x) (sym c.writer-seat.ensures)) (c.begin.ensures.gives (has_room c.args.state.now c.requires.steady)) c.len-writes.result c.len-writes.ensures.count

pub returns-clause-written : goal.returns-clause-written
returns-clause-written g c =
    cluster_written c.args.state.now c.begin.new.state c.writer-seat.result c.begin.result c.args.carrier.now c.begin.new.carrier c.requires.steady
    (c.requires.carrier ∙ ap (λ (x : Seat). empty x) (sym c.writer-seat.ensures)) (c.begin.ensures.gives (has_room c.args.state.now c.requires.steady)) c.land_writes-all_failed.new.state c.land_writes-all_failed.result
    c.writer-seat.ensures c.land_writes-all_failed.ensures.landed
