use Rattle.std.proofs.Common.{◌≡◌, ◌-◌, ◌||◌, refl, cond, ap}
use Rattle.std.proofs.lemmas.Bool.{ne_eqb}
use Rattle.vm_types.specs.declared.names.FrameState.TheVariants.{Free, Modified}
use Rattle.pfn_database.specs.declared.row.Row.{Row}
use Rattle.pfn_database.specs.Frames.{row_of}
use Rattle.frame_changes.proofs.RowChanges.{row_again, row_counted, flight_ended}
use Rattle.frame_changes.proofs.writes.end_write.Goals as goal
use Rattle.frame_changes.proofs.writes.end_write.Goals.{then-failed, else-failed}

pub returns-then-row-eq0-clause-rows : goal.returns-then-row-eq0-clause-rows
returns-then-row-eq0-clause-rows c =
    let mark : c.if-failed.mark ≡ (c.args.failed || (row_of c.args.frames.now c.args.f.0).modify) = elim c.if-failed.branch [
      | then-failed w ↦ rw (w.mark-is, w.if-failed.true) refl
      | else-failed w ↦ rw (w.mark-is, w.if-failed.false) (ap (λ (row : Row). row.modify) c.row-row.ensures.row)
    ] in
    let unshared : (row_of c.args.frames.now c.args.f.0).shares ≡ 0 = rw c.row-row.ensures.row at c.if-row-eq0.true in
    let ended = row_again _ _ _ c.args.f.0 _ (λ (row : Row). record row { refs = row.refs - 1; flights = 0 }) c.requires.below c.mark.ensures.rows c.end_flight.ensures.rows in
    let put = row_counted _ _ c.args.f.0 (row_of c.args.frames.now c.args.f.0) _ c.settle.ensures.consistent c.requires.below
    (row_again _ _ _ c.args.f.0 _ (λ (row : Row). record row { state = cond row.modify Modified Free; slot = 0 }) c.requires.below ended c.settle.ensures.rows)
    (flight_ended (row_of c.args.frames.now c.args.f.0) c.requires.flights) in
    rw (← mark, unshared) (rw unshared at put)

pub returns-else-row-eq0-clause-rows : goal.returns-else-row-eq0-clause-rows
returns-else-row-eq0-clause-rows c =
    let mark : c.if-failed.mark ≡ (c.args.failed || (row_of c.args.frames.now c.args.f.0).modify) = elim c.if-failed.branch [
      | then-failed w ↦ rw (w.mark-is, w.if-failed.true) refl
      | else-failed w ↦ rw (w.mark-is, w.if-failed.false) (ap (λ (row : Row). row.modify) c.row-row.ensures.row)
    ] in
    let shared = ne_eqb (row_of c.args.frames.now c.args.f.0).shares 0 (rw c.row-row.ensures.row at c.if-row-eq0.false) in
    let put = row_counted _ _ c.args.f.0 (row_of c.args.frames.now c.args.f.0) _ c.end_flight.ensures.consistent c.requires.below
    (row_again _ _ _ c.args.f.0 _ (λ (row : Row). record row { refs = row.refs - 1; flights = 0 }) c.requires.below c.mark.ensures.rows c.end_flight.ensures.rows)
    (flight_ended (row_of c.args.frames.now c.args.f.0) c.requires.flights) in
    rw (← mark, shared) (rw shared at put)
