use Rattle.std.proofs.Common.{ℕ, ◌*◌, List, length, map, take_all, refl, sym, ap, subst, arith}
use Rattle.vm_types.specs.declared.limits.TheConstants.{MOST_EXTENT}
use Rattle.dump_bytes.specs.declared.dump.ProcRec.{ProcRec}
use Rattle.dump_bytes.specs.Bounds.{IsProcess}
use Rattle.dump_bytes.specs.Dumped.{process_of}
use Rattle.dump_lines.specs.Pins.{pins_in}
use Rattle.dump_lines.specs.Tallies.{shares_in}
use Rattle.dump_lines.proofs.DumpBounds.{process_at}
use Rattle.dump_lines.proofs.Raising.{raised_as, raised_more, raised_none, room_left}
use Rattle.dump_lines.proofs.Tallying.{few_pins, few_shares, pins_more, shares_more}
use Rattle.dump_lines.proofs.recounting.count_processes.Goals as goal

pub loop-proc-init : goal.loop-proc-init
loop-proc-init c = record { shares = raised_none _ _ (λ f. refl); uses = raised_none _ _ (λ f. refl) }

pub count_process-requires-clause-bounds : goal.count_process-requires-clause-bounds
count_process-requires-clause-bounds c =
    let at = process_at (length c.args.shares.now) c.args.procs.now c.requires.bounds c.loop-proc.proc-index c.proc-item.result c.loop-proc-test.true in
    subst (λ (n : ℕ). IsProcess n (process_of c.proc-item.result)) (sym c.loop-proc.invariant.shares.size)
    (subst (λ (p : ProcRec). IsProcess (length c.args.shares.now) (process_of p)) (sym c.proc-item.is) at)

pub count_process-requires-clause-room : goal.count_process-requires-clause-room
count_process-requires-clause-room c =
    let within = c.loop-proc-test.true in
    room_left (MOST_EXTENT * length c.args.procs.now) MOST_EXTENT _ _ _ c.requires.room c.loop-proc.invariant.shares
    (λ f. let few = few_shares _ c.args.procs.now c.loop-proc.proc-index c.requires.bounds f in omega arith)

pub count_process-requires-clause-room_for_uses : goal.count_process-requires-clause-room_for_uses
count_process-requires-clause-room_for_uses c =
    let within = c.loop-proc-test.true in
    room_left (MOST_EXTENT * length c.args.procs.now) MOST_EXTENT _ _ _ c.requires.room_for_uses c.loop-proc.invariant.uses
    (λ f. let few = few_pins _ c.args.procs.now c.loop-proc.proc-index c.requires.bounds f in omega arith)

pub loop-proc-preserved : goal.loop-proc-preserved
loop-proc-preserved c = record {
  shares = raised_more _ _ _ _ _ _ c.loop-proc.invariant.shares c.count_process.ensures.shares (shares_more c.args.procs.now c.loop-proc.proc-index _ c.loop-proc-test.true c.proc-item.is);
  uses = raised_more _ _ _ _ _ _ c.loop-proc.invariant.uses c.count_process.ensures.uses (pins_more c.args.procs.now c.loop-proc.proc-index _ c.loop-proc-test.true c.proc-item.is);
}

pub returns-clause-shares : goal.returns-clause-shares
returns-clause-shares c =
    raised_as _ _ _ _ c.loop-proc.invariant.shares (λ f. ap (λ (ps : List ProcRec). shares_in (map process_of ps) f) (sym (take_all c.loop-proc.proc-index c.args.procs.now c.loop-proc-test.false)))

pub returns-clause-uses : goal.returns-clause-uses
returns-clause-uses c =
    raised_as _ _ _ _ c.loop-proc.invariant.uses (λ f. ap (λ (ps : List ProcRec). pins_in (map process_of ps) f) (sym (take_all c.loop-proc.proc-index c.args.procs.now c.loop-proc-test.false)))
