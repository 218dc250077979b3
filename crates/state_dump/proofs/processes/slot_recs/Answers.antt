use Rattle.std.proofs.Common.{◌∙◌, List, [], ◌∷◌, ◌++◌, ap, map, sym, take_all, arith}
use Rattle.std.specs.Prelude.{slice_get}
use Rattle.pager_model.specs.Lookups.{slot_of}
use Rattle.vm_state.specs.History.{pager}
use Rattle.dump_bytes.specs.declared.dump.SlotRec.{SlotRec}
use Rattle.dump_laws.specs.DumpAfter.{dumped_slot}
use Rattle.state_dump.proofs.SlotsShown.{one_slot_more}
use Rattle.state_dump.proofs.processes.slot_recs.Goals as goal

pub loop-n-preserved : goal.loop-n-preserved
loop-n-preserved g c =
    let slots = ((pager c.args.state.now).ring (c.args.p).0).slots in
    let less = c.loop-n-test.true in
    let count = c.requires.slots in
    c.in_ok-push.ensures.items
    ∙ (ap (λ (x : SlotRec). c.loop-n.recs.items ++ x ∷ []) c.slot_rec.ensures
    ∙ (ap (λ (xs : List SlotRec). xs ++ dumped_slot (slot_of (slice_get slots c.loop-n.n)) ∷ []) c.loop-n.invariant ∙ sym (one_slot_more slots c.loop-n.n (omega (arith, less, count)))))

pub returns : goal.returns
returns g c =
    let slots = ((pager c.args.state.now).ring (c.args.p).0).slots in
    let last = c.loop-n-test.false in
    let count = c.requires.slots in
    c.loop-n.invariant ∙ ap (map dumped_slot) (take_all c.loop-n.n slots (omega (arith, last, count)))
