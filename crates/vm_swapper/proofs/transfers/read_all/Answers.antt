use Rattle.std.proofs.Common.{◌+◌, arith, drop, get_or}
use Rattle.vm_swapper.proofs.RunTransfers.{all_are_read, all_reads, lifts_read, may_read, reading_end, reading_next, reading_now}
use Rattle.vm_swapper.proofs.transfers.read_all.Goals as goal

pub read_one-requires-clause-may : goal.read_one-requires-clause-may
read_one-requires-clause-may g c κs within =
    may_read c.args.state.now (c.args.run).seat ((c.args.run).p).0 (all_reads c.args.state.now ((c.args.run).p).0 (c.args.run).slot c.args.addresses.now) (get_or c.args.addresses.now c.loop-a.a-index 0) (drop (c.loop-a.a-index + 1) c.args.addresses.now)
    c.loop-a.slot c.loop-a.a-index c.loop-a.state c.loop-a.carrier
    (reading_now c.args.state.now (c.args.run).seat ((c.args.run).p).0 (all_reads c.args.state.now ((c.args.run).p).0 (c.args.run).slot c.args.addresses.now) c.args.addresses.now c.loop-a.slot c.loop-a.a-index c.loop-a.state c.loop-a.carrier
    c.loop-a.invariant.reading c.loop-a-test.true)

pub loop-a-preserved : goal.loop-a-preserved
loop-a-preserved g c = record {
  reading =
      reading_next c.args.state.now (c.args.run).seat ((c.args.run).p).0 (all_reads c.args.state.now ((c.args.run).p).0 (c.args.run).slot c.args.addresses.now) (get_or c.args.addresses.now c.loop-a.a-index 0) (drop (c.loop-a.a-index + 1) c.args.addresses.now)
      c.loop-a.slot c.loop-a.a-index c.loop-a.state c.loop-a.carrier
      (reading_now c.args.state.now (c.args.run).seat ((c.args.run).p).0 (all_reads c.args.state.now ((c.args.run).p).0 (c.args.run).slot c.args.addresses.now) c.args.addresses.now c.loop-a.slot c.loop-a.a-index c.loop-a.state c.loop-a.carrier
      c.loop-a.invariant.reading c.loop-a-test.true)
      c.read_one.new.state c.read_one.new.carrier c.run_law.ensures.formed c.run_law.ensures.run c.read_one.ensures.made c.read_one.ensures.begun c.read_one.ensures.each c.read_one.ensures.few c.read_one.ensures.paid;
  slot = let slot = c.loop-a.invariant.slot in omega (arith, slot);
}

pub returns-clause-made : goal.returns-clause-made
returns-clause-made g c =
    all_are_read c.args.state.now (c.args.run).seat ((c.args.run).p).0 (all_reads c.args.state.now ((c.args.run).p).0 (c.args.run).slot c.args.addresses.now) c.loop-a.slot c.loop-a.a-index c.loop-a.state c.loop-a.carrier
    (reading_end c.args.state.now (c.args.run).seat ((c.args.run).p).0 (all_reads c.args.state.now ((c.args.run).p).0 (c.args.run).slot c.args.addresses.now) c.args.addresses.now c.loop-a.slot c.loop-a.a-index c.loop-a.state c.loop-a.carrier
    c.loop-a.invariant.reading c.loop-a-test.false)

pub returns-clause-lifts : goal.returns-clause-lifts
returns-clause-lifts g c =
    lifts_read c.args.state.now (c.args.run).seat ((c.args.run).p).0 (all_reads c.args.state.now ((c.args.run).p).0 (c.args.run).slot c.args.addresses.now) c.loop-a.slot c.loop-a.a-index c.loop-a.state c.loop-a.carrier
    (reading_end c.args.state.now (c.args.run).seat ((c.args.run).p).0 (all_reads c.args.state.now ((c.args.run).p).0 (c.args.run).slot c.args.addresses.now) c.args.addresses.now c.loop-a.slot c.loop-a.a-index c.loop-a.state c.loop-a.carrier
    c.loop-a.invariant.reading c.loop-a-test.false)
