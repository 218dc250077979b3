use Rattle.std.proofs.Common.{ap, arith, length, sym, ◌+◌, ◌∙◌}
use Rattle.vm_state.specs.History.{pager}
use Rattle.fault_core.proofs.Alone.{read_alone}
use Rattle.fault_core.proofs.ClusterReads.{fault_at, gives_reads, may_next, near, no_lifts, none_begun, part_first, part_none, part_some, reading_end, reading_near, reading_start, targets_of}
use Rattle.fault_core.proofs.Comes.{page_known, uncharged}
use Rattle.fault_core.proofs.Windows.{block_small, page_there, reach_few}
use Rattle.fault_core.proofs.fetches.read_in.Goals.{in-Some, in-None}
use Rattle.fault_core.proofs.fetches.read_in.Goals as goal

-- ---- it is read alone
pub read_one-requires-clause-may : goal.read_one-requires-clause-may
read_one-requires-clause-may g c κs within =
    let s = c.args.state.now in
    let alone = read_alone s.config (pager s) (c.args.x).page c.args.b (length (pager s).free) c.requires.seeks.refers.ready.formed (sym c.if-is_alone.true ∙ c.is_alone.ensures) in
    may_next s c.args.x c.args.b (fault_at s c.args.x c.args.b c.page_start.result) (targets_of s c.args.x c.args.b 1 1) s c.args.carrier.now
    (reading_start s c.args.x c.args.b c.args.carrier.now c.page_start.result 1 c.requires.seeks.refers.carrier c.requires.free c.requires.seeks.refers.may c.page_start.ensures alone)

pub returns-then-is_alone : goal.returns-then-is_alone
returns-then-is_alone g c =
    let s = c.args.state.now in
    let alone = read_alone s.config (pager s) (c.args.x).page c.args.b (length (pager s).free) c.requires.seeks.refers.ready.formed (sym c.if-is_alone.true ∙ c.is_alone.ensures) in
    let part = part_first s c.args.x c.args.b 1 c.read_one.new.state c.args.carrier.now c.read_one.new.carrier c.page_start.result
    (reading_start s c.args.x c.args.b c.args.carrier.now c.page_start.result 1 c.requires.seeks.refers.carrier c.requires.free c.requires.seeks.refers.may c.page_start.ensures alone)
    c.read_one.ensures.made c.read_one.ensures.each c.requires.seeks.refers.ready.formed c.requires.seeks.refers.ready.run c.read_one.ensures.begun (no_lifts c.args.carrier.now (c.args.x).seat c.requires.seeks.refers.carrier)
    c.read_one.ensures.few c.requires.seeks.refers.may.room c.read_one.ensures.paid in
    gives_reads s c.args.x c.args.b c.read_one.new.state c.args.carrier.now c.read_one.new.carrier c.requires.free
    (reading_end s c.args.x c.args.b c.read_one.new.state c.read_one.new.carrier 1 1 part.reading (omega arith))
    part.begun

-- ---- it is read with its cluster
pub cluster-length-requires-clause-known : goal.cluster-length-requires-clause-known
cluster-length-requires-clause-known g c κs within = page_known c.args.state.now (c.args.x).seat (c.args.x).r c.requires.seeks.refers.ready (c.args.x).page (c.requires.seeks.sought).mapped

pub cluster-length-requires-clause-charge : goal.cluster-length-requires-clause-charge
cluster-length-requires-clause-charge g c κs within = uncharged c.args.state.now c.args.x c.requires.seeks.sought

pub read_one-requires-2-clause-may : goal.read_one-requires-2-clause-may
read_one-requires-2-clause-may g c κs within =
    may_next c.args.state.now c.args.x c.args.b (fault_at c.args.state.now c.args.x c.args.b c.page_start.result)
    (targets_of c.args.state.now c.args.x c.args.b 1 c.cluster-length.result) c.args.state.now c.args.carrier.now
    (reading_start c.args.state.now c.args.x c.args.b c.args.carrier.now c.page_start.result c.cluster-length.result c.requires.seeks.refers.carrier c.requires.free c.requires.seeks.refers.may c.page_start.ensures
    c.cluster-length.ensures.length)

pub read_one-requires-2-clause-paid : goal.read_one-requires-2-clause-paid
read_one-requires-2-clause-paid g c κs within = let room = c.requires.seeks.refers.may.room in omega (arith, room)

pub read_one-requires-2-clause-few : goal.read_one-requires-2-clause-few
read_one-requires-2-clause-few g c κs within = let none = no_lifts c.args.carrier.now (c.args.x).seat c.requires.seeks.refers.carrier in omega (arith, none)

pub read_one-requires-2-clause-begun : goal.read_one-requires-2-clause-begun
read_one-requires-2-clause-begun g c κs within = none_begun c.args.state.now c.args.carrier.now (c.args.x).seat c.requires.seeks.refers.carrier

pub loop-places-init : goal.loop-places-init
loop-places-init g c =
    part_first c.args.state.now c.args.x c.args.b c.cluster-length.result c.read_one-2.new.state c.args.carrier.now c.read_one-2.new.carrier c.page_start.result
    (reading_start c.args.state.now c.args.x c.args.b c.args.carrier.now c.page_start.result c.cluster-length.result c.requires.seeks.refers.carrier c.requires.free c.requires.seeks.refers.may c.page_start.ensures
    c.cluster-length.ensures.length)
    c.read_one-2.ensures.made c.read_one-2.ensures.each c.requires.seeks.refers.ready.formed c.requires.seeks.refers.ready.run c.read_one-2.ensures.begun (no_lifts c.args.carrier.now (c.args.x).seat c.requires.seeks.refers.carrier)
    c.read_one-2.ensures.few c.requires.seeks.refers.may.room c.read_one-2.ensures.paid

pub bounds : goal.bounds
bounds g c =
    let same = ap (λ xs. length xs) c.as_slice.ensures.value in
    let before = c.loop-places-test.true in let most = c.cluster-length.ensures.within in omega (arith, same, before, most)

pub block_after-block-requires : goal.block_after-block-requires
block_after-block-requires g c =
    let small = block_small c.args.state.now.config c.args.b c.requires.seeks.refers.ready.formed c.requires.exists in
    let few = reach_few c.args.state.now.config (pager c.args.state.now) (c.args.x).page c.requires.seeks.refers.ready.formed in
    let before = c.loop-places-test.true in let most = c.cluster-length.ensures.within in let inside = c.cluster-length.ensures.pages.within in omega (arith, small, few, before, most, inside)

pub read_one-requires-in-Some-clause-may : goal.read_one-requires-in-Some-clause-may
read_one-requires-in-Some-clause-may g c κs within =
    may_next c.args.state.now c.args.x c.args.b (near c.args.state.now c.args.x c.args.b c.block_after-block.result c.in-Some.page)
    (targets_of c.args.state.now c.args.x c.args.b (c.loop-places.places + 1) c.cluster-length.result) c.loop-places.state c.loop-places.carrier
    (reading_near c.args.state.now c.args.x c.args.b c.loop-places.state c.loop-places.carrier c.loop-places.places c.cluster-length.result c.in-Some.page c.block_after-block.result
    c.loop-places.invariant.reading c.loop-places-test.true
    (page_there c.args.state.now.config (pager c.args.state.now) (c.args.x).page c.args.b c.as_slice.result.now c.cluster-length.new.pages.items c.loop-places.places c.cluster-length.result _ _ c.as_slice.ensures.value
    c.in-Some.is c.cluster-length.ensures.pages c.loop-places.auto.places c.loop-places-test.true c.cluster-length.ensures.within)
    c.block_after-block.ensures)

pub read_one-requires-in-Some-clause-paid : goal.read_one-requires-in-Some-clause-paid
read_one-requires-in-Some-clause-paid g c κs within =
    let few = reach_few c.args.state.now.config (pager c.args.state.now) (c.args.x).page c.requires.seeks.refers.ready.formed in
    let before = c.loop-places-test.true in let most = c.cluster-length.ensures.within in let inside = c.cluster-length.ensures.pages.within in let paid = c.loop-places.invariant.paid in omega (arith, few, before, most, inside, paid)

pub read_one-requires-in-Some-clause-few : goal.read_one-requires-in-Some-clause-few
read_one-requires-in-Some-clause-few g c κs within =
    let few = reach_few c.args.state.now.config (pager c.args.state.now) (c.args.x).page c.requires.seeks.refers.ready.formed in
    let before = c.loop-places-test.true in let most = c.cluster-length.ensures.within in let inside = c.cluster-length.ensures.pages.within in let so_far = c.loop-places.invariant.few in omega (arith, few, before, most, inside, so_far)

pub read_one-requires-in-Some-clause-begun : goal.read_one-requires-in-Some-clause-begun
read_one-requires-in-Some-clause-begun g c κs within = c.loop-places.invariant.begun

pub loop-places-preserved : goal.loop-places-preserved
loop-places-preserved g c = elim c.match-as_slice-places.branch [
  | in-Some w ↦
      part_some c.args.state.now c.args.x c.args.b c.cluster-length.result c.loop-places.places c.loop-places.state w.read_one-in-Some.new.state c.match-as_slice-places.state
      c.loop-places.carrier w.read_one-in-Some.new.carrier c.match-as_slice-places.carrier c.loop-places.invariant c.loop-places-test.true w.in-Some.page w.block_after-block.result
      (page_there c.args.state.now.config (pager c.args.state.now) (c.args.x).page c.args.b c.as_slice.result.now c.cluster-length.new.pages.items c.loop-places.places c.cluster-length.result _ _ c.as_slice.ensures.value
      w.in-Some.is c.cluster-length.ensures.pages c.loop-places.auto.places c.loop-places-test.true c.cluster-length.ensures.within)
      w.block_after-block.ensures w.read_one-in-Some.ensures.made w.read_one-in-Some.ensures.each w.run_law.ensures.formed w.run_law.ensures.run w.read_one-in-Some.ensures.begun w.read_one-in-Some.ensures.few
      w.read_one-in-Some.ensures.paid w.state-is w.carrier-is
  | in-None w ↦
      part_none c.args.state.now c.args.x c.args.b c.cluster-length.result c.loop-places.places c.loop-places.state c.loop-places.state c.match-as_slice-places.state
      c.loop-places.carrier c.loop-places.carrier c.match-as_slice-places.carrier c.loop-places.invariant c.loop-places-test.true
      (page_there c.args.state.now.config (pager c.args.state.now) (c.args.x).page c.args.b c.as_slice.result.now c.cluster-length.new.pages.items c.loop-places.places c.cluster-length.result _ _ c.as_slice.ensures.value
      w.in-None.is c.cluster-length.ensures.pages c.loop-places.auto.places c.loop-places-test.true c.cluster-length.ensures.within)
      w.state-is w.carrier-is
]

pub returns : goal.returns
returns g c =
    gives_reads c.args.state.now c.args.x c.args.b c.loop-places.state c.args.carrier.now c.loop-places.carrier c.requires.free
    (reading_end c.args.state.now c.args.x c.args.b c.loop-places.state c.loop-places.carrier c.loop-places.places c.cluster-length.result c.loop-places.invariant.reading
    (let least = c.loop-places-test.false in omega (arith, least)))
    c.loop-places.invariant.begun
