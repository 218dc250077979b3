use Rattle.std.proofs.Common.{◌<◌, length, refl, sym, ◌∙◌, subst, arith}
use Rattle.std.specs.Prelude.{All, IsSome}
use Rattle.frame_store.proofs.Ordered.{as_many, blocks_in_order, ids_in_order}
use Rattle.frame_store.proofs.Sorting.{next_blocks, next_kept, next_laid, next_long, next_many, next_other, next_some, next_sorted, next_within}
use Rattle.frame_store.proofs.home.sorted.Goals.{then-place-number, else-place-number}
use Rattle.frame_store.proofs.home.sorted.Goals as goal

pub loop-number-init : goal.loop-number-init
loop-number-init g c = record {
  laid = c.requires.home.laid;
  blocks = refl;
  long = refl;
  many = as_many c.args.blocks.items c.args.places.items c.requires.all c.requires.home.count;
  sorted = λ m below. absurd (omega (arith, below));
}

pub unwrap-place-requires : goal.unwrap-place-requires
unwrap-place-requires g c =
    let kept = c.loop-number.invariant in
    let all = subst (All IsSome) (sym kept.blocks) c.requires.all in
    let below : c.loop-number.number < length c.loop-number.places.items = omega (arith, c.loop-number-test.true, c.len-number-end.ensures, kept.many, kept.long, c.args.blocks.ok.0) in
    next_some kept.laid c.loop-number.number all below c.index.result.now c.index.ensures

pub swap-requires-clause-j_in_bounds : goal.swap-requires-clause-j_in_bounds
swap-requires-clause-j_in_bounds g c =
    let kept = c.loop-number.invariant in
    let below : c.loop-number.number < length c.loop-number.places.items = omega (arith, c.loop-number-test.true, c.len-number-end.ensures, kept.many, kept.long, c.args.blocks.ok.0) in
    let within = next_within kept.laid c.loop-number.number below c.index.result.now c.unwrap-place.result c.index.ensures c.unwrap-place.ensures in
    omega (arith, within, c.loop-number.blocks.ok.0)

pub swap-requires-then-place-number-clause-j_in_bounds : goal.swap-requires-then-place-number-clause-j_in_bounds
swap-requires-then-place-number-clause-j_in_bounds g c =
    let n = c.loop-number.number in
    let kept = c.loop-number.invariant in
    let below : n < length c.loop-number.places.items = omega (arith, c.loop-number-test.true, c.len-number-end.ensures, kept.many, kept.long, c.args.blocks.ok.0) in
    let within : n < length c.loop-number.blocks.items = omega (arith, below, kept.many, kept.long) in
    let other = next_other kept.laid n below c.index.result.now c.unwrap-place.result c.index.ensures c.unwrap-place.ensures
    within c.index-then-place-number.result.now c.index-then-place-number.ensures c.number-other.result c.number-other.ensures in
    omega (arith, other, c.loop-number.places.ok.0)

pub loop-number-preserved : goal.loop-number-preserved
loop-number-preserved g c =
    let n = c.loop-number.number in
    let kept = c.loop-number.invariant in
    let place = c.unwrap-place.result in
    let below : n < length c.loop-number.places.items = omega (arith, c.loop-number-test.true, c.len-number-end.ensures, kept.many, kept.long, c.args.blocks.ok.0) in
    elim c.if-place-number.branch [
      | then-place-number w ↦
          let q = w.index-then-place-number.result.now in
          let m = w.number-other.result in
          let new = w.swap.new.self.items in
          let new_places = w.swap-then-place-number.new.self.items in
          let within : n < length c.loop-number.blocks.items = omega (arith, below, kept.many, kept.long) in
          let first = w.index-then-place-number.ensures in
          let items = w.swap.ensures.items in
          let places = w.swap-then-place-number.ensures.items in
          rw (w.blocks-is, w.places-is) (record {
            laid = next_laid kept.laid n below c.index.result.now place c.index.ensures c.unwrap-place.ensures within q first m w.number-other.ensures new new_places items places;
            blocks = next_blocks kept.laid n below c.index.result.now place c.index.ensures c.unwrap-place.ensures within q first m w.number-other.ensures new new_places items places ∙ kept.blocks;
            long = next_long kept.laid n below c.index.result.now place c.index.ensures c.unwrap-place.ensures within q first m w.number-other.ensures new new_places items places ∙ kept.long;
            many = next_many kept.laid n below c.index.result.now place c.index.ensures c.unwrap-place.ensures within q first m w.number-other.ensures new new_places items places ∙ kept.many;
            sorted = next_sorted kept.laid n below c.index.result.now place c.index.ensures c.unwrap-place.ensures within q first m w.number-other.ensures new new_places items places kept.sorted;
          })
      | else-place-number w ↦
          rw (w.blocks-is, w.places-is) (record {
            laid = kept.laid;
            blocks = kept.blocks;
            long = kept.long;
            many = kept.many;
            sorted = next_kept c.loop-number.places.items n below c.index.result.now place c.index.ensures c.unwrap-place.ensures w.if-place-number.false kept.sorted;
          })
    ]

pub returns-clause-ids : goal.returns-clause-ids
returns-clause-ids g c =
    let kept = c.loop-number.invariant in
    let home = c.requires.home in
    let many = as_many c.args.blocks.items c.args.places.items c.requires.all home.count in
    ids_in_order kept.laid (kept.long ∙ (sym many ∙ home.many))
    (λ m below. kept.sorted m (omega (arith, below, kept.long, c.loop-number-test.false, c.len-number-end.ensures, c.args.blocks.ok.0)))

pub returns-clause-blocks : goal.returns-clause-blocks
returns-clause-blocks g c =
    let kept = c.loop-number.invariant in
    blocks_in_order c.loop-number.blocks.items c.loop-number.places.items (kept.many ∙ sym kept.long)
    (λ m below. kept.sorted m (omega (arith, below, kept.long, c.loop-number-test.false, c.len-number-end.ensures, c.args.blocks.ok.0)))
    ∙ kept.blocks
