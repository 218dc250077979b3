use Rattle.std.proofs.Common.{◌≡◌, ◌<◌, ◌/◌, false, set, length, length-set, get_or, ap, arith}
use Rattle.std.proofs.lemmas.List.{get_or_read}
use Rattle.std.proofs.lemmas.Nat.{div_below}
use Rattle.paging_study.specs.Places.{one_if}
use Rattle.paging_study.proofs.MarkCounts.{count_few, count_has, counts_set}
use Rattle.paging_study.proofs.marks.Marks.set.Goals as goal

pub changed-eight-requires-clause-has : goal.changed-eight-requires-clause-has
changed-eight-requires-clause-has c =
    let group : c.args.i / 8 < length c.args.self.now.eights.items = div_below c.args.i 8 (length c.args.self.now.eights.items) (omega arith) (omega (arith, c.requires, c.args.self.now.eights_len)) in
    let was : c.index-was.result.now ≡ get_or c.args.self.now.flags.items c.args.i false = get_or_read c.args.self.now.flags.items c.args.i c.index-was.result.now c.requires c.index-was.ensures false in
    let is : c.index.result.now ≡ get_or c.args.self.now.eights.items (c.args.i / 8) 0 = get_or_read c.args.self.now.eights.items (c.args.i / 8) c.index.result.now group c.index.ensures 0 in
    omega (arith, ap one_if was, is, count_has 8 c.args.self.now.flags.items c.args.self.now.eights.items c.args.self.now.by_eight c.args.i (omega arith) group)

pub changed-eight-requires-clause-few : goal.changed-eight-requires-clause-few
changed-eight-requires-clause-few c =
    let group : c.args.i / 8 < length c.args.self.now.eights.items = div_below c.args.i 8 (length c.args.self.now.eights.items) (omega arith) (omega (arith, c.requires, c.args.self.now.eights_len)) in
    let is : c.index.result.now ≡ get_or c.args.self.now.eights.items (c.args.i / 8) 0 = get_or_read c.args.self.now.eights.items (c.args.i / 8) c.index.result.now group c.index.ensures 0 in
    omega (arith, is, count_few 8 c.args.self.now.flags.items c.args.self.now.eights.items c.args.self.now.by_eight (c.args.i / 8) group)

pub changed-block-requires-clause-has : goal.changed-block-requires-clause-has
changed-block-requires-clause-has c =
    let group : c.args.i / 128 < length c.args.self.now.blocks.items = div_below c.args.i 128 (length c.args.self.now.blocks.items) (omega arith) (omega (arith, c.requires, c.args.self.now.blocks_len)) in
    let was : c.index-was.result.now ≡ get_or c.args.self.now.flags.items c.args.i false = get_or_read c.args.self.now.flags.items c.args.i c.index-was.result.now c.requires c.index-was.ensures false in
    let is : c.index-2.result.now ≡ get_or c.args.self.now.blocks.items (c.args.i / 128) 0 = get_or_read c.args.self.now.blocks.items (c.args.i / 128) c.index-2.result.now group c.index-2.ensures 0 in
    omega (arith, ap one_if was, is, count_has 128 c.args.self.now.flags.items c.args.self.now.blocks.items c.args.self.now.by_block c.args.i (omega arith) group)

pub changed-block-requires-clause-few : goal.changed-block-requires-clause-few
changed-block-requires-clause-few c =
    let group : c.args.i / 128 < length c.args.self.now.blocks.items = div_below c.args.i 128 (length c.args.self.now.blocks.items) (omega arith) (omega (arith, c.requires, c.args.self.now.blocks_len)) in
    let is : c.index-2.result.now ≡ get_or c.args.self.now.blocks.items (c.args.i / 128) 0 = get_or_read c.args.self.now.blocks.items (c.args.i / 128) c.index-2.result.now group c.index-2.ensures 0 in
    omega (arith, is, count_few 128 c.args.self.now.flags.items c.args.self.now.blocks.items c.args.self.now.by_block (c.args.i / 128) group)

pub invariant_of-self : goal.invariant_of-self
invariant_of-self c =
    let eight : c.args.i / 8 < length c.args.self.now.eights.items = div_below c.args.i 8 (length c.args.self.now.eights.items) (omega arith) (omega (arith, c.requires, c.args.self.now.eights_len)) in
    let block : c.args.i / 128 < length c.args.self.now.blocks.items = div_below c.args.i 128 (length c.args.self.now.blocks.items) (omega arith) (omega (arith, c.requires, c.args.self.now.blocks_len)) in
    let was : c.index-was.result.now ≡ get_or c.args.self.now.flags.items c.args.i false = get_or_read c.args.self.now.flags.items c.args.i c.index-was.result.now c.requires c.index-was.ensures false in
    let eight_is : c.index.result.now ≡ get_or c.args.self.now.eights.items (c.args.i / 8) 0 = get_or_read c.args.self.now.eights.items (c.args.i / 8) c.index.result.now eight c.index.ensures 0 in
    let block_is : c.index-2.result.now ≡ get_or c.args.self.now.blocks.items (c.args.i / 128) 0 = get_or_read c.args.self.now.blocks.items (c.args.i / 128) c.index-2.result.now block c.index-2.ensures 0 in
    let flags_len : length (set c.args.self.now.flags.items c.args.i c.args.flag) ≡ length c.args.self.now.flags.items = length-set c.args.self.now.flags.items c.args.i c.args.flag in
    let eights_len : length (set c.args.self.now.eights.items (c.args.i / 8) c.changed-eight.result) ≡ length c.args.self.now.eights.items = length-set c.args.self.now.eights.items (c.args.i / 8) c.changed-eight.result in
    let blocks_len : length (set c.args.self.now.blocks.items (c.args.i / 128) c.changed-block.result) ≡ length c.args.self.now.blocks.items = length-set c.args.self.now.blocks.items (c.args.i / 128) c.changed-block.result in
    record {
      by_eight = counts_set 8 c.args.self.now.flags.items c.args.self.now.eights.items c.args.self.now.by_eight c.args.i c.args.flag c.changed-eight.result (omega arith) eight c.requires
          (omega (arith, c.changed-eight.ensures, ap one_if was, eight_is));
      by_block = counts_set 128 c.args.self.now.flags.items c.args.self.now.blocks.items c.args.self.now.by_block c.args.i c.args.flag c.changed-block.result (omega arith) block c.requires
          (omega (arith, c.changed-block.ensures, ap one_if was, block_is));
      eights_len = omega (arith, flags_len, eights_len, c.args.self.now.eights_len);
      blocks_len = omega (arith, flags_len, blocks_len, c.args.self.now.blocks_len);
      few = omega (arith, flags_len, c.args.self.now.few);
    }
