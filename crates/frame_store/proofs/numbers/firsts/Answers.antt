use Rattle.frame_store.proofs.Rows.{firsts_more, next_more}
use Rattle.frame_store.proofs.numbers.firsts.Goals as goal

pub loop-length-preserved : goal.loop-length-preserved
loop-length-preserved c =
    let i = c.loop-length.length-index in
    let lengths = c.args.lengths.now in
    record {
      numbers = firsts_more c.args.from lengths c.loop-length.numbers.items c.push.new.self.items c.loop-length.next i c.loop-length.invariant.next c.loop-length.invariant.numbers c.in_ok-push.ensures.items;
      next = next_more c.args.from lengths c.loop-length.next i c.loop-length-test.true c.loop-length.invariant.next;
    }
