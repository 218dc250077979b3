use Rattle.std.proofs.Common.{◌<◌, length, arith}
use Rattle.paging_study.proofs.EndsByPlace.{ends_more}
use Rattle.paging_study.proofs.intervals.ends_of.Goals as goal

pub loop-i-preserved : goal.loop-i-preserved
loop-i-preserved c =
    let below : c.loop-i.i < length c.args.firsts.now = omega arith in
    record {
      state = λ page are. ends_more page (length c.args.firsts.now) c.loop-i.i below c.loop-i.ends.items c.set_end.new.ends.items _ _ (are c.loop-i.i below) (omega arith)
          c.loop-i.invariant.len c.set_end.ensures.none c.set_end.ensures.set (c.loop-i.invariant.state page are);
      len = omega (arith, c.set_end.ensures.len, c.loop-i.invariant.len);
    }

pub returns-clause-ends : goal.returns-clause-ends
returns-clause-ends c = λ page are.
    let state = c.loop-i.invariant.state page are in
    record { begun = λ n below some. state.begun n (omega arith) some; only = state.only }
