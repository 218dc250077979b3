use Rattle.std.proofs.Common.{◌≡◌, ◌+◌, Bool, List, ℕ, suc, set, false, sym, subst, arith}
use Rattle.paging_study.specs.Open.{LosesLast}
use Rattle.paging_study.proofs.Holds.{keeps_all, pops_last}
use Rattle.paging_study.proofs.drops.drop_last.Goals as goal

pub returns-then-len-room-clause-loses : goal.returns-then-len-room-clause-loses
returns-then-len-room-clause-loses c = λ test places within h. keeps_all c.args.ends.now c.args.room (omega arith) test places within h

-- the greatest of all leaves
pub returns-clause-loses : goal.returns-clause-loses
returns-clause-loses c = λ test places within h.
    let e = c.pop_last.ensures in
    let next : suc c.pop_last.result ≡ c.pop_last.result + 1 = omega arith in
    subst (λ (ends : List Bool). LosesLast c.args.ends.now ends c.args.room (c.pop_last.result + 1) test places) (sym e.set)
    (subst (λ (end : ℕ). LosesLast c.args.ends.now (set c.args.ends.now c.pop_last.result false) c.args.room end test places) next
    (pops_last c.args.ends.now c.args.room c.pop_last.result (omega arith) e.within e.had e.last test places within h))
