use Rattle.std.proofs.Common.{◌≡◌, ◌-◌, ◌||◌, Bool, List, ℕ, suc, eqb, set, true, sym, subst, arith}
use Rattle.paging_study.specs.Open.{HoldsPlaces}
use Rattle.paging_study.proofs.Holds.{holds_with, holds_with_none}
use Rattle.paging_study.proofs.drops.begin.Goals as goal

-- the end joins the others
pub returns-then-end-gt0-clause-opened : goal.returns-then-end-gt0-clause-opened
returns-then-end-gt0-clause-opened c = λ test places within h.
    let before : suc (c.args.end - 1) ≡ c.args.end = omega arith in
    subst (λ (ends : List Bool). HoldsPlaces ends (λ e. test e || eqb e c.args.end) places) (sym c.insert.ensures)
    (subst (λ (end : ℕ). HoldsPlaces (set c.args.ends.now (c.args.end - 1) true) (λ e. test e || eqb e end) places) before
    (holds_with c.args.ends.now test places h (c.args.end - 1) (omega arith) (omega arith)))

pub returns-else-end-gt0-clause-opened : goal.returns-else-end-gt0-clause-opened
returns-else-end-gt0-clause-opened c = λ test places within h.
    let none : c.args.end ≡ 0 = omega arith in
    subst (λ (end : ℕ). HoldsPlaces c.args.ends.now (λ e. test e || eqb e end) places) (sym none) (holds_with_none c.args.ends.now test places h)
