use Rattle.std.proofs.Common.{◌≡◌, ◌≤◌, ◌<◌, ◌-◌, ◌⊎◌, ℕ, List, Bool, true, set, length, get_or, ap, sym, subst, inl, inr, ◌∙◌, arith, rules, length-set}
use Rattle.paging_study.specs.Places.{flag_at, page_at}
use Rattle.paging_study.proofs.Backward.{Backward, back_skip, back_take}
use Rattle.paging_study.proofs.cuts.cut_flags.Goals as goal
use Rattle.paging_study.proofs.cuts.cut_flags.Goals.{then-end-gt0+then-end-last, else-end-gt0, else-end-gt0-via-then-end-gt0+else-end-last, else-end-gt0-via-else-end-gt0}

-- the place is a cut, or the flags stay
pub loop-left-preserved : goal.loop-left-preserved
loop-left-preserved c =
    let drops : List ℕ = c.args.drops.now in
    let flags : List Bool = c.loop-left.flags.items in
    let inv = c.loop-left.invariant in
    let fits : get_or c.args.drops.now (c.loop-left.left - 1) 0 ≤ 4294967295 = search rules in
    elim c.if-end-gt0.branch [
      | then-end-gt0+then-end-last w ↦
          let changed : c.if-end-gt0.flags.items ≡ set flags (c.loop-left.left - 1) true = ap (λ v. v.items) w.flags-is in
          record {
            len = ap length changed ∙ (length-set flags (c.loop-left.left - 1) true ∙ inv.len);
            within = omega arith;
            state = subst (λ (last : ℕ). Backward (page_at drops) (length drops) (flag_at c.if-end-gt0.flags.items) last (c.loop-left.left - 1)) (sym w.last-is)
                (back_take drops flags c.if-end-gt0.flags.items c.loop-left.last c.loop-left.left (omega arith) inv.within inv.len changed inv.state w.if-end-gt0.true w.if-end-last.true);
          }
      | else-end-gt0 w ↦
          let same : c.if-end-gt0.flags.items ≡ flags = ap (λ v. v.items) w.flags-is in
          let why : (get_or drops (c.loop-left.left - 1) 0 ≡ 0) ⊎ (c.loop-left.last < get_or drops (c.loop-left.left - 1) 0) = elim w.else-end-gt0.branch [
            | else-end-gt0-via-then-end-gt0+else-end-last w' ↦ inr w'.if-end-last.false
            | else-end-gt0-via-else-end-gt0 w' ↦ inl (omega (arith, w'.if-end-gt0.false))
          ] in
          record {
            len = ap length same ∙ inv.len;
            within = omega arith;
            state = subst (λ (last : ℕ). Backward (page_at drops) (length drops) (flag_at c.if-end-gt0.flags.items) last (c.loop-left.left - 1)) (sym w.last-is)
                (back_skip drops flags c.if-end-gt0.flags.items c.loop-left.last c.loop-left.left (omega arith) inv.within same inv.state why fits);
          }
    ]
