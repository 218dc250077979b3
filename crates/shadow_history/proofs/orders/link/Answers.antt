use Rattle.std.proofs.Common.{◌≡◌, ◌<◌, ◌-◌, ◌∙◌, ℕ, suc, length, length-set, refl, sym, subst, arith}
use Rattle.std.proofs.lemmas.Option.{slice_get_read}
use Rattle.shadow_history.specs.Lefts.{AreLinked}
use Rattle.shadow_history.proofs.Lefts.{linked_next, process_below}
use Rattle.shadow_history.proofs.orders.link.Goals as goal

pub index-requires : goal.index-requires
index-requires c =
    let old = c.loop-t.invariant in
    omega (arith, old.count, process_below c.args.body.now (c.loop-t.t - 1) _ c.process_at-p.result c.requires.tasks (omega (arith, old.within)) c.process_at-p.ensures)

pub index_mut-requires-in-loop-t : goal.index_mut-requires-in-loop-t
index_mut-requires-in-loop-t c =
    let old = c.loop-t.invariant in
    omega (arith, old.count, process_below c.args.body.now (c.loop-t.t - 1) _ c.process_at-p.result c.requires.tasks (omega (arith, old.within)) c.process_at-p.ensures)

pub loop-t-preserved : goal.loop-t-preserved
loop-t-preserved c =
    let body = c.args.body.now in
    let t : ℕ = c.loop-t.t - 1 in
    let old = c.loop-t.invariant in
    let back : c.loop-t.t ≡ suc (c.loop-t.t - 1) = omega arith in
    let below : c.loop-t.t - 1 < length c.args.body.now = omega (arith, old.within) in
    let p_below : c.process_at-p.result < length c.loop-t.next.items = subst (λ (n : ℕ). c.process_at-p.result < n) (sym old.count) (process_below body t _ c.process_at-p.result c.requires.tasks below c.process_at-p.ensures) in
    record {
      linked = linked_next body t c.loop-t.next.items c.loop-t.after.items c.process_at-p.result c.index.result.now
          (subst (λ (n : ℕ). AreLinked body n c.loop-t.next.items c.loop-t.after.items) back old.linked) below c.process_at-p.ensures
          (slice_get_read c.loop-t.next.items _ c.process_at-p.result c.index.result.now refl p_below c.index.ensures);
      count = length-set c.loop-t.next.items c.process_at-p.result t ∙ old.count;
      within = omega (arith, old.within);
    }
