-- Each cut gives a pass its number and leaves the rest the later ones.
use Rattle.std.proofs.Common.{rules, ◌≡◌, ℕ, ◌+◌, ◌-◌, [], ◌∷◌, length, ap, ◌∙◌, arith, length-append}
use Rattle.std.specs.List.{range_with_len}
use Rattle.history_lock.specs.declared.pass.Pass.{Pass}
use Rattle.history_lock.specs.Views.{unseen}
use Rattle.history_lock.specs.Values.{of_box}
use Rattle.history_lock.proofs.Dealt.{cuts, first_one, others}
use Rattle.history_lock.proofs.Places.{pushed}
use Rattle.history_lock.proofs.steps.deal.Goals as goal

pub split_seat-others-requires : goal.split_seat-others-requires
split_seat-others-requires g c = let i : ℕ = length c.loop-i.passes.items in let count = c.loop-i.invariant.count in (search rules, search rules, cuts (of_box g.T.Kept.journal) (of_box g.T.Kept.base) _ _ _ i _ _ _ (ap (λ m. m.0) c.loop-i.invariant.rest) (omega arith))

pub loop-i-preserved : goal.loop-i-preserved
loop-i-preserved g c = let i : ℕ = length c.loop-i.passes.items in let count = c.loop-i.invariant.count in let cut = c.split_seat-others.ensures in
    let base = g.T.Kept.base c.args.shared.now.key.value.value in let of = c.loop-i.invariant.own in
    let view = ap (λ m. m.0) c.loop-i.invariant.rest in
    let longer : length c.push_reserved.new.self.items ≡ i + 1 = ap length c.push_reserved.ensures.items ∙ length-append c.loop-i.passes.items _ in record {
      own = ap (λ s. s.table_id) c.replace-first.ensures.after ∙ (cut.3 ∙ of);
      rest = ap (λ s. s.me) c.replace-first.ensures.after ∙ (cut.4 ∙ ap (λ v. (v, [])) (others i _ _ _ _ base view (omega arith) longer (omega arith)));
      count = omega arith;
      room = search rules;
      each = pushed (λ (k : ℕ) (pass : Pass g.row.T.Denot g.row.T-Base.Denot). (pass.seat.table_id ≡ c.args.shared.now.table_id) × (pass.seat.me ≡ (unseen (k ∷ []) base, []))) c.loop-i.passes.items _ _ c.push_reserved.ensures.items
          c.loop-i.invariant.each (
            ap (λ s. s.table_id) c.replace-first.ensures.value ∙ (cut.0 ∙ of),
            ap (λ s. s.me) c.replace-first.ensures.value ∙ (cut.2 ∙ (λ k. (first_one i _ _ base view (omega arith) k, (c.loop-i.invariant.rest k).1))),
          );
    }

pub returns : goal.returns
returns g c = let i : ℕ = length c.loop-i.passes.items in let count = c.loop-i.invariant.count in let base = g.T.Kept.base c.args.shared.now.key.value.value in
    let end = c.loop-i-test.false in let far = c.loop-i.auto._i-end in let some_pass = c.requires.some_pass in
    let longer : length c.push_reserved-2.new.self.items ≡ i + 1 = ap length c.push_reserved-2.ensures.items ∙ length-append c.loop-i.passes.items _ in let last : c.args.n - i ≡ 1 = omega arith in record {
      count = omega arith;
      each = pushed (λ (k : ℕ) (pass : Pass g.row.T.Denot g.row.T-Base.Denot). (pass.seat.table_id ≡ c.args.shared.now.table_id) × (pass.seat.me ≡ (unseen (k ∷ []) base, []))) c.loop-i.passes.items _ _ c.push_reserved-2.ensures.items
          c.loop-i.invariant.each
          (c.loop-i.invariant.own, c.loop-i.invariant.rest ∙ ap (λ m. (unseen (range_with_len i m) base, [])) last);
    }
