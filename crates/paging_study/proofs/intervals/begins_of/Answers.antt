use Rattle.std.proofs.Common.{◌≡◌, ◌<◌, ◌+◌, ◌*◌, ◌/◌, ℕ, List, suc, length, length-set, get_or, ap, sym, ◌∙◌, arith, subst}
use Rattle.std.proofs.lemmas.List.{length-replicate}
use Rattle.paging_study.specs.Places.{page_at}
use Rattle.paging_study.proofs.EndsByPlace.{BeginsState, begins_state, begins_none, no_place, within_rows}
use Rattle.paging_study.proofs.intervals.begins_of.Goals as goal

pub loop-i-init : goal.loop-i-init
loop-i-init c = record {
  state = begins_none c.args.pages.now c.in_ok-firsts.firsts.items c.in_ok-last.last ((c.greatest.result / 64 + 1) * 64) c.in_ok-firsts.ensures.items c.in_ok-last.ensures;
  within = λ t below. within_rows c.greatest.result (get_or c.args.pages.now t 0) (length c.in_ok-last.last) (c.greatest.ensures t below)
      (ap length c.in_ok-last.ensures ∙ length-replicate ((c.greatest.result / 64 + 1) * 64) no_place);
}

pub loop-i-preserved : goal.loop-i-preserved
loop-i-preserved c =
    let below : c.loop-i.i < length c.args.pages.now = omega arith in
    let page_is : get_or c.args.pages.now c.loop-i.i 0 ≡ page_at c.args.pages.now (suc c.loop-i.i) = ap (λ (k : ℕ). get_or c.args.pages.now k 0) (omega arith) in
    let within : get_or c.args.pages.now c.loop-i.i 0 < length c.loop-i.last = c.loop-i.invariant.within c.loop-i.i below in
    record {
      state = subst (λ (xs : List ℕ). BeginsState c.set.new.self c.args.pages.now xs (c.loop-i.i + 1)) (sym {A = List ℕ} c.in_ok-push.ensures.items)
          (begins_state c.args.pages.now c.loop-i.i c.loop-i.last c.loop-i.firsts.items c.loop-i.invariant.state c.set.new.self _ _ _ _
          page_is within (omega arith) c.get-first.ensures c.unwrap_or.ensures c.set.ensures);
      within = λ t t_below. omega (arith, ap length c.set.ensures ∙ length-set c.loop-i.last (get_or c.args.pages.now c.loop-i.i 0) _, c.loop-i.invariant.within t t_below);
    }
