use Rattle.std.proofs.Common.{◌≡◌, ◌+◌, ◌-◌, [], ◌∷◌, ℕ, suc, List, not, length, length-append, get_or, ap, subst, ◌∙◌, arith}
use Rattle.paging_study.specs.Places.{page_at, count_places}
use Rattle.paging_study.specs.Recency.{is_hit, is_at_distance}
use Rattle.paging_study.proofs.Distance.{all_faults, faults_step, more_faults}
use Rattle.paging_study.proofs.lru.lru_faults.Goals as goal

pub loop-more-init : goal.loop-more-init
loop-more-init c = record {
  left = omega (arith, c.len-left.ensures, all_faults (page_at c.args.pages.now.pages.items) (length c.args.pages.now.pages.items));
  faults = λ j below. absurd (omega arith);
  len = ap length c.in_ok-faults.ensures.items;
}

-- there are as many faults with one frame fewer, at least
pub overflow_sub-left : goal.overflow_sub-left
overflow_sub-left c =
    let more_is : get_or c.deref-more-items.result.now c.loop-more.more-index 0 ≡ count_places (is_at_distance (page_at c.args.pages.now.pages.items) c.loop-more.more-index) (length c.args.pages.now.pages.items) =
    ap (λ (xs : List ℕ). get_or xs c.loop-more.more-index 0) c.deref-more-items.ensures.value ∙ c.in_ok-hits.ensures.hits c.loop-more.more-index (omega (arith, ap length c.deref-more-items.ensures.value, c.in_ok-hits.ensures.len)) in
    (faults_step (page_at c.args.pages.now.pages.items) (length c.args.pages.now.pages.items) c.loop-more.more-index c.loop-more.left _ c.loop-more.invariant.left more_is).0

pub loop-more-preserved : goal.loop-more-preserved
loop-more-preserved c =
    let page : ℕ → ℕ = page_at c.args.pages.now.pages.items in
    let m : ℕ = length c.args.pages.now.pages.items in
    let j : ℕ = c.loop-more.more-index in
    let more_is : get_or c.deref-more-items.result.now c.loop-more.more-index 0 ≡ count_places (is_at_distance (page_at c.args.pages.now.pages.items) c.loop-more.more-index) (length c.args.pages.now.pages.items) =
    ap (λ (xs : List ℕ). get_or xs c.loop-more.more-index 0) c.deref-more-items.ensures.value ∙ c.in_ok-hits.ensures.hits c.loop-more.more-index (omega (arith, ap length c.deref-more-items.ensures.value, c.in_ok-hits.ensures.len)) in
    let step = faults_step page m j c.loop-more.left _ c.loop-more.invariant.left more_is in
    let next : suc c.loop-more.more-index ≡ c.loop-more.more-index + 1 = omega arith in
    let fewer : ℕ = c.loop-more.left - get_or c.deref-more-items.result.now c.loop-more.more-index 0 in
    record {
      left = subst (λ (k : ℕ). fewer ≡ count_places (λ n. not (is_hit page k n)) m) next step.1;
      faults = λ k below. ap (λ (xs : List ℕ). get_or xs k 0) c.in_ok-push.ensures.items ∙ more_faults c.loop-more.faults.items fewer j (λ d. count_places (λ n. not (is_hit page (suc d) n)) m) c.loop-more.invariant.len c.loop-more.invariant.faults step.1 k (omega arith);
      len = ap length c.in_ok-push.ensures.items ∙ (length-append c.loop-more.faults.items (fewer ∷ []) ∙ omega (arith, c.loop-more.invariant.len));
    }
