use Rattle.std.proofs.Common.{◌≡◌, ◌≤◌, ◌<◌, ℕ, suc, false, length, get_or, ap, refl, arith}
use Rattle.paging_study.specs.Places.{page_at, count_places}
use Rattle.paging_study.specs.Intervals.{begins}
use Rattle.paging_study.specs.Recency.{distance, is_at_distance}
use Rattle.paging_study.proofs.EndsByPlace.{first_at, begins_before}
use Rattle.paging_study.proofs.Distance.{count_places-le, last_step, none_late, between_is, hit_step}
use Rattle.paging_study.proofs.lru.hits_of.Goals as goal

pub since-between-requires-clause-order : goal.since-between-requires-clause-order
since-between-requires-clause-order c =
    begins_before c.args.pages.now.pages.items c.args.pages.now.firsts.items c.deref-first-items.result.now c.deref-first-items.ensures.value c.args.pages.now.begins c.loop-i.i (omega arith)

pub since-between-requires-clause-within : goal.since-between-requires-clause-within
since-between-requires-clause-within c = omega (arith, c.loop-i.invariant.last_len, ap length c.deref-first-items.ensures.value, c.args.pages.now.len)

pub since-between-requires-clause-rest : goal.since-between-requires-clause-rest
since-between-requires-clause-rest c = none_late (page_at c.args.pages.now.pages.items) c.loop-i.last.flags.items c.loop-i.i c.loop-i.invariant.last

-- no more hits than references
pub count_hit-requires : goal.count_hit-requires
count_hit-requires c = λ d below.
    let is : get_or c.loop-i.hits.items d 0 ≡ count_places (is_at_distance (page_at c.args.pages.now.pages.items) d) c.loop-i.i = c.loop-i.invariant.hits d (omega (arith, c.loop-i.invariant.hits_len)) in
    omega (arith, is, count_places-le (is_at_distance (page_at c.args.pages.now.pages.items) d) c.loop-i.i, ap length c.deref-first-items.ensures.value, c.args.pages.now.len)

pub move_last-requires-clause-first : goal.move_last-requires-clause-first
move_last-requires-clause-first c =
    let before = begins_before c.args.pages.now.pages.items c.args.pages.now.firsts.items c.deref-first-items.result.now c.deref-first-items.ensures.value c.args.pages.now.begins c.loop-i.i (omega arith) in
    omega (arith, before, c.loop-i.invariant.last_len, ap length c.deref-first-items.ensures.value, c.args.pages.now.len)

pub loop-i-preserved : goal.loop-i-preserved
loop-i-preserved c =
    let page : ℕ → ℕ = page_at c.args.pages.now.pages.items in
    let i : ℕ = c.loop-i.i in
    let within : c.loop-i.i < length c.args.pages.now.pages.items = omega (arith, ap length c.deref-first-items.ensures.value, c.args.pages.now.len) in
    let first_is : get_or c.deref-first-items.result.now c.loop-i.i 0 ≡ begins (page_at c.args.pages.now.pages.items) (suc c.loop-i.i) =
    first_at c.args.pages.now.pages.items c.args.pages.now.firsts.items c.deref-first-items.result.now c.deref-first-items.ensures.value c.args.pages.now.begins c.loop-i.i (omega arith) in
    let first : ℕ = get_or c.deref-first-items.result.now c.loop-i.i 0 in
    let between : 1 ≤ get_or c.deref-first-items.result.now c.loop-i.i 0 → c.since-between.result ≡ distance page (suc i) =
    λ some. between_is page c.loop-i.last.flags.items i first c.since-between.result first_is (omega (arith, c.loop-i.invariant.last_len)) c.loop-i.invariant.last (c.since-between.ensures some) in
    record {
      hits = λ d below. hit_step page i first c.since-between.result d _ _ first_is between
          (c.loop-i.invariant.hits d below) (c.count_hit.ensures.hits d (omega (arith, c.loop-i.invariant.hits_len)));
      last = λ n below. last_step page i (λ t. get_or c.loop-i.last.flags.items t false) (λ t. get_or c.move_last.new.last.flags.items t false) first i (length c.loop-i.last.flags.items) first_is refl
          c.loop-i.invariant.last c.move_last.ensures.last n (omega (arith, c.move_last.ensures.len));
      hits_len = omega (arith, c.count_hit.ensures.len, c.loop-i.invariant.hits_len);
      last_len = omega (arith, c.move_last.ensures.len, c.loop-i.invariant.last_len);
    }
