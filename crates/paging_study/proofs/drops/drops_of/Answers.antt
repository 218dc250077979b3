use Rattle.std.proofs.Common.{◌≡◌, ◌<◌, ◌≤◌, ◌+◌, ◌-◌, ◌&&◌, ◌||◌, [], ◌∷◌, ℕ, Bool, suc, List, false, not, eqb, leb, length, length-append, length-set, get_or, ap, sym, subst, ◌∙◌, arith, rules}
use Rattle.paging_study.specs.Places.{one_if, page_at, count_places}
use Rattle.paging_study.specs.Intervals.{begins}
use Rattle.paging_study.specs.Least.{is_dropped, AreEnds}
use Rattle.paging_study.specs.Open.{HoldsPlaces, is_pending}
use Rattle.paging_study.proofs.Forward.{Forward, forward, forward_none, ends_within, one_if-le}
use Rattle.paging_study.proofs.Holds.{holds_without}
use Rattle.paging_study.proofs.drops.drops_of.Goals as goal

pub loop-i-init : goal.loop-i-init
loop-i-init c = record {
  state = λ page are. subst (λ (drops : List ℕ). Forward page (length c.args.ends.now) c.args.room c.in_ok-open.open drops 0 0) (sym c.in_ok-drops.ensures.items)
      (forward_none page (length c.args.ends.now) c.args.room c.in_ok-open.open c.in_ok-open.ensures.none);
  room = omega (arith, c.in_ok-open.ensures.room.0);
  small = c.in_ok-open.ensures.room.1;
  len = ap length c.in_ok-drops.ensures.items;
  few = omega arith;
}

-- one interval may end, one may be dropped and one may begin
state_after : (c : goal.After-begin) (page : ℕ → ℕ) → AreEnds page (length c.args.ends.now) (page_at c.args.ends.now) → Forward page (length c.args.ends.now) c.args.room c.begin.new.ends c.push.new.self.items (c.loop-i.faults + c.from-faults.result) (c.loop-i.i + 1)
state_after c page are =
    let n : ℕ = c.loop-i.i in
    let places : ℕ = length c.args.ends.now in
    let below : c.loop-i.i < length c.args.ends.now = omega arith in
    let drops : List ℕ = c.loop-i.drops.items in
    let state = c.loop-i.invariant.state page are in
    let room : length c.args.ends.now ≤ length c.loop-i.open = c.loop-i.invariant.room in
    let within : c.loop-i.i < length c.loop-i.open = omega arith in
    let closed : HoldsPlaces c.remove-was_open.new.self (λ end. is_pending page (page_at drops) n end && not (eqb end (suc n))) places =
    subst (λ (ends : List Bool). HoldsPlaces ends (λ end. is_pending page (page_at drops) n end && not (eqb end (suc n))) places) (sym c.remove-was_open.ensures.set)
    (holds_without c.loop-i.open (is_pending page (page_at drops) n) places state.holds n within) in
    let was : c.remove-was_open.result ≡ is_pending page (page_at drops) n (suc n) = c.remove-was_open.ensures.was ∙ state.holds.has_it n below in
    let room' : length c.args.ends.now ≤ length c.remove-was_open.new.self = omega (arith, ap length c.remove-was_open.ensures.set, length-set c.loop-i.open c.loop-i.i false) in
    let loses = c.drop_last-dropped.ensures.loses (λ end. is_pending page (page_at drops) n end && not (eqb end (suc n))) places room' closed in
    let at : suc c.loop-i.i - 1 ≡ c.loop-i.i = omega arith in
    let end_is : page_at c.args.ends.now (suc c.loop-i.i) ≡ get_or c.args.ends.now c.loop-i.i 0 = ap (λ (k : ℕ). get_or c.args.ends.now k 0) at in
    let end_within : page_at c.args.ends.now (suc c.loop-i.i) ≤ length c.args.ends.now = ends_within page (length c.args.ends.now) (page_at c.args.ends.now) c.loop-i.i below are in
    let kept : ℕ → Bool = λ end. (is_pending page (page_at drops) n end && not (eqb end (suc n))) && not (eqb end c.drop_last-dropped.result) in
    let joined : HoldsPlaces c.begin.new.ends (λ end. kept end || eqb end (page_at c.args.ends.now (suc n))) places =
    subst (λ (k : ℕ). HoldsPlaces c.begin.new.ends (λ end. kept end || eqb end k) places) (sym {A = ℕ} end_is)
    (c.begin.ensures.opened kept places (omega arith) loses.left) in
    let fault : c.from-faults.result ≡ one_if (not c.remove-was_open.result) = search rules in
    subst (λ (xs : List ℕ). Forward page (length c.args.ends.now) c.args.room c.begin.new.ends xs (c.loop-i.faults + c.from-faults.result) (c.loop-i.i + 1)) (sym {A = List ℕ} c.in_ok-push.ensures.items)
    (forward page (page_at c.args.ends.now) places c.args.room n below are c.loop-i.open c.remove-was_open.new.self c.drop_last-dropped.new.ends c.begin.new.ends
    drops c.loop-i.faults c.drop_last-dropped.result state loses joined c.remove-was_open.result c.from-faults.result was fault)

pub loop-i-preserved : goal.loop-i-preserved
loop-i-preserved c =
    let fault : c.from-faults.result ≡ one_if (not c.remove-was_open.result) = search rules in
    let lengths : length c.begin.new.ends ≡ length c.loop-i.open =
    c.begin.ensures.len ∙ (c.drop_last-dropped.ensures.len ∙ (ap length c.remove-was_open.ensures.set ∙ length-set c.loop-i.open c.loop-i.i false)) in
    record {
      state = state_after c;
      room = omega (arith, lengths, c.loop-i.invariant.room);
      small = omega (arith, lengths, c.loop-i.invariant.small);
      len = ap length c.in_ok-push.ensures.items ∙ (length-append c.loop-i.drops.items (c.drop_last-dropped.result ∷ []) ∙ omega (arith, c.loop-i.invariant.len));
      few = omega (arith, fault, one_if-le (not c.remove-was_open.result), c.loop-i.invariant.few);
    }

pub returns-clause-faults : goal.returns-clause-faults
returns-clause-faults c = λ page are.
    let all : c.loop-i.i ≡ length c.args.ends.now = omega arith in
    subst (λ (n : ℕ). c.loop-i.faults + count_places (λ end. leb 1 (begins page end) && not (is_dropped (page_at c.loop-i.drops.items) n end)) n ≡ n) all (c.loop-i.invariant.state page are).counted
