-- The lifts of a carrier land one after another.
use Rattle.std.proofs.Common.{◌≡◌, ℕ, ◌+◌, ◌≤◌, ◌<◌, Bool, true, false, not, List, [], ◌∷◌, ◌++◌, length, reverse, nat_eq, count_by, if◌then◌else◌, refl, sym, ap, ◌∙◌, subst, arith}
use Rattle.std.specs.List.{AllByRecursion}
use Rattle.std.proofs.lemmas.Bool.{eqb-false, eqb-true}
use Rattle.std.proofs.lemmas.List.{reverse-append, reverse-reverse}
use Rattle.vm_types.specs.BlockView.{BlockView, Tells}
use Rattle.vm_types.specs.declared.names.Seat.{Seat}
use Rattle.pager_model.specs.Flights.{awaits_reuse}
use Rattle.pager_rules.proofs.Basics.{count_cons_no, count_cons_yes, each_of_two}
use Rattle.frame_store.specs.LiftView.{LiftView}
use Rattle.lift_carriers.specs.CarrierView.{CarrierView}
use Rattle.vm_state.specs.History.{History}
use Rattle.lift_carriers.specs.Counted.{counted, first_failed, lift_failed}
use Rattle.vm_state.specs.LiftsLand.{CarrierMayLand, HasLanded, HaveOwnStarts, MayLand, landed_each}
use Rattle.lift_carriers.specs.declared.landed.Landed.{Landed}

module _ {B : Type 0} where
  abbrev goods : List (LiftView B) → ℕ
  goods lifts = count_by (λ (lift : LiftView B). not (lift_failed lift)) lifts

  abbrev bads : List (LiftView B) → ℕ
  bads lifts = count_by lift_failed lifts

  -- each is the one or the other
  pub either : (lifts : List (LiftView B)) → goods lifts + bads lifts ≡ length lifts
  either [] = refl
  either (lift ∷ lifts) = go (lift_failed lift) refl (either lifts)
    where
      go : (b : Bool) → lift_failed lift ≡ b → goods lifts + bads lifts ≡ length lifts → goods (lift ∷ lifts) + bads (lift ∷ lifts) ≡ length (lift ∷ lifts)
      go true is rest =
          let good = count_cons_no (λ (l : LiftView B). not (lift_failed l)) lift lifts (ap not is) in
          let bad = count_cons_yes lift_failed lift lifts is in
          omega (arith, good, bad, rest)
      go false is rest =
          let good = count_cons_yes (λ (l : LiftView B). not (lift_failed l)) lift lifts (ap not is) in
          let bad = count_cons_no lift_failed lift lifts is in
          omega (arith, good, bad, rest)

  -- turned round twice they are as before
  pub turned_back : (old new : CarrierView B) → new ≡ record old { lifts = reverse old.lifts } → reverse new.lifts ≡ old.lifts
  turned_back old new turned = ap (λ (c : CarrierView B). reverse c.lifts) turned ∙ reverse-reverse old.lifts

  -- the last one is the first of those that are turned round
  pub last_is_first : (old new : CarrierView B) (lift : LiftView B) → old ≡ record new { lifts = new.lifts ++ lift ∷ [] } → reverse old.lifts ≡ lift ∷ reverse new.lifts
  last_is_first old new lift given = ap (λ (c : CarrierView B). reverse c.lifts) given ∙ reverse-append new.lifts (lift ∷ [])

  pub none_turned : (lifts : List (LiftView B)) → reverse lifts ≡ [] → lifts ≡ []
  none_turned lifts none = sym (reverse-reverse lifts) ∙ ap reverse none

  none_left : (lifts : List (LiftView B)) → length lifts ≤ 0 → lifts ≡ []
  none_left [] none = refl
  none_left (lift ∷ lifts) none = absurd (omega (arith, none))

module _ {B : Type 0} (seen : B → BlockView) (tells : Tells) where
  -- n lifts have landed, these are left, and the numbers are those of the landed ones
  pub record AreLandedTo (seat : Seat) (n : ℕ) (first : History) (all : List (LiftView B)) (s : History) (lifts : List (LiftView B)) (landed : Landed) : Type 0 where
    pub many : length lifts + n ≡ length all
    pub calm : awaits_reuse s.past ≡ false
    pub each : AllByRecursion (MayLand seen tells s seat) lifts
    pub apart : HaveOwnStarts lifts
    pub same : landed_each seat lifts s ≡ landed_each seat all first
    pub good : landed.good + goods lifts ≡ goods all
    pub bad : landed.bad + bads lifts ≡ bads all
    pub none_yet : n ≡ 0 → (lifts ≡ all) × (landed.first_bad ≡ false)
    pub first_bad : 0 < n → landed.first_bad ≡ first_failed all

  pub none_landed : (seat : Seat) (s : History) (c : CarrierView B) → seat ≡ c.seat → CarrierMayLand seen tells s c
      → AreLandedTo seat 0 s c.lifts s c.lifts (record { good = 0; bad = 0; first_bad = false })
  none_landed seat s c is may = record {
    many = omega arith;
    calm = may.calm;
    each = subst (λ (p : Seat). AllByRecursion (MayLand seen tells s p) c.lifts) (sym is) may.each;
    apart = may.apart;
    same = refl;
    good = omega arith;
    bad = omega arith;
    none_yet = λ zero. (refl, refl);
    first_bad = λ some. absurd (omega (arith, some));
  }

  module _ (seat : Seat) (n : ℕ) (first : History) (all : List (LiftView B)) (s t : History) (lift : LiftView B) (lifts : List (LiftView B)) (landed : Landed) (so_far : AreLandedTo seat n first all s (lift ∷ lifts) landed) where
    pub may_land : MayLand seen tells s seat lift
    may_land = so_far.each.0

    pub room : length all < 17 → landed.good + landed.bad < 16
    room few =
        let good = so_far.good in
        let bad = so_far.bad in
        let left = either (lift ∷ lifts) in
        let whole = either all in
        omega (arith, good, bad, left, whole, few)

    pub one_landed : HasLanded seen tells seat lift s t → (failed : Bool) → failed ≡ lift_failed lift → (is_first : Bool) → is_first ≡ nat_eq n 0 → (next : Landed)
        → next.good ≡ landed.good + (if failed then 0 else 1) → next.bad ≡ landed.bad + (if failed then 1 else 0) → next.first_bad ≡ (if is_first then failed else landed.first_bad)
        → AreLandedTo seat (n + 1) first all t lifts next
    one_landed has failed failed_is is_first first_is next good bad first_bad = record {
      many = (let many = so_far.many in omega (arith, many));
      calm = has.calm;
      each = each_of_two (λ (o : LiftView B). nat_eq lift.start o.start ≡ false) (MayLand seen tells s seat) (MayLand seen tells t seat)
          (λ o apart may. has.others o apart may) lifts so_far.apart.0 so_far.each.1;
      apart = so_far.apart.1;
      same = ap (landed_each seat lifts) has.now ∙ so_far.same;
      good = goods_now failed failed_is good;
      bad = bads_now failed failed_is bad;
      none_yet = λ zero. absurd (omega (arith, zero));
      first_bad = λ some. first_bad ∙ firsts is_first first_is;
    }
      where
        goods_now : (b : Bool) → b ≡ lift_failed lift → next.good ≡ landed.good + (if b then 0 else 1) → next.good + goods lifts ≡ goods all
        goods_now true is more = let old = so_far.good in let count = count_cons_no (λ (l : LiftView B). not (lift_failed l)) lift lifts (ap not (sym is)) in omega (arith, old, count, more)
        goods_now false is more = let old = so_far.good in let count = count_cons_yes (λ (l : LiftView B). not (lift_failed l)) lift lifts (ap not (sym is)) in omega (arith, old, count, more)

        bads_now : (b : Bool) → b ≡ lift_failed lift → next.bad ≡ landed.bad + (if b then 1 else 0) → next.bad + bads lifts ≡ bads all
        bads_now true is more = let old = so_far.bad in let count = count_cons_yes lift_failed lift lifts (sym is) in omega (arith, old, count, more)
        bads_now false is more = let old = so_far.bad in let count = count_cons_no lift_failed lift lifts (sym is) in omega (arith, old, count, more)

        firsts : (b : Bool) → b ≡ nat_eq n 0 → (if b then failed else landed.first_bad) ≡ first_failed all
        firsts true is = failed_is ∙ ap first_failed (so_far.none_yet (eqb-true n 0 (sym is))).0
        firsts false is = so_far.first_bad (let some = eqb-false n 0 (sym is) in omega (arith, some))

  module _ (seat : Seat) (n : ℕ) (first : History) (all : List (LiftView B)) (s : History) (lifts : List (LiftView B)) (landed : Landed) (so_far : AreLandedTo seat n first all s lifts landed) (done : length all ≤ n) where
    pub nothing_left : lifts ≡ []
    nothing_left = none_left lifts (let many = so_far.many in omega (arith, many, done))

    pub all_landed : s ≡ landed_each seat all first
    all_landed = subst (λ (xs : List (LiftView B)). landed_each seat xs s ≡ landed_each seat all first) nothing_left so_far.same

    pub all_counted : landed ≡ counted all
    all_counted = λ i. record { good = good i; bad = bad i; first_bad = whether (nat_eq n 0) refl i }
      where
        good : landed.good ≡ goods all
        good = let sum = so_far.good in let none : goods lifts ≡ 0 = ap goods nothing_left in omega (arith, sum, none)

        bad : landed.bad ≡ bads all
        bad = let sum = so_far.bad in let none : bads lifts ≡ 0 = ap bads nothing_left in omega (arith, sum, none)

        whether : (b : Bool) → nat_eq n 0 ≡ b → landed.first_bad ≡ first_failed all
        whether true is =
            let early = so_far.none_yet (eqb-true n 0 is) in
            early.1 ∙ sym (ap first_failed (sym early.0 ∙ nothing_left))
        whether false is = so_far.first_bad (let some = eqb-false n 0 is in omega (arith, some))
