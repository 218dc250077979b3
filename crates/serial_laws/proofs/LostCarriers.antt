-- What a seat's carrier has become once its flights have landed.
use Rattle.std.proofs.Common.{◌≡◌, ◌⊎◌, inl, inr, ℕ, ◌+◌, ◌&&◌, ◌||◌, Bool, true, false, cond, List, [], ◌∷◌, Option, Some, None, length, count_by, nat_lt, refl, ap, ◌∙◌, arith}
use Rattle.std.proofs.lemmas.Bool.{and_from, and_parts, eq-eqb, lt-ltb, false≢true}
use Rattle.vm_types.specs.declared.config.Config.{Config}
use Rattle.vm_types.specs.declared.names.Page.{Page}
use Rattle.vm_journal.specs.declared.entry.Entry.{Entry}
use Rattle.vm_journal.specs.declared.entry.What.{What}
use Rattle.vm_journal.specs.declared.entry.What.TheVariants as what
use Rattle.pager_model.specs.Carrier.{Carrying, HasLost, begins_with_fault, carrying, carrying_with, is_lost, is_start, landed_badly, landed_well}
use Rattle.pager_model.specs.Counted.{last_count}
use Rattle.pager_model.specs.Flights.{Direction, Flight, is_busy, open_flights, reading, writing}
use Rattle.pager_policy.specs.Given.{by_seat, made_by}
use Rattle.pager_model.specs.Maps.{pfn}
use Rattle.pager_policy.specs.Landings.{Outcome, all_bad, first_bad, is_bad_outcome, landed_by, landing, reuse_of, went_badly, went_well}
use Rattle.pager_model.specs.Run.{pager_after}
use Rattle.pager_rules.proofs.Basics.{count_cons, count_cons_yes, nat_eq_refl}
use Rattle.serial_laws.specs.Lost.{CarriesAll}

-- one landing of a flight: how many failed, and whether the first one did
record HasLandedOne (old new : Carrying) (start : ℕ) (bad : Bool) : Type 0 where
  pub first : new.first ≡ old.first
  pub begun : new.begun ≡ old.begun
  pub spoken : new.spoken_since ≡ old.spoken_since
  pub failed : new.failed ≡ cond bad 1 0 + old.failed
  pub first_failed : (old.first_failed ≡ true) ⊎ ((bad ≡ true) × (is_start old.first start ≡ true)) → new.first_failed ≡ true

or_left : (b c : Bool) → b ≡ true → (b || c) ≡ true
or_left true c is = refl
or_left false c is = absurd (false≢true is)

or_right : (b c : Bool) → c ≡ true → (b || c) ≡ true
or_right true c is = refl
or_right false c is = is

module _ (seat : ℕ) where
  -- an entry of the seat's own
  own_entry : (past : List Entry) (w : What) → carrying seat (by_seat seat w ∷ past) ≡ carrying_with (length past + 1) seat (is_busy seat (open_flights past)) w (carrying seat past)
  own_entry past w = ap (λ (own : Bool). cond own (carrying_with (length past + 1) seat (is_busy seat (open_flights past)) w (carrying seat past)) (carrying seat past)) (nat_eq_refl seat)

  well : (c d : Carrying) (k : ℕ) → d ≡ landed_well c → HasLandedOne c d k false
  well c d k is = record {
    first = ap (λ (x : Carrying). x.first) is;
    begun = ap (λ (x : Carrying). x.begun) is;
    spoken = ap (λ (x : Carrying). x.spoken_since) is;
    failed = ap (λ (x : Carrying). x.failed) is ∙ omega arith;
    first_failed = λ either. ap (λ (x : Carrying). x.first_failed) is ∙ by either;
  }
    where
      by : (c.first_failed ≡ true) ⊎ ((false ≡ true) × (is_start c.first k ≡ true)) → c.first_failed ≡ true
      by (inl before) = before
      by (inr now) = absurd (false≢true now.0)

  badly : (c d : Carrying) (k : ℕ) → d ≡ landed_badly c k → HasLandedOne c d k true
  badly c d k is = record {
    first = ap (λ (x : Carrying). x.first) is;
    begun = ap (λ (x : Carrying). x.begun) is;
    spoken = ap (λ (x : Carrying). x.spoken_since) is;
    failed = ap (λ (x : Carrying). x.failed) is ∙ omega arith;
    first_failed = λ either. ap (λ (x : Carrying). x.first_failed) is ∙ by either;
  }
    where
      by : (c.first_failed ≡ true) ⊎ ((true ≡ true) × (is_start c.first k ≡ true)) → (c.first_failed || is_start c.first k) ≡ true
      by (inl before) = or_left c.first_failed (is_start c.first k) before
      by (inr now) = or_right c.first_failed (is_start c.first k) now.1

  reused : (past : List Entry) (f : ℕ) (o : Option Page) → carrying seat (made_by seat (reuse_of f o) past) ≡ carrying seat past
  reused past f None = refl
  reused past f (Some g) = own_entry past (what.Reuse (pfn f) g)

  landed_one : (past : List Entry) (page : ℕ → Option Page) (x : Flight) (d : Direction) (o : Outcome) → HasLandedOne (carrying seat past) (carrying seat (made_by seat (landing past page x d o) past)) x.start (is_bad_outcome o)
  landed_one past page x (reading r) went_well = well _ _ x.start (own_entry past (what.InOk (pfn x.frame) x.start))
  landed_one past page x writing went_well = well _ _ x.start (own_entry past (what.OutOk (pfn x.frame) x.start))
  landed_one past page x (reading r) (went_badly n) =
      badly _ _ x.start (reused (by_seat seat (what.InFail (pfn x.frame) x.start (last_count x.block past) n) ∷ past) x.frame (page x.frame) ∙ own_entry past (what.InFail (pfn x.frame) x.start (last_count x.block past) n))
  landed_one past page x writing (went_badly n) = badly _ _ x.start (own_entry past (what.OutFail (pfn x.frame) x.start (last_count x.block past) n))

  -- ---- all of them
  record HasLandedAll (old new : Carrying) (bad : ℕ) : Type 0 where
    pub first : new.first ≡ old.first
    pub begun : new.begun ≡ old.begun
    pub spoken : new.spoken_since ≡ old.spoken_since
    pub failed : new.failed ≡ bad + old.failed
    pub first_failed : old.first_failed ≡ true → new.first_failed ≡ true

  landed_all : (config : Config) (flights : List Flight) (outcomes : List Outcome) (past : List Entry) → length outcomes ≡ length flights
      → HasLandedAll (carrying seat past) (carrying seat (landed_by config seat flights outcomes past)) (count_by is_bad_outcome outcomes)
  landed_all config [] [] past same = record { first = refl; begun = refl; spoken = refl; failed = omega arith; first_failed = λ is. is }
  landed_all config [] (o ∷ outcomes) past same = absurd (omega (arith, same))
  landed_all config (x ∷ flights) [] past same = absurd (omega (arith, same))
  landed_all config (x ∷ flights) (o ∷ outcomes) past same =
      let now : List Entry = made_by seat (landing past (pager_after config past).page x x.direction o) past in
      let one = landed_one past (pager_after config past).page x x.direction o in
      let rest = landed_all config flights outcomes now (omega (arith, same)) in
      let count = count_cons is_bad_outcome o outcomes in
      record {
        first = rest.first ∙ one.first;
        begun = rest.begun ∙ one.begun;
        spoken = rest.spoken ∙ one.spoken;
        failed = (let later = rest.failed in let first = one.failed in omega (arith, later, first, count));
        first_failed = λ is. rest.first_failed (one.first_failed (inl is));
      }

all_counted : (outcomes : List Outcome) → all_bad outcomes ≡ true → count_by is_bad_outcome outcomes ≡ length outcomes
all_counted [] all = refl
all_counted (o ∷ outcomes) all =
    let parts = and_parts (is_bad_outcome o) (all_bad outcomes) all in
    omega (arith, count_cons_yes is_bad_outcome o outcomes parts.0, all_counted outcomes parts.1)

pub lost_when_failed : (config : Config) (past : List Entry) (seat : ℕ) (first : Flight) (more : List Flight) (outcomes : List Outcome) → CarriesAll past seat first more → length outcomes ≡ length (first ∷ more)
    → (all_bad outcomes ≡ true) ⊎ ((begins_with_fault (Some first) ≡ true) × (first_bad outcomes ≡ true)) → HasLost (landed_by config seat (first ∷ more) outcomes past) seat
lost_when_failed config past seat first more [] carries same failed = absurd (omega (arith, same))
lost_when_failed config past seat first more (o ∷ outcomes) carries same failed =
    record { lost = lost failed; unspoken = all.spoken ∙ carries.unspoken }
  where
    c : Carrying
    c = carrying seat (landed_by config seat (first ∷ more) (o ∷ outcomes) past)

    all : HasLandedAll seat (carrying seat past) (carrying seat (landed_by config seat (first ∷ more) (o ∷ outcomes) past)) (count_by is_bad_outcome (o ∷ outcomes))
    all = landed_all seat config (first ∷ more) (o ∷ outcomes) past same

    some : nat_lt 0 (carrying seat (landed_by config seat (first ∷ more) (o ∷ outcomes) past)).begun ≡ true
    some = let begun = all.begun in let count = carries.begun in lt-ltb 0 (carrying seat (landed_by config seat (first ∷ more) (o ∷ outcomes) past)).begun (omega (arith, begun, count))

    first_is : (carrying seat (landed_by config seat (first ∷ more) (o ∷ outcomes) past)).first ≡ Some first
    first_is = all.first ∙ carries.firsts

    first_lost : is_bad_outcome o ≡ true → (carrying seat (landed_by config seat (first ∷ more) (o ∷ outcomes) past)).first_failed ≡ true
    first_lost bad =
        let one = landed_one seat past (pager_after config past).page first first.direction o in
        let rest = landed_all seat config more outcomes (made_by seat (landing past (pager_after config past).page first first.direction o) past) (omega (arith, same)) in
        rest.first_failed (one.first_failed (inr (bad, ap (λ (x : Option Flight). is_start x first.start) carries.firsts ∙ nat_eq_refl first.start)))

    lost : (all_bad (o ∷ outcomes) ≡ true) ⊎ ((begins_with_fault (Some first) ≡ true) × (first_bad (o ∷ outcomes) ≡ true)) → is_lost (carrying seat (landed_by config seat (first ∷ more) (o ∷ outcomes) past)) ≡ true
    lost (inl bad) =
        let failed_all = all.failed in
        let count = all_counted (o ∷ outcomes) bad in
        let begun = all.begun in
        let begun_all = carries.begun in
        let none = carries.none_failed in
        and_from _ _ some (or_right (begins_with_fault (carrying seat (landed_by config seat (first ∷ more) (o ∷ outcomes) past)).first && (carrying seat (landed_by config seat (first ∷ more) (o ∷ outcomes) past)).first_failed) _ (eq-eqb _ _ (omega (arith, failed_all, count, begun, begun_all, none, same))))
    lost (inr both) = and_from _ _ some (or_left _ _ (and_from _ _ (ap begins_with_fault first_is ∙ both.0) (first_lost both.1)))
