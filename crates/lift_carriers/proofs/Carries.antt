-- The lifts of a carrier are carried one after another, and each of them still fits.
use Rattle.std.proofs.Common.{◌≡◌, ℕ, zero, suc, ◌+◌, ◌≤◌, ◌<◌, Bool, true, false, nat_eq, List, [], ◌∷◌, Some, length, slice_get, slice_index_or, slice_set, if◌then◌else◌, refl, sym, ap, ◌∙◌, subst, arith, length-set}
use Rattle.std.specs.List.{AllByRecursion}
use Rattle.std.proofs.lemmas.Bool.{eqb-true, eqb-false}
use Rattle.std.proofs.lemmas.Option.{same_Some, slice_get_within, slice_get_read}
use Rattle.disk_trait.specs.Told.{told}
use Rattle.vm_types.specs.BlockView.{BlockView, Tells}
use Rattle.vm_types.specs.declared.config.Config.{Config}
use Rattle.vm_journal.specs.declared.entry.Entry.{Entry}
use Rattle.pager_model.specs.Fits.{Lift}
use Rattle.pager_model.specs.Run.{pager_after}
use Rattle.content_laws.specs.Carried.{IsCarriedBadly, IsCarriedWell}
use Rattle.content_laws.proofs.CarriedFits.{carried_badly, carried_well, failed_read, failed_write, good_read, good_write}
use Rattle.frame_store.specs.LiftView.{CarriedAs, IsMoved, IsTorn, LiftView}
use Rattle.frame_store.specs.declared.lift.Carried.{Carried}
use Rattle.frame_store.specs.declared.lift.Carried.TheVariants.{Waiting, Good, Bad}
use Rattle.frame_store.proofs.StoreKept.{get_set_other, get_set_same}
use Rattle.lift_carriers.specs.Carrying.{AreCarried, HasCarried}
use Rattle.lift_carriers.specs.LiftsFit.{LiftFits, lift_seen, result_of}

-- ---- what holds of each item of a list
pub of_each : {X : Type 0} (P : X → Type 0) (xs : List X) (k : ℕ) (x : X) → AllByRecursion P xs → slice_get xs k ≡ Some x → P x
of_each P [] k x all there = absurd (cc there)
of_each P (y ∷ xs) zero x all there = subst P (same_Some _ _ there) all.0
of_each P (y ∷ xs) (suc k) x all there = of_each P xs k x all.1 there

pub from_each : {X : Type 0} (P : X → Type 0) (xs : List X) → ((k : ℕ) (x : X) → slice_get xs k ≡ Some x → P x) → AllByRecursion P xs
from_each P [] each = tt
from_each P (x ∷ xs) each = (each 0 x refl, from_each P xs (λ k y there. each (suc k) y there))

there_too : {X : Type 0} (xs ys : List X) (k : ℕ) (y : X) → length ys ≡ length xs → slice_get ys k ≡ Some y → (x : X) × (slice_get xs k ≡ Some x)
there_too [] [] k y same there = absurd (cc there)
there_too [] (z ∷ ys) k y same there = absurd (omega (arith, same))
there_too (x ∷ xs) [] k y same there = absurd (cc there)
there_too (x ∷ xs) (z ∷ ys) zero y same there = (x, refl)
there_too (x ∷ xs) (z ∷ ys) (suc k) y same there = there_too xs ys k y (omega (arith, same)) there

module _ {B : Type 0} (seen : B → BlockView) (tells : Tells) where
  -- ---- the first n lifts were carried
  pub record AreCarriedTo (n : ℕ) (old new : List (LiftView B)) : Type 0 where
    pub count : length new ≡ length old
    pub before : (k : ℕ) (x y : LiftView B) → k < n → slice_get old k ≡ Some x → slice_get new k ≡ Some y → HasCarried seen tells x y
    pub later : (k : ℕ) → n ≤ k → slice_get new k ≡ slice_get old k

  pub none_yet : (lifts : List (LiftView B)) → AreCarriedTo 0 lifts lifts
  none_yet lifts = record { count = refl; before = λ k x y below. absurd (omega (arith, below)); later = λ k above. refl }

  pub one_more : (n : ℕ) (old new : List (LiftView B)) (x y : LiftView B) → AreCarriedTo n old new → n < length new → x ≡ slice_index_or new n x → HasCarried seen tells x y → AreCarriedTo (n + 1) old (slice_set new n y)
  one_more n old new x y so_far within read carried = record {
    count = length-set new n y ∙ so_far.count;
    before = λ k v w below was now. go k v w below was now (nat_eq n k) refl;
    later = λ k above. get_set_other new n k y (λ same. omega (arith, same, above)) ∙ so_far.later k (omega (arith, above));
  }
    where
      go : (k : ℕ) (v w : LiftView B) → k < n + 1 → slice_get old k ≡ Some v → slice_get (slice_set new n y) k ≡ Some w → (b : Bool) → nat_eq n k ≡ b → HasCarried seen tells v w
      go k v w below was now true is =
          let here : slice_get old n ≡ Some x = sym (so_far.later n (omega arith)) ∙ slice_get_read new (length new) n x refl within read in
          let v_is : x ≡ v = same_Some _ _ (sym here ∙ subst (λ (j : ℕ). slice_get old j ≡ Some v) (sym (eqb-true n k is)) was) in
          let w_is : y ≡ w = same_Some _ _ (sym (get_set_same new n y within) ∙ subst (λ (j : ℕ). slice_get (slice_set new n y) j ≡ Some w) (sym (eqb-true n k is)) now) in
          subst (λ (t : LiftView B). HasCarried seen tells t w) v_is (subst (λ (t : LiftView B). HasCarried seen tells x t) w_is carried)
      go k v w below was now false is =
          let apart = eqb-false n k is in
          so_far.before k v w (omega (arith, below, apart)) was (sym (get_set_other new n k y apart) ∙ now)

  pub all_carried : (n : ℕ) (old new : List (LiftView B)) → AreCarriedTo n old new → length new ≤ n → AreCarried seen tells old new
  all_carried n old new so_far past = record {
    count = so_far.count;
    each = λ k x y was now. so_far.before k x y (let within = slice_get_within new k y now in omega (arith, within, past)) was now;
  }

  -- the next one waits
  pub next_waits : (n : ℕ) (old new : List (LiftView B)) (x : LiftView B) → AreCarriedTo n old new → n < length new → x ≡ slice_index_or new n x → AllByRecursion (λ (lift : LiftView B). lift.result ≡ Waiting) old → x.result ≡ Waiting
  next_waits n old new x so_far within read wait =
      of_each (λ (lift : LiftView B). lift.result ≡ Waiting) old n x wait (sym (so_far.later n (omega arith)) ∙ slice_get_read new (length new) n x refl within read)

  -- ---- a lift that was carried still fits
  module _ (config : Config) (past : List Entry) (old new : LiftView B) (fits : LiftFits seen tells config past old) (waits : old.result ≡ Waiting) (carried : HasCarried seen tells old new) where
    abbrev lift : Lift
    lift = lift_seen seen old

    is_read : new.is_read ≡ old.is_read
    is_read = ap (λ (x : LiftView B). x.is_read) carried.same

    abbrev Calls : Bool → Type 0
    Calls b = ((seen new.held).reads ≡ (seen old.held).reads + (if b then 1 else 0)) × ((seen new.held).writes ≡ (seen old.held).writes + (if b then 0 else 1))

    calls : (b : Bool) → old.is_read ≡ b → Calls b
    calls b is = subst Calls is (carried.read_once, carried.written_once)

    told_some : (bytes : List ℕ) → tells.content ≡ true → told tells.content bytes ≡ Some bytes
    told_some bytes says = ap (λ (t : Bool). told t bytes) says

    well : IsMoved seen tells old new → (seen new.held).faults ≡ (seen old.held).faults → (b : Bool) → old.is_read ≡ b → IsCarriedWell tells.content lift new.buffer (seen new.held)
    well moved same true is =
        let its = moved.0 (is_read ∙ is) in
        let call = calls true is in
        good_read tells.content lift (seen new.held) new.buffer is its.0 (λ says. its.1 ∙ told_some new.buffer says) carried.as_planned call.0 (let writes_same = call.1 in omega (arith, writes_same)) same
    well moved same false is =
        let its = moved.1 (is_read ∙ is) in
        let call = calls false is in
        let kept = carried.written is in
        subst (λ (bytes : List ℕ). IsCarriedWell tells.content lift bytes (seen new.held)) (sym kept)
        (good_write tells.content lift (seen new.held) is (λ says. its ∙ (told_some new.buffer says ∙ ap Some kept)) carried.as_planned (let reads_same = call.0 in omega (arith, reads_same)) call.1 same)

    badly : IsTorn seen tells old new → (seen old.held).faults < (seen new.held).faults → (b : Bool) → old.is_read ≡ b → IsCarriedBadly tells.content lift new.buffer (seen new.held)
    badly torn more true is =
        let call = calls true is in
        failed_read tells.content lift (seen new.held) new.buffer is (torn.0 (is_read ∙ is)) carried.as_planned call.0 (let writes_same = call.1 in omega (arith, writes_same)) more
    badly torn more false is =
        let call = calls false is in
        let kept = carried.written is in
        subst (λ (bytes : List ℕ). IsCarriedBadly tells.content lift bytes (seen new.held)) (sym kept)
        (failed_write tells.content lift (seen new.held) is carried.as_planned (let reads_same = call.0 in omega (arith, reads_same)) call.1 more)

    abbrev Fits : LiftView B → Type 0
    Fits lift = LiftFits seen tells config past lift

    by : (r : Carried) → CarriedAs seen tells r old new → Fits (record old { held = new.held; buffer = new.buffer; result = r })
    by Waiting never = absurd never
    by Good did = carried_well tells.content tells.plan config past (pager_after config past) lift fits (ap result_of waits) new.buffer (seen new.held) (well did.0 did.1 old.is_read refl)
    by (Bad c d) did =
        let more = did.3 in
        let fewer : (seen old.held).faults < (seen new.held).faults = let c_is = did.1 in let d_is = did.2 in omega (arith, c_is, d_is, more) in
        subst (λ (n : ℕ). Fits (record old { held = new.held; buffer = new.buffer; result = Bad n d })) (sym did.1)
        (subst (λ (n : ℕ). Fits (record old { held = new.held; buffer = new.buffer; result = Bad (seen old.held).faults n })) (sym did.2)
        (carried_badly tells.content tells.plan config past (pager_after config past) lift fits (ap result_of waits) new.buffer (seen new.held) (badly did.0 fewer old.is_read refl)))

    pub still_fits : Fits new
    still_fits = subst Fits (sym carried.same) (by new.result carried.result)

  pub all_still_fit : (old new : List (LiftView B)) → AreCarried seen tells old new → AllByRecursion (λ (lift : LiftView B). lift.result ≡ Waiting) old → (config : Config) (past : List Entry)
      → AllByRecursion (LiftFits seen tells config past) old → AllByRecursion (LiftFits seen tells config past) new
  all_still_fit old new carried wait config past fit =
      from_each (LiftFits seen tells config past) new
      (λ k y now.
      let was = there_too old new k y carried.count now in
      still_fits config past was.0 y (of_each (LiftFits seen tells config past) old k was.0 fit was.1)
      (of_each (λ (lift : LiftView B). lift.result ≡ Waiting) old k was.0 wait was.1) (carried.each k was.0 y was.1 now))
