-- What is counted of the lifts tells whether all of them failed, and whether the first one did.
use Rattle.std.proofs.Common.{◌≡◌, ℕ, ◌&&◌, Bool, true, false, not, List, [], ◌∷◌, count_by, nat_eq, refl, sym, ap, ◌∙◌, arith}
use Rattle.std.proofs.lemmas.Bool.{ne_eqb}
use Rattle.pager_policy.specs.Landings.{all_bad, first_bad, is_bad_outcome}
use Rattle.pager_rules.proofs.Basics.{count_cons_no, count_cons_yes}
use Rattle.frame_store.specs.LiftView.{LiftView}
use Rattle.frame_store.specs.declared.lift.Carried.{Carried}
use Rattle.frame_store.specs.declared.lift.Carried.TheVariants.{Waiting, Good, Bad}
use Rattle.lift_carriers.specs.Counted.{first_failed, has_failed, lift_failed}
use Rattle.carried_landings.proofs.AllLand.{outcomes_of}
use Rattle.carried_landings.proofs.LandingsAgree.{outcome_of}

same_failure : (r : Carried) → is_bad_outcome (outcome_of r) ≡ has_failed r
same_failure Waiting = refl
same_failure Good = refl
same_failure (Bad before after) = refl

module _ {B : Type 0} where
  pub all_failed : (lifts : List (LiftView B)) → nat_eq (count_by (λ (lift : LiftView B). not (lift_failed lift)) lifts) 0 ≡ all_bad (outcomes_of lifts)
  all_failed [] = refl
  all_failed (lift ∷ lifts) = go (lift_failed lift) refl (all_failed lifts)
    where
      good : LiftView B → Bool
      good lift = not (lift_failed lift)

      go : (b : Bool) → lift_failed lift ≡ b → nat_eq (count_by good lifts) 0 ≡ all_bad (outcomes_of lifts) → nat_eq (count_by good (lift ∷ lifts)) 0 ≡ all_bad (outcomes_of (lift ∷ lifts))
      go true is rest =
          ap (λ (n : ℕ). nat_eq n 0) (count_cons_no good lift lifts (ap not is))
          ∙ (rest ∙ ap (λ (b : Bool). b && all_bad (outcomes_of lifts)) (sym (same_failure lift.result ∙ is)))
      go false is rest =
          let more = count_cons_yes good lift lifts (ap not is) in
          ne_eqb (count_by good (lift ∷ lifts)) 0 (λ none. omega (arith, none, more)) ∙ ap (λ (b : Bool). b && all_bad (outcomes_of lifts)) (sym (same_failure lift.result ∙ is))

  pub first_failed_is : (lifts : List (LiftView B)) → first_failed lifts ≡ first_bad (outcomes_of lifts)
  first_failed_is [] = refl
  first_failed_is (lift ∷ lifts) = sym (same_failure lift.result)
