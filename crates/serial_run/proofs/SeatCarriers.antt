-- The carriers of the seats, one after another.
use Rattle.std.proofs.Common.{◌≡◌, ℕ, ◌+◌, ◌<◌, Bool, true, false, List, [], ◌∷◌, ◌++◌, Some, length, nat_eq, slice_get, length-append, refl, sym, ap, ◌∙◌, subst, arith}
use Rattle.std.proofs.lemmas.Bool.{eqb-true, eq-eqb, false≢true}
use Rattle.frame_store.proofs.Rows.{get_left, get_right}
use Rattle.call_begins.specs.MayBegin.{empty}
use Rattle.lift_carriers.specs.CarrierView.{CarrierView}

-- those of the seats below this one, each without lifts
pub record AreFirst {B : Type 0} (cs : List (CarrierView B)) (n : ℕ) : Type 0 where
  pub count : length cs ≡ n
  pub each : (i : ℕ) → i < n → slice_get cs i ≡ Some (empty (record { 0 = i }))

pub none_first : {B : Type 0} (cs : List (CarrierView B)) → cs ≡ [] → AreFirst cs 0
none_first cs none = record { count = ap length none; each = λ i less. absurd (omega (arith, less)) }

pub one_more : {B : Type 0} (cs new : List (CarrierView B)) (x : CarrierView B) (n : ℕ) → AreFirst cs n → x ≡ empty (record { 0 = n }) → new ≡ cs ++ x ∷ [] → AreFirst new (n + 1)
one_more {B} cs new x n first is made = subst (λ (ds : List (CarrierView B)). AreFirst ds (n + 1)) (sym made) (record { count = length-append cs (x ∷ []) ∙ ap (λ (k : ℕ). k + 1) first.count; each = λ i less. there i less (nat_eq i n) refl })
  where
    there : (i : ℕ) → i < n + 1 → (b : Bool) → nat_eq i n ≡ b → slice_get (cs ++ x ∷ []) i ≡ Some (empty (record { 0 = i }))
    there i less true last =
        let same = eqb-true i n last in
        let count = first.count in
        ap (slice_get (cs ++ x ∷ [])) (let at : i ≡ length cs + 0 = omega (arith, same, count) in at) ∙ (get_right cs (x ∷ []) 0 x refl ∙ (ap Some is ∙ ap (λ (k : ℕ). Some (empty (record { 0 = k }))) (sym same)))
    there i less false other = get_left cs (x ∷ []) i (empty (record { 0 = i })) (first.each i (omega (arith, less, (λ (same : i ≡ n). false≢true (sym other ∙ eq-eqb i n same)))))
