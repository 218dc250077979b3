-- The workers of the seats, one after another.
use Rattle.std.proofs.Common.{◌≡◌, ℕ, ◌+◌, ◌<◌, Bool, true, false, List, [], ◌∷◌, ◌++◌, Some, length, nat_eq, slice_get, length-append, refl, sym, ap, ◌∙◌, subst, arith}
use Rattle.std.proofs.lemmas.Bool.{eqb-true, eq-eqb, false≢true}
use Rattle.std.proofs.lemmas.Option.{same_Some, slice_get_within}
use Rattle.vm_types.specs.BlockView.{BlockView, Tells}
use Rattle.pager_model.specs.Flights.{awaits_reuse, carrier_of}
use Rattle.frame_store.proofs.Rows.{get_left, get_right}
use Rattle.vm_state.specs.History.{History}
use Rattle.seat_schedules.specs.AtWork.{AreAtWork, IsAtWork, idle}
use Rattle.seat_schedules.specs.declared.worker.Worker.{Worker}
use Rattle.seat_schedules.proofs.OwnWork.{idle_at_work}

-- those of the seats below this one have done nothing yet
pub record AreFirst {B : Type 0} (ws : List (Worker B)) (n : ℕ) : Type 0 where
  pub count : length ws ≡ n
  pub each : (i : ℕ) → i < n → slice_get ws i ≡ Some (idle (record { 0 = i }))

pub none_first : {B : Type 0} (ws : List (Worker B)) → ws ≡ [] → AreFirst ws 0
none_first ws none = record { count = ap length none; each = λ i less. absurd (omega (arith, less)) }

pub one_more : {B : Type 0} (ws new : List (Worker B)) (x : Worker B) (n : ℕ) → AreFirst ws n → x ≡ idle (record { 0 = n }) → new ≡ ws ++ x ∷ [] → AreFirst new (n + 1)
one_more {B} ws new x n first is made = subst (λ (vs : List (Worker B)). AreFirst vs (n + 1)) (sym made) (record { count = length-append ws (x ∷ []) ∙ ap (λ (k : ℕ). k + 1) first.count; each = λ i less. there i less (nat_eq i n) refl })
  where
    there : (i : ℕ) → i < n + 1 → (b : Bool) → nat_eq i n ≡ b → slice_get (ws ++ x ∷ []) i ≡ Some (idle (record { 0 = i }))
    there i less true last =
        let same = eqb-true i n last in
        let count = first.count in
        ap (slice_get (ws ++ x ∷ [])) (let at : i ≡ length ws + 0 = omega (arith, same, count) in at) ∙ (get_right ws (x ∷ []) 0 x refl ∙ (ap Some is ∙ ap (λ (k : ℕ). Some (idle (record { 0 = k }))) (sym same)))
    there i less false other = get_left ws (x ∷ []) i (idle (record { 0 = i })) (first.each i (omega (arith, less, (λ (same : i ≡ n). false≢true (sym other ∙ eq-eqb i n same)))))

-- before the first entry they are at work
pub first_at_work : {B : Type 0} {seen : B → BlockView} {tells : Tells} (s : History) (ws : List (Worker B)) (n : ℕ) → s.past ≡ [] → n ≡ length s.config.procs + 2 → AreFirst ws n
    → AreAtWork seen tells s ws
first_at_work {B} {seen} {tells} s ws n none seats first = record {
  count = first.count ∙ seats;
  calm = ap awaits_reuse none;
  each = λ i w is.
      let here : w ≡ idle (record { 0 = i }) = same_Some w (idle (record { 0 = i })) (sym is ∙ first.each i (let within = slice_get_within ws i w is in let count = first.count in omega (arith, within, count))) in
      subst (λ (x : Worker B). IsAtWork seen tells s (record { 0 = i }) x) (sym here)
      (idle_at_work s (record { 0 = i }) (ap (carrier_of i) none));
}
