-- One of the workers of all seats works, and all are at work afterwards.
use Rattle.std.proofs.Common.{◌≡◌, ℕ, ◌+◌, ◌<◌, Bool, true, false, List, Some, length, nat_eq, slice_get, slice_index_or, slice_set, refl, sym, ap, ◌∙◌, subst}
use Rattle.std.proofs.lemmas.Bool.{eqb-false, eqb-true}
use Rattle.std.proofs.lemmas.List.{length-set}
use Rattle.std.proofs.lemmas.Option.{get_or_from_slice_get, same_Some}
use Rattle.vm_types.specs.BlockView.{BlockView, Tells}
use Rattle.vm_types.specs.Configuration.{IsWellFormed}
use Rattle.vm_types.specs.declared.config.Config.{Config}
use Rattle.pager_model.specs.Run.{IsRun}
use Rattle.frame_store.proofs.StoreKept.{get_set_other, get_set_same}
use Rattle.vm_state.proofs.ZeroCloses.{slice_get_within_some}
use Rattle.vm_state.specs.History.{History}
use Rattle.seat_schedules.specs.AtWork.{AreAtWork, HasWorked, IsAtWork}
use Rattle.seat_schedules.specs.declared.worker.Worker.{Worker}
use Rattle.seat_schedules.proofs.OthersAtWork.{other_at_work, respared}

module _ {B : Type 0} {seen : B → BlockView} {tells : Tells} where
  -- with other spare places
  pub respared_all : (s t : History) (ws : List (Worker B)) → t ≡ record s { spare = t.spare } → AreAtWork seen tells s ws → AreAtWork seen tells t ws
  respared_all s t ws same old = subst (λ (u : History). AreAtWork seen tells u ws) (sym same) (record {
    count = old.count;
    calm = old.calm;
    each = λ i w is. respared seen tells s s.past s.spare t.spare (record { 0 = i }) w (old.each i w is);
  })

  -- one of them
  pub worker_at : (s : History) (ws : List (Worker B)) (i : ℕ) (d : Worker B) → AreAtWork seen tells s ws → i < length ws → IsAtWork seen tells s (record { 0 = i }) (slice_index_or ws i d)
  worker_at s ws i d old there =
      let x = slice_get_within_some ws i there in
      subst (λ (w : Worker B). IsAtWork seen tells s (record { 0 = i }) w) (sym (get_or_from_slice_get ws i x.0 d x.1)) (old.each i x.0 x.1)

  -- it has worked
  pub worked_all : (s t : History) (ws : List (Worker B)) (i : ℕ) (w : Worker B) → AreAtWork seen tells s ws → i < length ws → IsWellFormed t.config → IsRun t.config t.past → HasWorked seen tells s t (record { 0 = i }) w
      → AreAtWork seen tells t (slice_set ws i w)
  worked_all s t ws i w old there formed run worked = record {
    count = length-set ws i w ∙ (old.count ∙ ap (λ (c : Config). length c.procs + 2) (sym config_is));
    calm = worked.calm;
    each = λ j x is. by j x is (nat_eq i j) refl;
  }
    where
      config_is : t.config ≡ s.config
      config_is = ap (λ (u : History). u.config) worked.same

      by : (j : ℕ) (x : Worker B) → slice_get (slice_set ws i w) j ≡ Some x → (b : Bool) → nat_eq i j ≡ b → IsAtWork seen tells t (record { 0 = j }) x
      by j x is true same =
          let j_is : i ≡ j = eqb-true i j same in
          let x_is : w ≡ x = same_Some w x (sym (get_set_same ws i w there) ∙ (ap (slice_get (slice_set ws i w)) j_is ∙ is)) in
          subst (λ (n : ℕ). IsAtWork seen tells t (record { 0 = n }) x) j_is
          (subst (λ (y : Worker B). IsAtWork seen tells t (record { 0 = i }) y) x_is worked.at_work)
      by j x is false apart =
          other_at_work s t (record { 0 = i }) (record { 0 = j }) w x apart (subst IsWellFormed config_is formed) run worked
          (old.each j x (sym (get_set_other ws i j w (eqb-false i j apart)) ∙ is))
