-- A job as it is made, of the last pass.
use Rattle.std.proofs.Common.{◌≡◌, ℕ, ◌+◌, ◌<◌, List, [], ◌∷◌, ◌++◌, length, refl, sym, ap, ◌∙◌, subst, arith, length-append}
use Rattle.std.specs.Prelude.{Contains}
use Rattle.history_lock.specs.declared.lock.HistoryLock.{HistoryLock}
use Rattle.pager_model.specs.Order.{requests_of}
use Rattle.lift_carriers.specs.CarrierView.{CarrierView}
use Rattle.vm_state.specs.History.{History}
use Rattle.vm_state.specs.declared.base.StateBase.{StateBase}
use Rattle.call_begins.specs.MayBegin.{empty}
use Rattle.replay_run.specs.Jobs.{IsFresh, IsJob}
use Rattle.replay_run.specs.declared.jobs.Job.{Job}

-- a list is one longer than all but its last item
pub one_less : {A : Type 0} (xs ys : List A) (x : A) → ys ≡ xs ++ x ∷ [] → length ys ≡ length xs + 1
one_less xs ys x is = ap length is ∙ length-append xs (x ∷ [])

module _ {B : Type 0} (lock : HistoryLock History StateBase) (b : StateBase) where
  pub made_job : (k : ℕ) (job : Job B) → job.carrier ≡ empty (record { 0 = k }) → IsFresh lock b k job.pass → job.work.items ≡ requests_of k b.config.body → k < length b.config.procs + 2 → IsJob lock b job
  made_job k job is fresh asks there =
      let seat : (job.carrier.seat).0 ≡ k = ap (λ (c : CarrierView B). (c.seat).0) is in
      record {
        fresh = subst (λ (n : ℕ). IsFresh lock b n job.pass) (sym seat) fresh;
        carries = is ∙ sym (ap (λ (c : CarrierView B). empty c.seat) is);
        asks = asks ∙ ap (λ (n : ℕ). requests_of n b.config.body) (sym seat);
        there = subst (λ (n : ℕ). n < length b.config.procs + 2) (sym seat) there;
      }

-- a list of one number has it
pub contains_one : (k : ℕ) (numbers : List ℕ) → numbers ≡ k ∷ [] → Contains numbers k
contains_one k numbers is = subst (λ (ns : List ℕ). Contains ns k) (sym is) (0, omega arith, refl)
