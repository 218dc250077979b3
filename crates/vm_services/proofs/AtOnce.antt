-- The services that are answered at once.
use Rattle.std.proofs.Common.{◌≡◌, ◌⊎◌, inl, inr, ◌+◌, ◌&&◌, ℕ, Bool, true, false, cond, Option, Some, None, count_by, nat_le, slice_get, refl, sym, subst}
use Rattle.vm_types.specs.Ring.{Ring, fixed}
use Rattle.vm_types.specs.declared.config.ProcSpec.{ProcSpec}
use Rattle.vm_types.specs.declared.names.Addr.{Addr}
use Rattle.vm_types.specs.declared.names.Seat.{Seat}
use Rattle.vm_types.specs.declared.reply.Answer.TheVariants as answer
use Rattle.vm_types.specs.declared.service.Service.{Service}
use Rattle.vm_types.specs.declared.service.Service.TheVariants as service
use Rattle.pager_model.specs.Pager.{Pager}
use Rattle.pager_model.specs.Ring.{range_locked, range_pinned}
use Rattle.pager_policy.specs.Serve.{limits_given, lock_given, served_with}
use Rattle.pager_model.specs.MappedRanges.{is_unmapped}
use Rattle.pager_model.specs.Served.{is_slot_in}
use Rattle.state_pages.specs.ServiceAnswers.{limit_answer, lock_answer}
use Rattle.vm_state.specs.Answering.{answer_in}
use Rattle.vm_state.specs.History.{History, pager}
use Rattle.vm_services.specs.Cases.{at_service}

-- with the first of its refusals that applies, or with what it does
abbrev IsAtOnce : History → Seat → Service → Type 0
IsAtOnce s seat x = at_service s seat x ≡ served_with x (answer_in s.config (pager s) seat.0 x)

-- a service that makes the ring this one
locks : (a : Pager) (p : ℕ) (x : Service) (at : Addr) (pages : ℕ) (ring : Ring) (b : Bool) (o : Option ProcSpec)
    → cond b (served_with x answer.Unmapped) (lock_given a p x at.0 pages ring o) ≡ served_with x (cond b answer.Unmapped (lock_answer (a.ring p) ring at.0 pages o))
locks a p x at pages ring true o = refl
locks a p x at pages ring false None = refl
locks a p x at pages ring false (Some spec) = by (nat_le (fixed ring.slots) spec.locks)
  where
    by : (b : Bool) → cond b (served_with x (answer.Count (count_by (is_slot_in at.0 pages) (a.ring p).slots))) (served_with x answer.LockLimit)
        ≡ served_with x (cond b (answer.Count (count_by (is_slot_in at.0 pages) (a.ring p).slots)) answer.LockLimit)
    by true = refl
    by false = refl

adjusts : (n : ℕ) (o : Option ProcSpec) → limits_given n o ≡ served_with (service.Adjust n) (limit_answer n o)
adjusts n None = refl
adjusts n (Some spec) = by (nat_le (spec.locks + 2) n && nat_le n spec.extent)
  where
    by : (b : Bool) → cond b (served_with (service.Adjust n) answer.Good) (served_with (service.Adjust n) answer.BadLimit) ≡ served_with (service.Adjust n) (cond b answer.Good answer.BadLimit)
    by true = refl
    by false = refl

-- a service that takes no steps
abbrev pub TakesNoSteps : Service → Type 0
TakesNoSteps x =
    ((at : Addr) × (pages : ℕ) × (prot : ℕ) × (x ≡ service.Create at pages prot))
    ⊎ (((at : Addr) × (pages : ℕ) × (prot : ℕ) × (x ≡ service.Protect at pages prot))
    ⊎ (((at : Addr) × (pages : ℕ) × (x ≡ service.Lock at pages)) ⊎ (((at : Addr) × (pages : ℕ) × (x ≡ service.Unlock at pages))
    ⊎ (((at : Addr) × (pages : ℕ) × (x ≡ service.Pin at pages)) ⊎ (((at : Addr) × (pages : ℕ) × (x ≡ service.Unpin at pages)) ⊎ ((n : ℕ) × (x ≡ service.Adjust n)))))))

pub at_once : (s : History) (seat : Seat) (x : Service) → TakesNoSteps x → at_service s seat x ≡ served_with x (answer_in s.config (pager s) seat.0 x)
at_once s seat x (inl (at, pages, prot, is)) = subst (IsAtOnce s seat) (sym is) refl
at_once s seat x (inr (inl (at, pages, prot, is))) = subst (IsAtOnce s seat) (sym is) refl
at_once s seat x (inr (inr (inl (at, pages, is)))) = subst (IsAtOnce s seat) (sym is) (locks (pager s) seat.0 (service.Lock at pages) at pages (range_locked true at.0 pages ((pager s).ring seat.0)) (is_unmapped (pager s) seat.0 at.0 pages) (slice_get s.config.procs seat.0))
at_once s seat x (inr (inr (inr (inl (at, pages, is))))) = subst (IsAtOnce s seat) (sym is) refl
at_once s seat x (inr (inr (inr (inr (inl (at, pages, is)))))) = subst (IsAtOnce s seat) (sym is) (locks (pager s) seat.0 (service.Pin at pages) at pages (range_pinned true at.0 pages ((pager s).ring seat.0)) (is_unmapped (pager s) seat.0 at.0 pages) (slice_get s.config.procs seat.0))
at_once s seat x (inr (inr (inr (inr (inr (inl (at, pages, is))))))) = subst (IsAtOnce s seat) (sym is) refl
at_once s seat x (inr (inr (inr (inr (inr (inr (n, is))))))) = subst (IsAtOnce s seat) (sym is) (adjusts n (slice_get s.config.procs seat.0))
