-- Which job it is, by the number of its seat.
use Rattle.std.proofs.Common.{◌≡◌, ℕ, ◌+◌, ◌<◌, length, refl, ap, ◌∙◌, subst, arith}
use Rattle.vm_types.specs.declared.names.Seat.{Seat}
use Rattle.history_lock.specs.declared.lock.HistoryLock.{HistoryLock}
use Rattle.vm_state.specs.History.{History}
use Rattle.vm_state.specs.declared.base.StateBase.{StateBase}
use Rattle.vm_actors.specs.declared.doing.Doing.TheVariants.{Swapping, Writing}
use Rattle.replay_run.specs.Jobs.{IsIdleJob, IsJobAmong, IsProcessJob}
use Rattle.replay_run.specs.declared.jobs.Job.{Job}

abbrev seat_at : ℕ → Seat
seat_at n = record { 0 = n }

module _ {B : Type 0} (procs : ℕ) (lock : HistoryLock History StateBase) (job : Job B) (is : IsJobAmong procs lock job) where
  pub of_process : (job.carrier.seat).0 < procs → IsProcessJob lock job
  of_process under = record { base = is.base; playable = is.playable; job = is.job; may = subst (λ (n : ℕ). (job.carrier.seat).0 < n) is.may under }

  pub of_writer : (job.carrier.seat).0 ≡ procs → IsIdleJob lock job Writing
  of_writer here =
      let number : (job.carrier.seat).0 ≡ length is.base.config.procs = here ∙ is.may in
      (refl, record { base = is.base; playable = is.playable; job = is.job; may = ap seat_at number })

  pub of_swapper : procs < (job.carrier.seat).0 → IsIdleJob lock job Swapping
  of_swapper over =
      let there = is.job.there in
      let count = is.may in
      let number : (job.carrier.seat).0 ≡ length is.base.config.procs + 1 = omega (arith, over, there, count) in
      (refl, record { base = is.base; playable = is.playable; job = is.job; may = ap seat_at number })
