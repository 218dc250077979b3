use Rattle.std.proofs.Common.{◌∙◌, ℕ, [], ◌∷◌, ap, subst, sym}
use Rattle.history_lock.specs.Views.{unseen}
use Rattle.vm_state.specs.Based.{base_of}
use Rattle.vm_state.specs.History.{History}
use Rattle.replay_run.specs.Jobs.{AreJobs, IsPlayable}
use Rattle.replay_run.proofs.playing.deal.Goals as goal

pub make_jobs-requires-clause-fresh : goal.make_jobs-requires-clause-fresh
make_jobs-requires-clause-fresh g c κs within i pass at = record {
  own = c.in_ok-lock.ensures.own i pass at;
  idle = c.in_ok-lock.ensures.idle i pass at;
  views = c.in_ok-lock.ensures.view i pass at ∙ ap (λ (s : History). unseen (i ∷ []) (base_of s)) (sym c.requires.same);
}

pub returns-clause-jobs : goal.returns-clause-jobs
returns-clause-jobs g c = record {
  playable = subst (λ (s : History). IsPlayable (base_of s)) (sym c.requires.same) c.requires.playable;
  processes = c.requires.procs;
  each = subst (λ (n : ℕ). AreJobs c.in_ok-lock.lock (base_of c.args.of.now.value) n c.in_ok-jobs.jobs.items) c.in_ok-lock.ensures.count c.in_ok-jobs.ensures.jobs;
  count = c.in_ok-jobs.ensures.count ∙ c.in_ok-lock.ensures.count;
}
