-- Each job brings its number.
use Rattle.std.proofs.Common.{rules, ℕ, length, subst, sym, arith, Contains}
use Rattle.std.proofs.lemmas.List.Elements.{Contains-append_left, Contains-append_right}
use mathlib.Core.Logic.{dite}
use native.Mathlib.Decide.{ℕ_discrete}
use Rattle.history_lock.specs.Passes.{numbers}
use Rattle.history_lock.proofs.Places.{still_there, last_there}
use Rattle.thread_tests.proofs.of_history_lock.absorb_all.Goals as goal

pub absorb-requires-clause-other_idle : goal.absorb-requires-clause-other_idle
absorb-requires-clause-other_idle c =
    let mine = c.loop-job.invariant.jobs (length c.pop-in-loop-job.new.self.items) c.in-Some.job (last_there c.pop-in-loop-job.new.self.items c.loop-job.jobs.items c.in-Some.job c.in-Some.ensures.items) in
    mine.2.1

pub loop-job-preserved : goal.loop-job-preserved
loop-job-preserved c = let left : ℕ = length c.pop-in-loop-job.new.self.items in let popped = c.in-Some.ensures.items in let inv = c.loop-job.invariant in let fewer = c.in-Some.ensures.len in
    let mine = inv.jobs left c.in-Some.job (last_there c.pop-in-loop-job.new.self.items c.loop-job.jobs.items c.in-Some.job popped) in let place = mine.1 in record {
      own = search rules;
      idle = search rules;
      jobs = λ i job at. inv.jobs i job (still_there c.pop-in-loop-job.new.self.items c.loop-job.jobs.items c.in-Some.job job i popped at);
      all = λ k l. subst (λ ks. Contains ks k) (sym c.absorb.ensures.numbers) (dite (ℕ_discrete k mine.0)
          (λ e. Contains-append_right (numbers c.loop-job.pass) (numbers c.in-Some.job.pass) k (subst (λ ks. Contains ks k) (sym mine.2.2) (0, omega arith, sym e)))
          (λ n. Contains-append_left (numbers c.loop-job.pass) (numbers c.in-Some.job.pass) k (inv.all k (omega arith))));
    }
