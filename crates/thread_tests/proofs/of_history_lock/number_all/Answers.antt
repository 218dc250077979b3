-- The last pass that is left becomes the next job.
use Rattle.std.proofs.Common.{rules, ◌≡◌, ℕ, ◌+◌, length, subst, sym, ap, ◌∙◌, arith, length-append}
use Rattle.thread_tests.specs.declared.of_history_lock.Job.{Job}
use Rattle.history_lock.specs.Passes.{OwnsOnly}
use Rattle.history_lock.proofs.Places.{pushed, still_there, last_there}
use Rattle.thread_tests.proofs.of_history_lock.number_all.Goals as goal

pub loop-pass-preserved : goal.loop-pass-preserved
loop-pass-preserved c = let left : ℕ = length c.pop.new.self.items in let popped = c.in-Some.ensures.items in let inv = c.loop-pass.invariant in
    let number : c.len-number.result ≡ left = search rules in let count = inv.count in
    let fewer : length c.loop-pass.passes.items ≡ left + 1 = ap length popped ∙ length-append c.pop.new.self.items _ in
    let more : length c.push_reserved.new.self.items ≡ length c.loop-pass.jobs.items + 1 = ap length c.push_reserved.ensures.items ∙ length-append c.loop-pass.jobs.items _ in record {
      passes = λ i pass at. inv.passes i pass (still_there c.pop.new.self.items c.loop-pass.passes.items c.in-Some.pass pass i popped at);
      jobs = pushed (λ (i : ℕ) (job : Job). OwnsOnly c.args._lock.now job.pass job.number × (job.number + i + 1 ≡ length c.args.passes.items)) c.loop-pass.jobs.items _ _ c.push_reserved.ensures.items inv.jobs
          (subst (λ (k : ℕ). OwnsOnly c.args._lock.now c.in-Some.pass k) (sym number) (inv.passes left c.in-Some.pass (last_there c.pop.new.self.items c.loop-pass.passes.items c.in-Some.pass popped)), omega arith);
      count = omega arith;
      room = search rules;
    }
