use Rattle.std.proofs.Common.{rules, ◌≡◌, ℕ, ◌+◌, Some, length, subst, ap, ◌∙◌, arith}
use Rattle.std.specs.Prelude.{slice_get}
use Rattle.history_lock.proofs.Places.{last_there, pushed, still_there}
use Rattle.lift_carriers.specs.CarrierView.{CarrierView}
use Rattle.vm_state.specs.Based.{base_of}
use Rattle.call_begins.specs.MayBegin.{empty}
use Rattle.replay_run.specs.Jobs.{IsJob}
use Rattle.replay_run.specs.declared.jobs.Job.{Job}
use Rattle.replay_run.proofs.Making.{made_job, one_less}
use Rattle.replay_run.proofs.jobs.make_jobs.Goals as goal

pub loop-pass-preserved : goal.loop-pass-preserved
loop-pass-preserved g c =
    let left : ℕ = length c.pop.new.self.items in
    let popped = c.in-Some.ensures.items in
    let inv = c.loop-pass.invariant in
    let number : c.len-k.result ≡ left = search rules in
    let taken = c.take_last-work.ensures in
    let fewer : length c.loop-pass.passes.items ≡ left + 1 = one_less c.pop.new.self.items c.loop-pass.passes.items c.in-Some.pass popped in
    let works : length c.loop-pass.works.items ≡ length c.take_last-work.new.items.items + 1 = one_less c.take_last-work.new.items.items c.loop-pass.works.items c.take_last-work.result taken in
    let more : length c.push_reserved.new.self.items ≡ length c.loop-pass.jobs.items + 1 = one_less c.loop-pass.jobs.items c.push_reserved.new.self.items _ c.push_reserved.ensures.items in
    let same = inv.same in
    let count = inv.count in
    let seats = c.requires.seats in
    let work_left : length c.take_last-work.new.items.items ≡ left = omega (arith, fewer, works, same) in
    let carrier : c.in_ok-carrier.carrier ≡ empty (record { 0 = left }) = c.in_ok-carrier.ensures ∙ ap (λ (n : ℕ). empty (record { 0 = n })) number in
    let asks = inv.works left c.take_last-work.result (subst (λ (n : ℕ). slice_get c.loop-pass.works.items n ≡ Some c.take_last-work.result) work_left (last_there c.take_last-work.new.items.items c.loop-pass.works.items c.take_last-work.result taken)) in
    record {
      passes = λ i pass at. inv.passes i pass (still_there c.pop.new.self.items c.loop-pass.passes.items c.in-Some.pass pass i popped at);
      works = λ i work at. inv.works i work (still_there c.take_last-work.new.items.items c.loop-pass.works.items c.take_last-work.result work i taken at);
      jobs =
          pushed (λ (i : ℕ) (job : Job _). IsJob c.args._lock.now (base_of c.args._of.now.value) job × ((job.carrier.seat).0 + i + 1 ≡ length c.args.passes.items)) c.loop-pass.jobs.items _ _ c.push_reserved.ensures.items inv.jobs (
            made_job c.args._lock.now (base_of c.args._of.now.value) left _ carrier (inv.passes left c.in-Some.pass (last_there c.pop.new.self.items c.loop-pass.passes.items c.in-Some.pass popped)) asks (omega (arith, fewer, count, seats)),
            (let seat = ap (λ (x : CarrierView _). (x.seat).0) carrier in omega (arith, fewer, count, seat)),
          );
      same = omega (arith, fewer, works, same);
      count = omega (arith, fewer, more, count);
      room = search rules;
    }

pub loop-pass-smaller : goal.loop-pass-smaller
loop-pass-smaller g c = (let fewer = one_less c.pop.new.self.items c.loop-pass.passes.items c.in-Some.pass c.in-Some.ensures.items in omega (arith, fewer))
