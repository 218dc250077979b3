use Rattle.std.proofs.Common.{◌≡◌, ℕ, ◌+◌, length, subst, sym, arith}
use Rattle.std.specs.Prelude.{Contains}
use Rattle.std.proofs.lemmas.List.Elements.{Contains-append_left, Contains-append_right}
use mathlib.Core.Logic.{dite}
use native.Mathlib.Decide.{ℕ_discrete}
use Rattle.history_lock.specs.Passes.{numbers}
use Rattle.history_lock.proofs.Places.{last_there, still_there}
use Rattle.vm_state.specs.Based.{base_of}
use Rattle.replay_run.proofs.Making.{contains_one, one_less}
use Rattle.replay_run.proofs.Joining.{one_ended, one_number}
use Rattle.replay_run.proofs.ending.end_all.Goals as goal

pub loop-next-init : goal.loop-next-init
loop-next-init g c =
    let rest = c.take_last-first.new.items.items in
    let taken = c.take_last-first.ensures in
    let mine = c.requires.workers (length rest) c.take_last-first.result (last_there rest c.args.started.items c.take_last-first.result taken) in
    let fewer : length c.args.started.items ≡ length rest + 1 = one_less rest c.args.started.items c.take_last-first.result taken in
    let ended = c.end_one-all.ensures mine.old mine.started in
    record {
      left = λ i s at. c.requires.workers i s (still_there rest c.args.started.items c.take_last-first.result s i taken at);
      ended = one_ended c.args.lock.now (base_of c.args.of.now.value) (length rest) mine.old c.end_one-all.result mine.fresh ended;
      others = λ k least under.
          let same : length rest ≡ k = omega (arith, least, under, fewer) in
          subst (λ (n : ℕ). Contains (numbers c.end_one-all.result.pass) n) same (contains_one (length rest) (numbers c.end_one-all.result.pass) (one_number c.args.lock.now (base_of c.args.of.now.value) (length rest) mine.old c.end_one-all.result mine.fresh ended));
    }

pub join_ends-all-requires-clause-second : goal.join_ends-all-requires-clause-second
join_ends-all-requires-clause-second g c κs within =
    let rest = c.pop.new.self.items in
    let mine = c.loop-next.invariant.left (length rest) c.in-Some.next (last_there rest c.loop-next.started.items c.in-Some.next c.in-Some.ensures.items) in
    one_ended c.args.lock.now (base_of c.args.of.now.value) (length rest) mine.old c.end_one-ended.result mine.fresh (c.end_one-ended.ensures mine.old mine.started)

pub loop-next-preserved : goal.loop-next-preserved
loop-next-preserved g c =
    let rest = c.pop.new.self.items in
    let popped = c.in-Some.ensures.items in
    let mine = c.loop-next.invariant.left (length rest) c.in-Some.next (last_there rest c.loop-next.started.items c.in-Some.next popped) in
    let fewer : length c.loop-next.started.items ≡ length rest + 1 = one_less rest c.loop-next.started.items c.in-Some.next popped in
    let owns = one_number c.args.lock.now (base_of c.args.of.now.value) (length rest) mine.old c.end_one-ended.result mine.fresh (c.end_one-ended.ensures mine.old mine.started) in
    record {
      left = λ i s at. c.loop-next.invariant.left i s (still_there rest c.loop-next.started.items c.in-Some.next s i popped at);
      ended = c.join_ends-all.ensures.ended;
      others = λ k least under.
          subst (λ ks. Contains ks k) (sym c.join_ends-all.ensures.numbers)
          (dite (ℕ_discrete k (length rest))
          (λ same. Contains-append_right (numbers c.loop-next.all.pass) (numbers c.end_one-ended.result.pass) k (subst (λ (n : ℕ). Contains (numbers c.end_one-ended.result.pass) n) (sym same) (contains_one (length rest) (numbers c.end_one-ended.result.pass) owns)))
          (λ apart. Contains-append_left (numbers c.loop-next.all.pass) (numbers c.end_one-ended.result.pass) k (c.loop-next.invariant.others k (omega (arith, fewer, least, apart)) under)));
    }
