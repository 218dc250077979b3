use Rattle.std.proofs.Common.{◌∙◌, ℕ, List, Option, append-nil, inl, inr, refl, reverse, subst, sym}
use Rattle.std.specs.Prelude.{Contains, IfOk, OnErr}
use Rattle.std.proofs.lemmas.Bool.{false≢true}
use Rattle.history_lock.specs.Passes.{base_of as base_seen, numbers, seen}
use Rattle.vm_types.specs.declared.service.Request.{Request}
use Rattle.pager_model.specs.Order.{answered}
use Rattle.vm_state.specs.declared.base.StateBase.{StateBase}
use Rattle.seat_turns.specs.Steps.{seat_of}
use Rattle.vm_actors.specs.Between.{NoneOpen}
use Rattle.vm_actors.specs.Doings.{Knows, MayAsk}
use Rattle.vm_actors.specs.OwnEntries.{GoesOnSilently, IsReplied}
use Rattle.vm_actors.proofs.Answering.{all_at, all_some, answered_all, answered_more, answered_none, answered_some, calm_after}
use Rattle.vm_actors.proofs.InTurns.{none_yet, work_in_turns}
use Rattle.vm_actors.proofs.NextAsked.{one_answered}
use Rattle.vm_actors.proofs.Rounds.{open_none}
use Rattle.vm_actors.proofs.process_work.process_worker.Goals as goal

pub loop-i-init : goal.loop-i-init
loop-i-init g c = record {
  same = refl;
  idle = c.requires.idle;
  base = refl;
  owns = refl;
  calm = inl (refl, refl);
  landed = c.requires.landed;
  carrier = c.requires.carrier;
  answers = sym (append-nil (answered (c.args.p).0 (reverse (seen c.args.pass))));
  turns = none_yet (base_seen c.args.pass) (c.args.p).0 c.args.work.now (seen c.args.pass);
  done = answered_none (numbers c.args.pass) (seen c.args.pass) c.args.work.now;
}

pub ask-requires-clause-knows : goal.ask-requires-clause-knows
ask-requires-clause-knows g c κs within =
    subst (λ (base : Option StateBase). Knows (MayAsk c.args.p c.at-x.result) base) (sym c.loop-i.invariant.base)
    (all_at (λ (x : Request). Knows (MayAsk c.args.p x) (base_seen c.args.pass)) c.args.work.now c.loop-i.i c.at-x.result c.requires.knows c.at-x.ensures)

pub ask-requires-clause-number : goal.ask-requires-clause-number
ask-requires-clause-number g c κs within = subst (λ (ns : List ℕ). Contains ns (c.args.p).0) (sym c.loop-i.invariant.owns) c.requires.number

pub ask-requires-clause-landed : goal.ask-requires-clause-landed
ask-requires-clause-landed g c κs within = open_none (numbers c.args.pass) (numbers c.loop-i.pass) (seen c.loop-i.pass) (sym c.loop-i.invariant.owns) c.loop-i.invariant.landed

pub returns-in-Err-clause-landed : goal.returns-in-Err-clause-landed
returns-in-Err-clause-landed g c = open_none (numbers c.loop-i.pass) (numbers c.args.pass) (seen c.ask.new.pass) c.loop-i.invariant.owns c.ask.ensures.landed

pub returns-in-Err-clause-all : goal.returns-in-Err-clause-all
returns-in-Err-clause-all g c = λ never. absurd (false≢true (sym never))

pub returns-clause-some : goal.returns-clause-some
returns-clause-some g c =
    all_some (numbers c.args.pass) (seen c.args.pass) (seen c.loop-i.pass) c.args.work.now
    (answered_all (numbers c.args.pass) (seen c.args.pass) (seen c.loop-i.pass) c.args.work.now c.loop-i.i c.loop-i-test.false c.loop-i.invariant.done)

pub returns-clause-all : goal.returns-clause-all
returns-clause-all g c =
    λ sufficed. answered_all (numbers c.args.pass) (seen c.args.pass) (seen c.loop-i.pass) c.args.work.now c.loop-i.i c.loop-i-test.false c.loop-i.invariant.done

pub returns-clause-calm : goal.returns-clause-calm
returns-clause-calm g c = calm_after c.args.work.now c.loop-i.i (seen c.args.pass) (seen c.loop-i.pass) c.loop-i-test.false c.loop-i.invariant.calm

pub returns-in-Err-clause-calm : goal.returns-in-Err-clause-calm
returns-in-Err-clause-calm g c = λ none. c.ask.ensures.calm

pub returns-in-Err-clause-turns : goal.returns-in-Err-clause-turns
returns-in-Err-clause-turns g c =
    work_in_turns (base_seen c.args.pass) (base_seen c.loop-i.pass) c.loop-i.invariant.base (c.args.p).0 (seen c.args.pass) (seen c.loop-i.pass) (seen c.ask.new.pass) c.args.work.now c.loop-i.i c.at-x.result c.at-x.ensures
    c.loop-i.invariant.answers c.loop-i.invariant.turns c.ask.ensures.turns

pub returns-in-Err-clause-some : goal.returns-in-Err-clause-some
returns-in-Err-clause-some g c =
    answered_some (numbers c.args.pass) (seen c.args.pass) (seen c.loop-i.pass) (seen c.ask.new.pass) c.args.work.now c.loop-i.i c.loop-i.invariant.done
    (subst (λ (ns : List ℕ). GoesOnSilently ns (seen c.loop-i.pass) (seen c.ask.new.pass)) c.loop-i.invariant.owns (subst (λ r. OnErr r (GoesOnSilently (numbers c.loop-i.pass) (seen c.loop-i.pass) (seen c.ask.new.pass))) c.in-Err.is c.ask.ensures.silent))

pub loop-i-preserved : goal.loop-i-preserved
loop-i-preserved g c = record {
  same = c.ask.ensures.same ∙ c.loop-i.invariant.same;
  idle = c.ask.ensures.idle;
  base = c.ask.ensures.base ∙ c.loop-i.invariant.base;
  owns = c.ask.ensures.numbers ∙ c.loop-i.invariant.owns;
  calm = inr c.ask.ensures.calm;
  landed = subst (λ (ns : List ℕ). NoneOpen ns (seen c.ask.new.pass)) c.loop-i.invariant.owns c.ask.ensures.landed;
  carrier = c.ask.ensures.carrier;
  answers =
      one_answered (numbers c.args.pass) (c.args.p).0 c.requires.number (seat_of c.args.p) c.at-x.result c.in-Ok.field-0 (answered (c.args.p).0 (reverse (seen c.args.pass))) c.args.work.now c.loop-i.i (seen c.loop-i.pass) (seen c.ask.new.pass) refl c.at-x.ensures c.loop-i.invariant.answers
      (subst (λ (ns : List ℕ). IsReplied (seat_of c.args.p) c.at-x.result ns (seen c.loop-i.pass) (seen c.ask.new.pass) c.in-Ok.field-0) c.loop-i.invariant.owns (subst (λ r. IfOk r (IsReplied (seat_of c.args.p) c.at-x.result (numbers c.loop-i.pass) (seen c.loop-i.pass) (seen c.ask.new.pass))) c.in-Ok.is c.ask.ensures.replied));
  turns =
      work_in_turns (base_seen c.args.pass) (base_seen c.loop-i.pass) c.loop-i.invariant.base (c.args.p).0 (seen c.args.pass) (seen c.loop-i.pass) (seen c.ask.new.pass) c.args.work.now c.loop-i.i c.at-x.result c.at-x.ensures
      c.loop-i.invariant.answers c.loop-i.invariant.turns c.ask.ensures.turns;
  done =
      answered_more (numbers c.args.pass) (seen c.args.pass) (seen c.loop-i.pass) (seen c.ask.new.pass) c.args.work.now c.loop-i.i c.loop-i.invariant.done (seat_of c.args.p) c.at-x.result c.in-Ok.field-0 c.at-x.ensures
      (subst (λ (ns : List ℕ). IsReplied (seat_of c.args.p) c.at-x.result ns (seen c.loop-i.pass) (seen c.ask.new.pass) c.in-Ok.field-0) c.loop-i.invariant.owns (subst (λ r. IfOk r (IsReplied (seat_of c.args.p) c.at-x.result (numbers c.loop-i.pass) (seen c.loop-i.pass) (seen c.ask.new.pass))) c.in-Ok.is c.ask.ensures.replied));
}
