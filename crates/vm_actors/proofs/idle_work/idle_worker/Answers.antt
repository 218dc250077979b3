use Rattle.std.proofs.Common.{◌∙◌, ◌≡◌, ℕ, true, false, List, Option, refl, ap, subst, sym}
use Rattle.std.specs.Prelude.{Contains}
use Rattle.std.proofs.lemmas.Bool.{false≢true}
use Rattle.history_lock.specs.Passes.{base_of as base_seen, numbers, seen}
use Rattle.vm_state.specs.declared.base.StateBase.{StateBase}
use Rattle.call_begins.specs.MayBegin.{empty}
use Rattle.vm_actors.specs.Doings.{Knows, MayDo}
use Rattle.vm_actors.specs.OwnEntries.{AreSilent}
use Rattle.vm_actors.proofs.DoneInTurns.{knows_any}
use Rattle.vm_actors.proofs.InTurns.{round_in_turns, stays_in_turns}
use Rattle.vm_actors.proofs.OwnTurns.{goes_nowhere}
use Rattle.vm_actors.proofs.Rounds.{open_none, round_answered, round_done, round_silent}
use Rattle.vm_actors.proofs.idle_work.idle_worker.Goals as goal

pub loop-init : goal.loop-init
loop-init g c = record {
  same = refl;
  idle = c.requires.idle;
  base = refl;
  owns = refl;
  more = goes_nowhere (numbers c.args.pass) AreSilent (seen c.args.pass) tt;
  turns = stays_in_turns (MayDo (c.args.carrier).seat c.args.doing) (base_seen c.args.pass) ((c.args.carrier).seat).0 (seen c.args.pass) c.requires.knows;
  landed = c.requires.landed;
  carrier = refl;
}

pub look_answered-last-requires-clause-knows : goal.look_answered-last-requires-clause-knows
look_answered-last-requires-clause-knows g c κs within =
    knows_any (MayDo (c.args.carrier).seat c.args.doing) (base_seen c.loop.pass)
    (subst (λ (base : Option StateBase). Knows (MayDo (c.args.carrier).seat c.args.doing) base) (sym c.loop.invariant.base) c.requires.knows)

pub look_answered-last-requires-clause-landed : goal.look_answered-last-requires-clause-landed
look_answered-last-requires-clause-landed g c κs within = open_none (numbers c.args.pass) (numbers c.loop.pass) (seen c.loop.pass) (sym c.loop.invariant.owns) c.loop.invariant.landed

pub work_once-requires-clause-knows : goal.work_once-requires-clause-knows
work_once-requires-clause-knows g c κs within =
    subst (λ (base : Option StateBase). Knows (MayDo (c.loop.carrier).seat c.args.doing) base) (sym (c.look_answered-last.ensures.base ∙ c.loop.invariant.base))
    (subst (λ x. Knows (MayDo x.seat c.args.doing) (base_seen c.args.pass)) (sym c.loop.invariant.carrier) c.requires.knows)

pub work_once-requires-clause-number : goal.work_once-requires-clause-number
work_once-requires-clause-number g c κs within =
    subst (λ (ns : List ℕ). Contains ns ((c.loop.carrier).seat).0) (sym (c.look_answered-last.ensures.numbers ∙ c.loop.invariant.owns))
    (subst (λ x. Contains (numbers c.args.pass) (x.seat).0) (sym c.loop.invariant.carrier) c.requires.number)

pub work_once-requires-clause-landed : goal.work_once-requires-clause-landed
work_once-requires-clause-landed g c κs within =
    open_none (numbers c.loop.pass) (numbers c.look_answered-last.new.pass) (seen c.look_answered-last.new.pass) (sym c.look_answered-last.ensures.numbers) c.look_answered-last.ensures.landed

pub work_once-requires-clause-carrier : goal.work_once-requires-clause-carrier
work_once-requires-clause-carrier g c κs within = subst (λ x. x ≡ empty x.seat) (sym c.loop.invariant.carrier) c.requires.carrier

pub returns-in-Err-clause-silent : goal.returns-in-Err-clause-silent
returns-in-Err-clause-silent g c =
    round_silent (numbers c.args.pass) (numbers c.loop.pass) (numbers c.look_answered-last.new.pass) c.loop.invariant.owns c.look_answered-last.ensures.numbers (seen c.args.pass) (seen c.loop.pass) (seen c.look_answered-last.new.pass) (seen c.work_once.new.pass) c.loop.invariant.more c.look_answered-last.ensures.none c.work_once.ensures.silent

pub returns-in-Err-clause-answered : goal.returns-in-Err-clause-answered
returns-in-Err-clause-answered g c = λ never. absurd (false≢true (sym never))

pub returns-in-Err-clause-done : goal.returns-in-Err-clause-done
returns-in-Err-clause-done g c = λ never. absurd (false≢true (sym never))

pub returns-in-Err-clause-turns : goal.returns-in-Err-clause-turns
returns-in-Err-clause-turns g c =
    round_in_turns (MayDo (c.args.carrier).seat c.args.doing) (base_seen c.args.pass) (base_seen c.look_answered-last.new.pass) (numbers c.args.pass) (numbers c.loop.pass) (c.args.carrier).seat (c.loop.carrier).seat
    (seen c.args.pass) (seen c.loop.pass) (seen c.look_answered-last.new.pass) (seen c.work_once.new.pass) c.requires.knows c.requires.number c.loop.invariant.owns (c.look_answered-last.ensures.base ∙ c.loop.invariant.base)
    (ap (λ x. x.seat) c.loop.invariant.carrier) c.loop.invariant.turns c.look_answered-last.ensures.none c.work_once.ensures.turns

pub returns-in-Err-clause-landed : goal.returns-in-Err-clause-landed
returns-in-Err-clause-landed g c = open_none (numbers c.look_answered-last.new.pass) (numbers c.args.pass) (seen c.work_once.new.pass) (c.look_answered-last.ensures.numbers ∙ c.loop.invariant.owns) c.work_once.ensures.landed

pub returns-then-last-clause-silent : goal.returns-then-last-clause-silent
returns-then-last-clause-silent g c =
    round_silent (numbers c.args.pass) (numbers c.loop.pass) (numbers c.look_answered-last.new.pass) c.loop.invariant.owns c.look_answered-last.ensures.numbers (seen c.args.pass) (seen c.loop.pass) (seen c.look_answered-last.new.pass) (seen c.work_once.new.pass) c.loop.invariant.more c.look_answered-last.ensures.none c.work_once.ensures.silent

pub returns-then-last-clause-answered : goal.returns-then-last-clause-answered
returns-then-last-clause-answered g c =
    λ sufficed. round_answered (numbers c.args.pass) (numbers c.loop.pass) (numbers c.look_answered-last.new.pass) c.loop.invariant.owns c.look_answered-last.ensures.numbers (seen c.args.pass) (seen c.loop.pass) (seen c.look_answered-last.new.pass) (seen c.work_once.new.pass) c.loop.invariant.more c.look_answered-last.ensures.none c.work_once.ensures.silent (base_seen c.loop.pass) (base_seen c.args.pass) c.loop.invariant.base (c.look_answered-last.ensures.answered c.if-last.true)

pub returns-then-last-clause-done : goal.returns-then-last-clause-done
returns-then-last-clause-done g c =
    λ sufficed. round_done (numbers c.args.pass) (numbers c.loop.pass) (numbers c.look_answered-last.new.pass) c.loop.invariant.owns c.look_answered-last.ensures.numbers (seen c.args.pass) (seen c.loop.pass) (seen c.look_answered-last.new.pass) (seen c.work_once.new.pass) c.loop.invariant.more c.look_answered-last.ensures.none c.work_once.ensures.silent c.args.doing (base_seen c.look_answered-last.new.pass) (base_seen c.args.pass) (c.look_answered-last.ensures.base ∙ c.loop.invariant.base) c.in-Ok.field-0 c.in-Ok.ensures.made c.in-Ok.ensures.rests

pub returns-then-last-clause-turns : goal.returns-then-last-clause-turns
returns-then-last-clause-turns g c =
    round_in_turns (MayDo (c.args.carrier).seat c.args.doing) (base_seen c.args.pass) (base_seen c.look_answered-last.new.pass) (numbers c.args.pass) (numbers c.loop.pass) (c.args.carrier).seat (c.loop.carrier).seat
    (seen c.args.pass) (seen c.loop.pass) (seen c.look_answered-last.new.pass) (seen c.work_once.new.pass) c.requires.knows c.requires.number c.loop.invariant.owns (c.look_answered-last.ensures.base ∙ c.loop.invariant.base)
    (ap (λ x. x.seat) c.loop.invariant.carrier) c.loop.invariant.turns c.look_answered-last.ensures.none c.work_once.ensures.turns

pub returns-then-last-clause-landed : goal.returns-then-last-clause-landed
returns-then-last-clause-landed g c = open_none (numbers c.look_answered-last.new.pass) (numbers c.args.pass) (seen c.work_once.new.pass) (c.look_answered-last.ensures.numbers ∙ c.loop.invariant.owns) c.work_once.ensures.landed

pub loop-preserved : goal.loop-preserved
loop-preserved g c = record {
  same = c.work_once.ensures.same ∙ (c.look_answered-last.ensures.same ∙ c.loop.invariant.same);
  idle = c.work_once.ensures.idle;
  base = c.work_once.ensures.base ∙ (c.look_answered-last.ensures.base ∙ c.loop.invariant.base);
  owns = c.work_once.ensures.numbers ∙ (c.look_answered-last.ensures.numbers ∙ c.loop.invariant.owns);
  more =
      round_silent (numbers c.args.pass) (numbers c.loop.pass) (numbers c.look_answered-last.new.pass) c.loop.invariant.owns c.look_answered-last.ensures.numbers (seen c.args.pass) (seen c.loop.pass) (seen c.look_answered-last.new.pass) (seen c.work_once.new.pass) c.loop.invariant.more c.look_answered-last.ensures.none c.work_once.ensures.silent;
  turns =
      round_in_turns (MayDo (c.args.carrier).seat c.args.doing) (base_seen c.args.pass) (base_seen c.look_answered-last.new.pass) (numbers c.args.pass) (numbers c.loop.pass) (c.args.carrier).seat (c.loop.carrier).seat
      (seen c.args.pass) (seen c.loop.pass) (seen c.look_answered-last.new.pass) (seen c.work_once.new.pass) c.requires.knows c.requires.number c.loop.invariant.owns (c.look_answered-last.ensures.base ∙ c.loop.invariant.base)
      (ap (λ x. x.seat) c.loop.invariant.carrier) c.loop.invariant.turns c.look_answered-last.ensures.none c.work_once.ensures.turns;
  landed = open_none (numbers c.look_answered-last.new.pass) (numbers c.args.pass) (seen c.work_once.new.pass) (c.look_answered-last.ensures.numbers ∙ c.loop.invariant.owns) c.work_once.ensures.landed;
  carrier = c.work_once.ensures.carrier ∙ c.loop.invariant.carrier;
}
