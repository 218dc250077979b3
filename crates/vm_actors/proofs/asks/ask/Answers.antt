use Rattle.std.proofs.Common.{◌∙◌, ℕ, Bool, List, Option, Some, refl, reverse, subst, sym}
use Rattle.std.specs.Prelude.{Contains}
use Rattle.history_lock.specs.Passes.{base_of as base_seen, numbers, seen}
use Rattle.seat_turns.specs.Begun.{IsBegunFor}
use Rattle.seat_turns.specs.Steps.{seat_of}
use Rattle.vm_state.specs.declared.base.StateBase.{StateBase}
use Rattle.vm_actors.specs.Between.{NoOtherOpen}
use Rattle.vm_actors.specs.Doings.{Knows, MayAsk}
use Rattle.vm_actors.specs.OwnEntries.{AreSilent, GoesOnWith, TurnEntries}
use Rattle.vm_actors.proofs.DoneInTurns.{knows_asking}
use Rattle.vm_actors.proofs.Ending.{end_carries_none, end_replied, end_silent, no_option, still_silent}
use Rattle.vm_actors.proofs.InTurns.{ask_in_turns, stays_in_turns}
use Rattle.vm_actors.proofs.OthersLanded.{begin_begun, begin_between, begin_others, end_carrier, end_landed}
use Rattle.vm_actors.proofs.OwnTurns.{goes_nowhere}
use Rattle.vm_actors.proofs.asks.ask.Goals as goal

pub loop-init : goal.loop-init
loop-init g c = record {
  same = refl;
  idle = c.requires.idle;
  base = refl;
  owns = refl;
  more = goes_nowhere (numbers c.args.pass.now) AreSilent (seen c.args.pass.now) tt;
  turns = λ next. stays_in_turns (MayAsk c.args.p c.args.x) (base_seen c.args.pass.now) (c.args.p).0 (seen c.args.pass.now) c.requires.knows;
  others = begin_others (numbers c.args.pass.now) (c.args.p).0 (seen c.args.pass.now) c.requires.landed;
  between = begin_between g.B.Block.seen g.B.Block.tells (seat_of c.args.p) c.args.carrier.now (Knows (MayAsk c.args.p c.args.x)) (base_seen c.args.pass.now) (seen c.args.pass.now) (numbers c.args.pass.now) (λ none. none) c.requires.knows c.requires.carrier c.requires.number c.requires.landed;
  begun = begin_begun (seat_of c.args.p) c.args.carrier.now c.requires.carrier _;
}

pub returns-in-Some-end_of-clause-replied : goal.returns-in-Some-end_of-clause-replied
returns-in-Some-end_of-clause-replied g c =
    end_replied (numbers c.args.pass.now) (seat_of c.args.p) (c.take_turn-taken.result).turned (seen c.args.pass.now) (seen c.loop.pass) (seen c.take_turn-taken.new.pass) c.loop.invariant.more c.args.x c.in-Some-end_of.end c.in-Some-end_of.ensures.ends
    (subst (λ (ns : List ℕ). GoesOnWith (TurnEntries (seat_of c.args.p) (c.take_turn-taken.result).turned (Some c.args.x)) ns (seen c.loop.pass) (seen c.take_turn-taken.new.pass)) c.loop.invariant.owns c.take_turn-taken.ensures.taken)

pub returns-in-Some-end_of-clause-silent : goal.returns-in-Some-end_of-clause-silent
returns-in-Some-end_of-clause-silent g c =
    end_silent (numbers c.args.pass.now) (seat_of c.args.p) (c.take_turn-taken.result).turned (seen c.args.pass.now) (seen c.loop.pass) (seen c.take_turn-taken.new.pass) c.loop.invariant.more c.args.x c.in-Some-end_of.end c.in-Some-end_of.ensures.ends
    (subst (λ (ns : List ℕ). GoesOnWith (TurnEntries (seat_of c.args.p) (c.take_turn-taken.result).turned (Some c.args.x)) ns (seen c.loop.pass) (seen c.take_turn-taken.new.pass)) c.loop.invariant.owns c.take_turn-taken.ensures.taken)

pub returns-in-Some-end_of-clause-turns : goal.returns-in-Some-end_of-clause-turns
returns-in-Some-end_of-clause-turns g c =
    ask_in_turns (base_seen c.args.pass.now) (base_seen c.loop.pass) c.loop.invariant.base (c.args.p).0 (seen c.args.pass.now) (seen c.loop.pass) (seen c.take_turn-taken.new.pass) (numbers c.args.pass.now) c.args.x c.requires.number c.loop.invariant.more c.loop.invariant.turns c.take_turn-taken.ensures.turns

pub returns-in-Some-end_of-clause-landed : goal.returns-in-Some-end_of-clause-landed
returns-in-Some-end_of-clause-landed g c =
    end_landed g.B.Block.seen g.B.Block.tells (seat_of c.args.p) c.take_turn-taken.new.carrier (base_seen c.take_turn-taken.new.pass) (seen c.take_turn-taken.new.pass) (numbers c.args.pass.now) c.take_turn-taken.ensures.between
    (c.take_turn-taken.ensures.landed (end_carries_none (c.take_turn-taken.result).turned c.in-Some-end_of.end c.in-Some-end_of.ensures.ends))
    (subst (λ (ns : List ℕ). NoOtherOpen ns (c.args.p).0 (reverse (seen c.take_turn-taken.new.pass))) c.loop.invariant.owns c.take_turn-taken.ensures.others)

pub returns-in-Some-end_of-clause-carrier : goal.returns-in-Some-end_of-clause-carrier
returns-in-Some-end_of-clause-carrier g c =
    end_carrier g.B.Block.seen g.B.Block.tells (seat_of c.args.p) c.take_turn-taken.new.carrier (base_seen c.take_turn-taken.new.pass) (reverse (seen c.take_turn-taken.new.pass)) c.take_turn-taken.ensures.between
    (c.take_turn-taken.ensures.landed (end_carries_none (c.take_turn-taken.result).turned c.in-Some-end_of.end c.in-Some-end_of.ensures.ends))

pub returns-in-Some-end_of-clause-numbers : goal.returns-in-Some-end_of-clause-numbers
returns-in-Some-end_of-clause-numbers g c = c.take_turn-taken.ensures.numbers ∙ c.loop.invariant.owns

pub returns-in-Some-end_of-clause-base : goal.returns-in-Some-end_of-clause-base
returns-in-Some-end_of-clause-base g c = c.take_turn-taken.ensures.base ∙ c.loop.invariant.base

pub returns-in-Some-end_of-clause-same : goal.returns-in-Some-end_of-clause-same
returns-in-Some-end_of-clause-same g c = c.take_turn-taken.ensures.same ∙ c.loop.invariant.same

pub take_turn-taken-requires-clause-own : goal.take_turn-taken-requires-clause-own
take_turn-taken-requires-clause-own g c κs within = c.loop.invariant.same ∙ c.requires.own

pub take_turn-taken-requires-clause-number : goal.take_turn-taken-requires-clause-number
take_turn-taken-requires-clause-number g c κs within = subst (λ (ns : List ℕ). Contains ns (c.args.p).0) (sym c.loop.invariant.owns) c.requires.number

pub take_turn-taken-requires-clause-knows : goal.take_turn-taken-requires-clause-knows
take_turn-taken-requires-clause-knows g c κs within =
    knows_asking c.args.p c.args.x (base_seen c.loop.pass) (subst (λ (base : Option StateBase). Knows (MayAsk c.args.p c.args.x) base) (sym c.loop.invariant.base) c.requires.knows)

pub take_turn-taken-requires-clause-others : goal.take_turn-taken-requires-clause-others
take_turn-taken-requires-clause-others g c κs within =
    subst (λ (ns : List ℕ). NoOtherOpen ns (c.args.p).0 (reverse (seen c.loop.pass))) (sym c.loop.invariant.owns) c.loop.invariant.others

pub loop-preserved : goal.loop-preserved
loop-preserved g c = record {
  same = c.take_turn-taken.ensures.same ∙ c.loop.invariant.same;
  idle = c.take_turn-taken.ensures.idle;
  base = c.take_turn-taken.ensures.base ∙ c.loop.invariant.base;
  owns = c.take_turn-taken.ensures.numbers ∙ c.loop.invariant.owns;
  more =
      still_silent (numbers c.args.pass.now) (seat_of c.args.p) (c.take_turn-taken.result).turned (seen c.args.pass.now) (seen c.loop.pass) (seen c.take_turn-taken.new.pass) c.loop.invariant.more (Some c.args.x)
      (c.end_of.ensures.none (no_option c.end_of.result c.in_default.not-Some))
      (subst (λ (ns : List ℕ). GoesOnWith (TurnEntries (seat_of c.args.p) (c.take_turn-taken.result).turned (Some c.args.x)) ns (seen c.loop.pass) (seen c.take_turn-taken.new.pass)) c.loop.invariant.owns c.take_turn-taken.ensures.taken);
  turns =
      ask_in_turns (base_seen c.args.pass.now) (base_seen c.loop.pass) c.loop.invariant.base (c.args.p).0 (seen c.args.pass.now) (seen c.loop.pass) (seen c.take_turn-taken.new.pass) (numbers c.args.pass.now) c.args.x c.requires.number c.loop.invariant.more c.loop.invariant.turns c.take_turn-taken.ensures.turns;
  others = subst (λ (ns : List ℕ). NoOtherOpen ns (c.args.p).0 (reverse (seen c.take_turn-taken.new.pass))) c.loop.invariant.owns c.take_turn-taken.ensures.others;
  between = c.take_turn-taken.ensures.between;
  begun = λ some. subst (λ (own : Bool). IsBegunFor (reverse (seen c.take_turn-taken.new.pass)) (c.args.p).0 c.args.x own) (sym c.reads-reading.ensures) (c.take_turn-taken.ensures.begun some);
}
