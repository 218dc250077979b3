use Rattle.std.proofs.Common.{◌∙◌, ℕ, true, false, List, Option, refl, reverse, subst, sym, ap}
use Rattle.std.specs.Prelude.{Contains}
use Rattle.std.proofs.lemmas.Bool.{false≢true}
use Rattle.std.proofs.lemmas.List.{nil_from_length}
use Rattle.history_lock.specs.Passes.{base_of as base_seen, numbers, seen}
use Rattle.vm_types.specs.declared.names.Seat.{Seat}
use Rattle.vm_state.specs.declared.base.StateBase.{StateBase}
use Rattle.call_begins.specs.MayBegin.{empty}
use Rattle.vm_actors.specs.Between.{NoOtherOpen}
use Rattle.vm_actors.specs.Doings.{Knows, MayDo, RestsAt, request_of}
use Rattle.vm_actors.specs.InTurns.{MadeInTurns}
use Rattle.vm_actors.specs.OwnEntries.{AreSilent, GoesOnWith, IsNone, MadeNone, MadeSome, TurnEntries}
use Rattle.vm_actors.proofs.DoneInTurns.{begun_idle}
use Rattle.vm_actors.proofs.Ending.{idle_end_carries_none, idle_end_made, idle_end_rests, none_made, some_made, still_idle}
use Rattle.vm_actors.proofs.InTurns.{idle_in_turns, stays_in_turns}
use Rattle.vm_actors.proofs.OthersLanded.{begin_between, begin_others, end_carrier, end_landed}
use Rattle.vm_actors.proofs.OwnTurns.{goes_nowhere}
use Rattle.vm_actors.proofs.idle_turns.work_once.Goals as goal

pub loop-init : goal.loop-init
loop-init g c = record {
  same = refl;
  idle = c.requires.idle;
  base = refl;
  owns = refl;
  more = goes_nowhere (numbers c.args.pass.now) AreSilent (seen c.args.pass.now) tt;
  none = λ is. goes_nowhere (numbers c.args.pass.now) IsNone (seen c.args.pass.now) refl;
  some = λ is. absurd (false≢true is);
  turns = stays_in_turns (MayDo (c.args.carrier.now).seat c.args.doing) (base_seen c.args.pass.now) (c.seat-seat.result).0 (seen c.args.pass.now) c.requires.knows;
  others = begin_others (numbers c.args.pass.now) (c.seat-seat.result).0 (seen c.args.pass.now) c.requires.landed;
  between =
      begin_between g.B.Block.seen g.B.Block.tells c.seat-seat.result c.args.carrier.now (Knows (MayDo (c.args.carrier.now).seat c.args.doing)) (base_seen c.args.pass.now) (seen c.args.pass.now) (numbers c.args.pass.now) (λ none. none) c.requires.knows
      (c.requires.carrier ∙ ap empty (sym c.seat-seat.ensures)) (subst (λ (z : Seat). Contains (numbers c.args.pass.now) z.0) (sym c.seat-seat.ensures) c.requires.number) c.requires.landed;
}

pub take_turn-taken-requires-clause-knows : goal.take_turn-taken-requires-clause-knows
take_turn-taken-requires-clause-knows g c κs within =
    subst (λ (base : Option StateBase). Knows (MayDo c.seat-seat.result c.args.doing) base) (sym c.loop.invariant.base)
    (subst (λ (z : Seat). Knows (MayDo z c.args.doing) (base_seen c.args.pass.now)) (sym c.seat-seat.ensures) c.requires.knows)

pub take_turn-taken-requires-clause-number : goal.take_turn-taken-requires-clause-number
take_turn-taken-requires-clause-number g c κs within =
    subst (λ (ns : List ℕ). Contains ns (c.seat-seat.result).0) (sym c.loop.invariant.owns)
    (subst (λ (z : Seat). Contains (numbers c.args.pass.now) z.0) (sym c.seat-seat.ensures) c.requires.number)

pub take_turn-taken-requires-clause-begun : goal.take_turn-taken-requires-clause-begun
take_turn-taken-requires-clause-begun g c κs within = λ some. begun_idle c.seat-seat.result c.args.doing (reverse (seen c.loop.pass)) false c.requires.idles

pub take_turn-taken-requires-clause-others : goal.take_turn-taken-requires-clause-others
take_turn-taken-requires-clause-others g c κs within =
    subst (λ (ns : List ℕ). NoOtherOpen ns (c.seat-seat.result).0 (reverse (seen c.loop.pass))) (sym c.loop.invariant.owns) c.loop.invariant.others

pub returns-in-Some-idle_end_of-clause-silent : goal.returns-in-Some-idle_end_of-clause-silent
returns-in-Some-idle_end_of-clause-silent g c =
    still_idle (numbers c.args.pass.now) c.seat-seat.result (c.take_turn-taken.result).turned (seen c.args.pass.now) (seen c.loop.pass) (seen c.take_turn-taken.new.pass) c.loop.invariant.more (request_of c.args.doing) c.requires.idles
    (subst (λ (ns : List ℕ). GoesOnWith (TurnEntries c.seat-seat.result (c.take_turn-taken.result).turned (request_of c.args.doing)) ns (seen c.loop.pass) (seen c.take_turn-taken.new.pass)) c.loop.invariant.owns c.take_turn-taken.ensures.taken)

pub returns-in-Some-idle_end_of-clause-made : goal.returns-in-Some-idle_end_of-clause-made
returns-in-Some-idle_end_of-clause-made g c =
    idle_end_made c.either-made.result (c.take_turn-taken.result).turned c.in-Some-idle_end_of.end c.in-Some-idle_end_of.ensures _ true (λ is.
    some_made (numbers c.args.pass.now) c.seat-seat.result (c.take_turn-taken.result).turned (request_of c.args.doing) (seen c.args.pass.now) (seen c.loop.pass) (seen c.take_turn-taken.new.pass)
    (subst (λ (ns : List ℕ). GoesOnWith (TurnEntries c.seat-seat.result (c.take_turn-taken.result).turned (request_of c.args.doing)) ns (seen c.loop.pass) (seen c.take_turn-taken.new.pass)) c.loop.invariant.owns c.take_turn-taken.ensures.taken)
    c.loop.made (c.take_turn-taken.result).made c.loop.invariant.some c.loop.invariant.more
    (λ now. subst (λ (ns : List ℕ). MadeSome ns (seen c.loop.pass) (seen c.take_turn-taken.new.pass)) c.loop.invariant.owns (c.take_turn-taken.ensures.some now)) (sym c.either-made.ensures ∙ is))

pub returns-in-Some-idle_end_of-clause-none : goal.returns-in-Some-idle_end_of-clause-none
returns-in-Some-idle_end_of-clause-none g c =
    idle_end_made c.either-made.result (c.take_turn-taken.result).turned c.in-Some-idle_end_of.end c.in-Some-idle_end_of.ensures _ false (λ is.
    none_made (numbers c.args.pass.now) c.seat-seat.result (c.take_turn-taken.result).turned (request_of c.args.doing) (seen c.args.pass.now) (seen c.loop.pass) (seen c.take_turn-taken.new.pass)
    (subst (λ (ns : List ℕ). GoesOnWith (TurnEntries c.seat-seat.result (c.take_turn-taken.result).turned (request_of c.args.doing)) ns (seen c.loop.pass) (seen c.take_turn-taken.new.pass)) c.loop.invariant.owns c.take_turn-taken.ensures.taken)
    c.loop.made (c.take_turn-taken.result).made c.loop.invariant.none
    (λ now. subst (λ (ns : List ℕ). MadeNone ns (seen c.loop.pass) (seen c.take_turn-taken.new.pass)) c.loop.invariant.owns (c.take_turn-taken.ensures.none now)) (sym c.either-made.ensures ∙ is))

pub returns-in-Some-idle_end_of-clause-rests : goal.returns-in-Some-idle_end_of-clause-rests
returns-in-Some-idle_end_of-clause-rests g c =
    idle_end_rests c.either-made.result (c.take_turn-taken.result).turned c.in-Some-idle_end_of.end c.in-Some-idle_end_of.ensures _
    (λ rests. subst (λ (base : Option StateBase). RestsAt c.args.doing base (reverse (seen c.take_turn-taken.new.pass))) c.loop.invariant.base (c.take_turn-taken.ensures.rests rests))

pub returns-in-Some-idle_end_of-clause-turns : goal.returns-in-Some-idle_end_of-clause-turns
returns-in-Some-idle_end_of-clause-turns g c =
    subst (λ (z : Seat). MadeInTurns (base_seen c.args.pass.now) z.0 (seen c.args.pass.now) (seen c.take_turn-taken.new.pass)) c.seat-seat.ensures
    (idle_in_turns (base_seen c.args.pass.now) (base_seen c.loop.pass) c.loop.invariant.base (c.seat-seat.result).0 (seen c.args.pass.now) (seen c.loop.pass) (seen c.take_turn-taken.new.pass) c.args.doing c.requires.idles c.loop.invariant.turns c.take_turn-taken.ensures.turns)

pub returns-in-Some-idle_end_of-clause-landed : goal.returns-in-Some-idle_end_of-clause-landed
returns-in-Some-idle_end_of-clause-landed g c =
    end_landed g.B.Block.seen g.B.Block.tells c.seat-seat.result c.take_turn-taken.new.carrier (base_seen c.take_turn-taken.new.pass) (seen c.take_turn-taken.new.pass) (numbers c.args.pass.now) c.take_turn-taken.ensures.between
    (c.take_turn-taken.ensures.landed (idle_end_carries_none c.either-made.result (c.take_turn-taken.result).turned c.in-Some-idle_end_of.end c.in-Some-idle_end_of.ensures))
    (subst (λ (ns : List ℕ). NoOtherOpen ns (c.seat-seat.result).0 (reverse (seen c.take_turn-taken.new.pass))) c.loop.invariant.owns c.take_turn-taken.ensures.others)

pub returns-in-Some-idle_end_of-clause-carrier : goal.returns-in-Some-idle_end_of-clause-carrier
returns-in-Some-idle_end_of-clause-carrier g c =
    end_carrier g.B.Block.seen g.B.Block.tells c.seat-seat.result c.take_turn-taken.new.carrier (base_seen c.take_turn-taken.new.pass) (reverse (seen c.take_turn-taken.new.pass)) c.take_turn-taken.ensures.between
    (c.take_turn-taken.ensures.landed (idle_end_carries_none c.either-made.result (c.take_turn-taken.result).turned c.in-Some-idle_end_of.end c.in-Some-idle_end_of.ensures))
    ∙ (ap empty c.seat-seat.ensures ∙ sym c.requires.carrier)

pub returns-then-len-eq0-clause-silent : goal.returns-then-len-eq0-clause-silent
returns-then-len-eq0-clause-silent g c =
    still_idle (numbers c.args.pass.now) c.seat-seat.result (c.take_turn-taken.result).turned (seen c.args.pass.now) (seen c.loop.pass) (seen c.take_turn-taken.new.pass) c.loop.invariant.more (request_of c.args.doing) c.requires.idles
    (subst (λ (ns : List ℕ). GoesOnWith (TurnEntries c.seat-seat.result (c.take_turn-taken.result).turned (request_of c.args.doing)) ns (seen c.loop.pass) (seen c.take_turn-taken.new.pass)) c.loop.invariant.owns c.take_turn-taken.ensures.taken)

pub returns-then-len-eq0-clause-made : goal.returns-then-len-eq0-clause-made
returns-then-len-eq0-clause-made g c = λ is.
    some_made (numbers c.args.pass.now) c.seat-seat.result (c.take_turn-taken.result).turned (request_of c.args.doing) (seen c.args.pass.now) (seen c.loop.pass) (seen c.take_turn-taken.new.pass)
    (subst (λ (ns : List ℕ). GoesOnWith (TurnEntries c.seat-seat.result (c.take_turn-taken.result).turned (request_of c.args.doing)) ns (seen c.loop.pass) (seen c.take_turn-taken.new.pass)) c.loop.invariant.owns c.take_turn-taken.ensures.taken)
    c.loop.made (c.take_turn-taken.result).made c.loop.invariant.some c.loop.invariant.more
    (λ now. subst (λ (ns : List ℕ). MadeSome ns (seen c.loop.pass) (seen c.take_turn-taken.new.pass)) c.loop.invariant.owns (c.take_turn-taken.ensures.some now)) (sym c.either-made.ensures ∙ c.if-made.true)

pub returns-then-len-eq0-clause-none : goal.returns-then-len-eq0-clause-none
returns-then-len-eq0-clause-none g c = λ is. absurd (false≢true (sym is))

pub returns-then-len-eq0-clause-rests : goal.returns-then-len-eq0-clause-rests
returns-then-len-eq0-clause-rests g c = λ is. absurd (false≢true (sym is))

pub returns-then-len-eq0-clause-turns : goal.returns-then-len-eq0-clause-turns
returns-then-len-eq0-clause-turns g c =
    subst (λ (z : Seat). MadeInTurns (base_seen c.args.pass.now) z.0 (seen c.args.pass.now) (seen c.take_turn-taken.new.pass)) c.seat-seat.ensures
    (idle_in_turns (base_seen c.args.pass.now) (base_seen c.loop.pass) c.loop.invariant.base (c.seat-seat.result).0 (seen c.args.pass.now) (seen c.loop.pass) (seen c.take_turn-taken.new.pass) c.args.doing c.requires.idles c.loop.invariant.turns c.take_turn-taken.ensures.turns)

pub returns-then-len-eq0-clause-landed : goal.returns-then-len-eq0-clause-landed
returns-then-len-eq0-clause-landed g c =
    end_landed g.B.Block.seen g.B.Block.tells c.seat-seat.result c.take_turn-taken.new.carrier (base_seen c.take_turn-taken.new.pass) (seen c.take_turn-taken.new.pass) (numbers c.args.pass.now) c.take_turn-taken.ensures.between
    (nil_from_length (c.take_turn-taken.new.carrier).lifts (sym c.len.ensures.count ∙ c.if-len-eq0.true))
    (subst (λ (ns : List ℕ). NoOtherOpen ns (c.seat-seat.result).0 (reverse (seen c.take_turn-taken.new.pass))) c.loop.invariant.owns c.take_turn-taken.ensures.others)

pub returns-then-len-eq0-clause-carrier : goal.returns-then-len-eq0-clause-carrier
returns-then-len-eq0-clause-carrier g c =
    end_carrier g.B.Block.seen g.B.Block.tells c.seat-seat.result c.take_turn-taken.new.carrier (base_seen c.take_turn-taken.new.pass) (reverse (seen c.take_turn-taken.new.pass)) c.take_turn-taken.ensures.between
    (nil_from_length (c.take_turn-taken.new.carrier).lifts (sym c.len.ensures.count ∙ c.if-len-eq0.true))
    ∙ (ap empty c.seat-seat.ensures ∙ sym c.requires.carrier)

pub loop-preserved : goal.loop-preserved
loop-preserved g c = record {
  same = c.take_turn-taken.ensures.same ∙ c.loop.invariant.same;
  idle = c.take_turn-taken.ensures.idle;
  base = c.take_turn-taken.ensures.base ∙ c.loop.invariant.base;
  owns = c.take_turn-taken.ensures.numbers ∙ c.loop.invariant.owns;
  more =
      still_idle (numbers c.args.pass.now) c.seat-seat.result (c.take_turn-taken.result).turned (seen c.args.pass.now) (seen c.loop.pass) (seen c.take_turn-taken.new.pass) c.loop.invariant.more (request_of c.args.doing) c.requires.idles
      (subst (λ (ns : List ℕ). GoesOnWith (TurnEntries c.seat-seat.result (c.take_turn-taken.result).turned (request_of c.args.doing)) ns (seen c.loop.pass) (seen c.take_turn-taken.new.pass)) c.loop.invariant.owns c.take_turn-taken.ensures.taken);
  none = λ is.
      none_made (numbers c.args.pass.now) c.seat-seat.result (c.take_turn-taken.result).turned (request_of c.args.doing) (seen c.args.pass.now) (seen c.loop.pass) (seen c.take_turn-taken.new.pass)
      (subst (λ (ns : List ℕ). GoesOnWith (TurnEntries c.seat-seat.result (c.take_turn-taken.result).turned (request_of c.args.doing)) ns (seen c.loop.pass) (seen c.take_turn-taken.new.pass)) c.loop.invariant.owns c.take_turn-taken.ensures.taken)
      c.loop.made (c.take_turn-taken.result).made c.loop.invariant.none
      (λ now. subst (λ (ns : List ℕ). MadeNone ns (seen c.loop.pass) (seen c.take_turn-taken.new.pass)) c.loop.invariant.owns (c.take_turn-taken.ensures.none now)) (sym c.either-made.ensures ∙ is);
  some = λ is.
      some_made (numbers c.args.pass.now) c.seat-seat.result (c.take_turn-taken.result).turned (request_of c.args.doing) (seen c.args.pass.now) (seen c.loop.pass) (seen c.take_turn-taken.new.pass)
      (subst (λ (ns : List ℕ). GoesOnWith (TurnEntries c.seat-seat.result (c.take_turn-taken.result).turned (request_of c.args.doing)) ns (seen c.loop.pass) (seen c.take_turn-taken.new.pass)) c.loop.invariant.owns c.take_turn-taken.ensures.taken)
      c.loop.made (c.take_turn-taken.result).made c.loop.invariant.some c.loop.invariant.more
      (λ now. subst (λ (ns : List ℕ). MadeSome ns (seen c.loop.pass) (seen c.take_turn-taken.new.pass)) c.loop.invariant.owns (c.take_turn-taken.ensures.some now)) (sym c.either-made.ensures ∙ is);
  turns = idle_in_turns (base_seen c.args.pass.now) (base_seen c.loop.pass) c.loop.invariant.base (c.seat-seat.result).0 (seen c.args.pass.now) (seen c.loop.pass) (seen c.take_turn-taken.new.pass) c.args.doing c.requires.idles c.loop.invariant.turns c.take_turn-taken.ensures.turns;
  others = subst (λ (ns : List ℕ). NoOtherOpen ns (c.seat-seat.result).0 (reverse (seen c.take_turn-taken.new.pass))) c.loop.invariant.owns c.take_turn-taken.ensures.others;
  between = c.take_turn-taken.ensures.between;
}
