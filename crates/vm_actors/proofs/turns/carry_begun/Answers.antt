use Rattle.std.proofs.Common.{◌∙◌, ap, length, sym}
use Rattle.std.proofs.lemmas.List.{nil_from_length}
use Rattle.carried_landings.proofs.CarriedLifts.{none_waits}
use Rattle.carried_landings.proofs.CarriedOut.{out_carried}
use Rattle.vm_actors.proofs.Ending.{none_staged, staged_wait}
use Rattle.vm_actors.proofs.turns.carry_begun.Goals as goal

pub carry-requires-after_bounds : goal.carry-requires-after_bounds
carry-requires-after_bounds g c κs within = staged_wait c.args.turned (c.args.carrier.now).lifts (sym c.may_carry.ensures ∙ c.if-may_carry.true) c.requires.staged

pub returns-then-may_carry-clause-carried : goal.returns-then-may_carry-clause-carried
returns-then-may_carry-clause-carried g c = none_waits _ _ (c.args.carrier.now).lifts (c.carry.new.self).lifts c.carry.ensures.carried

pub returns-then-may_carry-clause-out : goal.returns-then-may_carry-clause-out
returns-then-may_carry-clause-out g c b past seat = out_carried b past seat c.args.carrier.now c.carry.new.self c.carry.ensures.seat c.carry.ensures.carried (c.carry.ensures.fits b.config past)

pub returns-then-may_carry-clause-none : goal.returns-then-may_carry-clause-none
returns-then-may_carry-clause-none g c = λ none. nil_from_length (c.carry.new.self).lifts ((c.carry.ensures.carried).count ∙ ap length none)

pub returns-else-may_carry-clause-carried : goal.returns-else-may_carry-clause-carried
returns-else-may_carry-clause-carried g c = none_staged c.args.turned (c.args.carrier.now).lifts (sym c.may_carry.ensures ∙ c.if-may_carry.false) c.requires.staged
