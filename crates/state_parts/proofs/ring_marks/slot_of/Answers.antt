use Rattle.std.proofs.Common.{◌∙◌, None, length, sym, arith}
use Rattle.std.proofs.lemmas.List.Sums.{position_or_len_is}
use Rattle.pager_model.specs.Lookups.{has_vpn}
use Rattle.state_parts.proofs.ring_marks.slot_of.Goals as goal

-- the first slot that has it
pub returns-then-has : goal.returns-then-has
returns-then-has c =
    sym (position_or_len_is (has_vpn c.args.vpn) c.args.ring.now.slots c.loop-slot.slot None (omega arith) c.loop-slot.invariant (λ _. sym c.has.ensures ∙ c.if-has.true))

-- or past the last one
pub returns : goal.returns
returns c =
    c.slots.ensures.value
    ∙ sym (position_or_len_is (has_vpn c.args.vpn) c.args.ring.now.slots (length c.args.ring.now.slots) None (omega arith) (λ k below. c.loop-slot.invariant k (omega arith)) (λ below. absurd (omega arith)))
