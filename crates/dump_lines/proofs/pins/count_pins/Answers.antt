use Rattle.std.proofs.Common.{count_by, length, take_all, refl, sym, ap, arith}
use Rattle.dump_lines.specs.Pins.{is_pin}
use Rattle.dump_lines.proofs.Raising.{count_few, count_more, raised_as, raised_more, raised_none, room_left}
use Rattle.dump_lines.proofs.pins.count_pins.Goals as goal

pub loop-slot-init : goal.loop-slot-init
loop-slot-init c = raised_none _ _ (λ f. refl)

pub count_pin-requires-clause-there : goal.count_pin-requires-clause-there
count_pin-requires-clause-there c = λ k d within. (let below = c.requires.there k d within in let size = c.loop-slot.invariant.size in omega arith)

pub count_pin-requires-clause-room : goal.count_pin-requires-clause-room
count_pin-requires-clause-room c =
    let within = c.loop-slot-test.true in
    room_left (length c.args.slots.now) 1 _ _ _ c.requires.room c.loop-slot.invariant
    (λ f. omega (arith, count_few (is_pin c.args.words.now f) c.args.slots.now c.loop-slot.slot-index (omega arith)))

pub loop-slot-preserved : goal.loop-slot-preserved
loop-slot-preserved c =
    raised_more _ _ _ _ _ _ c.loop-slot.invariant c.count_pin.ensures (λ f. count_more (is_pin c.args.words.now f) c.args.slots.now c.loop-slot.slot-index _ c.loop-slot-test.true)

pub returns : goal.returns
returns c =
    raised_as _ _ _ _ c.loop-slot.invariant (λ f. ap (count_by (is_pin c.args.words.now f)) (sym (take_all c.loop-slot.slot-index c.args.slots.now c.loop-slot-test.false)))
