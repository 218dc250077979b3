use Rattle.std.proofs.Common.{ℕ, List, length, nat_eq, take_all, refl, sym, ap, arith}
use Rattle.dump_lines.specs.Occurrences.{times_in}
use Rattle.dump_lines.proofs.Raising.{count_few, count_more, raised_as, raised_more, raised_none, room_left}
use Rattle.dump_lines.proofs.counting.count_members.Goals as goal

pub loop-frame-init : goal.loop-frame-init
loop-frame-init c = raised_none _ _ (λ f. refl)

pub raise-requires-clause-there : goal.raise-requires-clause-there
raise-requires-clause-there c =
    let there = c.requires.there c.loop-frame.frame-index 0 c.loop-frame-test.true in
    let size = c.loop-frame.invariant.size in
    omega arith

pub raise-requires-clause-room : goal.raise-requires-clause-room
raise-requires-clause-room c =
    let within = c.loop-frame-test.true in
    room_left (length c.args.members.now) 1 _ _ _ c.requires.room c.loop-frame.invariant
    (λ f. omega (arith, count_few (λ (n : ℕ). nat_eq n f) c.args.members.now c.loop-frame.frame-index (omega arith))) _

pub loop-frame-preserved : goal.loop-frame-preserved
loop-frame-preserved c =
    raised_more _ _ _ _ _ _ c.loop-frame.invariant c.raise.ensures (λ f. count_more (λ (n : ℕ). nat_eq n f) c.args.members.now c.loop-frame.frame-index 0 c.loop-frame-test.true)

pub returns : goal.returns
returns c =
    raised_as _ _ _ _ c.loop-frame.invariant (λ f. ap (λ (ns : List ℕ). times_in ns f) (sym (take_all c.loop-frame.frame-index c.args.members.now c.loop-frame-test.false)))
