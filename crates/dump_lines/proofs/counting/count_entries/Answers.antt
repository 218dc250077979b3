use Rattle.std.proofs.Common.{ℕ, ◌+◌, count_by, length, nat_eq, take, take_all, refl, sym, ap, ◌∙◌, arith}
use Rattle.dump_lines.specs.Shares.{is_for}
use Rattle.dump_lines.proofs.Raising.{count_few, count_more, one, raised_as, raised_more, raised_none, room_left}
use Rattle.dump_lines.proofs.counting.count_entries.Goals as goal

pub loop-entry-init : goal.loop-entry-init
loop-entry-init c = raised_none _ _ (λ f. refl)

pub raise-requires-clause-there : goal.raise-requires-clause-there
raise-requires-clause-there c =
    let there = c.requires.there c.loop-entry.entry-index (0, 0) c.loop-entry-test.true in
    let size = c.loop-entry.invariant.size in
    let is = c.frame_of.ensures in
    omega arith

pub raise-requires-clause-room : goal.raise-requires-clause-room
raise-requires-clause-room c =
    let within = c.loop-entry-test.true in
    room_left (length c.args.words.now) 1 _ _ _ c.requires.room c.loop-entry.invariant
    (λ f. omega (arith, count_few (is_for f) c.args.words.now c.loop-entry.entry-index (omega arith))) _

pub loop-entry-preserved : goal.loop-entry-preserved
loop-entry-preserved c =
    raised_more _ _ _ _ _ _ c.loop-entry.invariant c.raise.ensures
    (λ f. count_more (is_for f) c.args.words.now c.loop-entry.entry-index (0, 0) c.loop-entry-test.true
    ∙ ap (λ (g : ℕ). count_by (is_for f) (take c.loop-entry.entry-index c.args.words.now) + one (nat_eq g f)) (sym c.frame_of.ensures))

pub returns : goal.returns
returns c =
    raised_as _ _ _ _ c.loop-entry.invariant (λ f. ap (count_by (is_for f)) (sym (take_all c.loop-entry.entry-index c.args.words.now c.loop-entry-test.false)))
