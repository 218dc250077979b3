use Rattle.std.proofs.Common.{ℕ, ◌++◌, List, ap, arith}
use Rattle.run_words.specs.Text.{entry_lines}
use Rattle.seat_schedules.proofs.LinesPlayed.{line_added}
use Rattle.seat_schedules.proofs.lines.lines.Goals as goal

pub loop-e-init : goal.loop-e-init
loop-e-init c = record {
  number = omega arith;
  text = ap (λ (xs : List ℕ). xs ++ entry_lines 1 c.args.procs c.args.names.now c.args.entries.now) c.new-text.ensures.items;
}

pub loop-e-preserved : goal.loop-e-preserved
loop-e-preserved c =
    let number = c.loop-e.invariant.number in
    record {
      number = omega (arith, number);
      text = line_added _ c.loop-e.text.items c.add_line.new.text.items c.loop-e.number c.args.procs c.args.names.now c.args.entries.now c.loop-e.e-index _ c.loop-e-test.true c.in_ok-add_line.ensures c.loop-e.invariant.text;
    }
