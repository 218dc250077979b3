use Rattle.std.proofs.Common.{◌≡◌, ◌≤◌}
use Rattle.std.specs.Prelude.{vec_capacity, vec_len}
use Rattle.lift_carriers.proofs.Carries.{AreCarriedTo}
use Rattle.lift_carriers.proofs.carrier.Carrier.carry.Given as goal

abbrev pub invariant-loop-n : goal.invariant-loop-n
invariant-loop-n g l = record {
  few : vec_len l.self-inside.lifts ≤ 16;
  seat : l.self-inside.seat ≡ l.initial.self-inside.seat;
  room : 16 ≤ vec_capacity l.self-inside.lifts;
  many : vec_len l.self-inside.lifts ≡ vec_len l.initial.self-inside.lifts;
  carried : AreCarriedTo g.B.Block.seen g.B.Block.tells l.n l.initial.self-inside.lifts.items l.self-inside.lifts.items;
}
