use Rattle.std.proofs.Common.{◌≡◌, ◌+◌, ◌++◌, ◌-◌, ◌*◌, ◌/◌, ◌^◌}
use Rattle.arrayvec.specs.ArrayVec.{array_vec_len}
use Rattle.vm_text.specs.Hex.{hex}
use Rattle.vm_text.proofs.number.push_hex.Given as goal

abbrev pub invariant-loop-pair : goal.invariant-loop-pair
invariant-loop-pair g l = record {
  items : l.out.items ≡ l.fn.out.items ++ hex (l.places - 2 * l.pair) (l.value / 2 ^ (8 * l.pair));
  len : array_vec_len l.out + 2 * l.pair ≡ array_vec_len l.fn.out + l.places;
}
