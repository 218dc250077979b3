use Rattle.std.proofs.Common.{◌∙◌, arith}
use Rattle.vm_text.proofs.Pairs.{hex-even, hex-odd, hex-push_two}
use Rattle.vm_text.proofs.number.push_hex.Goals as goal
use Rattle.vm_text.proofs.number.push_hex.Goals.{then-places-eq1, else-places-eq1}

pub loop-pair-init : goal.loop-pair-init
loop-pair-init g c =
    elim c.if-places-eq1.branch [
      | then-places-eq1 w ↦ rw w.out-is (record {
        items = w.push_digit.ensures.items ∙ hex-odd c.args.places c.args.value c.args.out.now.items w.if-places-eq1.true;
        len = omega arith;
      })
      | else-places-eq1 w ↦ rw w.out-is (record {
        items = hex-even c.args.places c.args.value c.args.out.now.items (omega arith);
        len = omega arith;
      })
    ]

pub loop-pair-preserved : goal.loop-pair-preserved
loop-pair-preserved g c = record {
  items = hex-push_two _ _ _ _ _ _ (omega arith) (omega arith) c.loop-pair.invariant.items c.push_byte.ensures.items;
  len = omega arith;
}
