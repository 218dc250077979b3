use Rattle.std.proofs.Common.{arith, refl}
use Rattle.std.proofs.lemmas.Bool.{false≢true}
use Rattle.vm_text.proofs.Decimals.{has_bytes, few_bytes, no_zero_first, byte_in, none_read, one_read, too_large, all_read}
use Rattle.vm_text.proofs.number.read_number.Goals as goal

pub returns-then-not-may_be_number : goal.returns-then-not-may_be_number
returns-then-not-may_be_number c = record {
  found = tt;
  none = λ n small is. false≢true (c.if-not-may_be_number.ensures.1 (has_bytes c.args.word.now n small is, few_bytes c.args.word.now n small is, no_zero_first c.args.word.now n small is));
}

pub loop-byte-init : goal.loop-byte-init
loop-byte-init c = record { reading = none_read c.args.word.now; small = omega arith }

pub returns-in_default : goal.returns-in_default
returns-in_default c = record {
  found = tt;
  none = λ n small is.
      let range = byte_in c.args.word.now n small is c.loop-byte.byte-index (omega arith) in
      too_large c.args.word.now c.loop-byte.byte-index c.loop-byte.number n (omega arith) c.loop-byte.invariant.reading range (c.in_default.ensures.none range) small is;
}

pub loop-byte-preserved : goal.loop-byte-preserved
loop-byte-preserved c = record { reading = one_read c.args.word.now c.loop-byte.byte-index c.loop-byte.number c.in-Some.more (omega arith) c.loop-byte.invariant.reading c.in-Some.ensures.some.0 c.in-Some.ensures.some.1; small = omega arith }

pub returns : goal.returns
returns c = record {
  found = all_read c.args.word.now c.loop-byte.byte-index c.loop-byte.number (omega arith) c.loop-byte.invariant.small c.loop-byte.invariant.reading (c.if-not-may_be_number.ensures.0 refl).0 (c.if-not-may_be_number.ensures.0 refl).2;
  none = tt;
}
