use Rattle.std.proofs.Common.{◌<◌, ◌^◌}
use Rattle.vm_text.proofs.Decimals.{IsReadSoFar}
use Rattle.vm_text.proofs.number.read_number.Given as goal

abbrev pub invariant-loop-byte : goal.invariant-loop-byte
invariant-loop-byte l = record { reading : IsReadSoFar l.word l.byte-index l.number; small : l.number < 2 ^ 64 }
