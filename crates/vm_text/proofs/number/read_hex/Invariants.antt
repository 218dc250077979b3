use Rattle.std.proofs.Common.{◌≡◌, ◌^◌, ◌<◌, take}
use Rattle.vm_text.specs.Hex.{hex}
use Rattle.vm_text.proofs.number.read_hex.Given as goal

abbrev pub invariant-loop-byte : goal.invariant-loop-byte
invariant-loop-byte l = record {
  digits : hex l.byte-index l.value ≡ take l.byte-index l.word;
  small : l.value < 16 ^ l.byte-index;
}
