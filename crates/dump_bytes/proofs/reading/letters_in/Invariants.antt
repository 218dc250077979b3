use Rattle.std.proofs.Common.{take, drop, codes}
use Rattle.dump_bytes.proofs.Repeating.{IsSpelled}
use Rattle.dump_bytes.proofs.reading.letters_in.Given as goal

abbrev pub invariant-loop-letter : goal.invariant-loop-letter
invariant-loop-letter l = IsSpelled (codes "VMSDUMP1") l.fn.bytes (take l.letter-index (codes "VMSDUMP1")) (drop l.letter-index (codes "VMSDUMP1")) l.rest
