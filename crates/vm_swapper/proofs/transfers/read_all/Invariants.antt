use Rattle.std.proofs.Common.{◌≡◌, ◌+◌, drop}
use Rattle.vm_swapper.proofs.RunTransfers.{IsReadingFrom, all_reads}
use Rattle.vm_swapper.proofs.transfers.read_all.Given as goal

-- the pages from this one on are left
abbrev pub invariant-loop-a : goal.invariant-loop-a
invariant-loop-a g l = record {
  reading : IsReadingFrom g.B.Block.seen g.B.Block.tells
      l.fn.state (l.fn.run).seat ((l.fn.run).p).0 (all_reads l.fn.state ((l.fn.run).p).0 (l.fn.run).slot l.addresses) (drop l.a-index l.addresses) l.slot l.a-index l.state l.carrier;
  slot : l.slot ≡ (l.fn.run).slot + l.a-index;
}
