use Rattle.std.proofs.Common.{◌≡◌, ◌+◌, drop}
use Rattle.vm_swapper.specs.Runs.{writes_from}
use Rattle.vm_swapper.proofs.RunTransfers.{IsWriting}
use Rattle.vm_swapper.proofs.transfers.write_all.Given as goal

-- the frames from this one on are left
abbrev pub invariant-loop-f : goal.invariant-loop-f
invariant-loop-f g l = record {
  writing : IsWriting g.B.Block.seen g.B.Block.tells l.fn.state (l.fn.run).seat ((l.fn.run).p).0 (writes_from ((l.fn.run).p).0 (l.fn.run).slot l.frames) (drop l.f-index l.frames) l.slot l.f-index l.state l.carrier;
  slot : l.slot ≡ (l.fn.run).slot + l.f-index;
}
