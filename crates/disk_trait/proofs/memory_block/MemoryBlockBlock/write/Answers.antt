use Rattle.std.proofs.Common.{◌≡◌, ◌+◌, ◌↔◌, Contains, IsErr, ℕ, arith, subst}
use Rattle.disk_trait.specs.MemoryBlock.{plan_of, reads_of, writes_of}
use Rattle.disk_trait.proofs.memory_block.MemoryBlockBlock.write.Goals as goal

pub returns-clause-fails : goal.returns-clause-fails
returns-clause-fails c =
    let block = c.args.self.now in
    let same : reads_of block + (writes_of block + 1) ≡ reads_of block + writes_of block + 1 = omega arith in
    subst (λ (call : ℕ). IsErr c.write.result ↔ Contains (plan_of block) call) same c.write.ensures.fails
