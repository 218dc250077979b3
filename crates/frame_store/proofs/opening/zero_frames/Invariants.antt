use Rattle.std.proofs.Common.{◌≡◌, ◌+◌, Some, replicate}
use Rattle.vm_types.specs.declared.limits.TheConstants.{PAGE_BYTES}
use Rattle.frame_store.proofs.opening.zero_frames.Given as goal

abbrev pub invariant-loop : goal.invariant-loop
invariant-loop l = record {
  buffers : l.frames.items ≡ replicate l.counter (Some (record { pool = l.fn.pool.name; bytes = replicate PAGE_BYTES 0 }));
  left : l.pool.left + l.counter ≡ l.fn.pool.left;
  name : l.pool.name ≡ l.fn.pool.name;
}
