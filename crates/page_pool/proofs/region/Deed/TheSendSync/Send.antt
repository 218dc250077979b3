-- The right to free a region goes where its allocator's blocks may be freed.
use denote.RattleType.{RattleType}
use denote.Param.Send.{IsSend, Frees, owning_send, struct_send, sendable}
use denote.Struct.Struct.{exits_of}
use denote.Struct.Owning.{shape, fields, to}
use Rattle.core.specs.declared.alloc.Allocator.{Ghosts}
use Rattle.std.specs.contracts.marker.PhantomData as marker
use Rattle.std_alloc.proofs.SendSync.{quiet}
use Rattle.page_pool.specs.Region.{pages_type}
use Rattle.page_pool.specs.contracts.region.Deed.{the_row, the_type}

pub send : (A : RattleType) (g : Ghosts A.Denot) → IsSend A → Frees g g.dealloc_token → IsSend (the_row A g)
send A g sa f = let O = the_type A g in let ms : IsSend (marker.the_field A).row = search sendable in
    owning_send O (ms, tt) (λ d. f.frees d.alloc (pages_type d.size) d.start)
    (λ k. quiet (to O) (exits_of k (fields O)) ((struct_send (shape O) (ms, tt)).leaving k))
