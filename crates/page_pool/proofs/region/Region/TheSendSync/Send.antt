-- A region names no thread, so it may go to another one.
use mathlib.Core.List.{List, [], ◌∷◌}
use Prim.Native.Nat.{ℕ}
use base.Shift.{Keyless}
use denote.Builtin.{usize, RawPtr}
use denote.Param.Send.{IsSend, owning_send, struct_send, sendable}
use denote.RawPtr.{Ptr, block_ptr, null_ptr, room_for}
use denote.Struct.Struct.{exits_of}
use denote.Struct.Owning.{shape, fields, to}
use Rattle.std_alloc.proofs.SendSync.{quiet}
use Rattle.page_pool.specs.Region.{page_type, place_of, parts_own}
use Rattle.page_pool.specs.Tickets.{tickets_own}
use Rattle.page_pool.specs.contracts.region.Region.{the_row, the_type}

ps : IsSend RawPtr
ps = search sendable

ns : IsSend usize
ns = search sendable

room : (p : Ptr) (k : ℕ) → Keyless (room_for page_type (place_of p k))
room (block_ptr b o) k = tt
room null_ptr k = tt

parts : (p : Ptr) (n : ℕ) (ks : List ℕ) → Keyless (parts_own p n ks)
parts p n [] = tt
parts p n (k ∷ ks) = ((tt, room p k), parts p n ks)

pub send : IsSend the_row
unfolding tickets_own
send = owning_send the_type (ps, (ns, tt)) (λ d. ((λ once. tt), parts d.start d.size d.numbers))
    (λ k. quiet (to the_type) (exits_of k (fields the_type)) ((struct_send (shape the_type) (ps, (ns, tt))).leaving k))
