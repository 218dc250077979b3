-- A part that isn't written yet names no thread, so it may go to another one.
use base.Shift.{Keyless}
use denote.Builtin.{u32, RawPtr}
use denote.Param.Send.{IsSend, owning_send, struct_send, sendable}
use denote.RawPtr.{Ptr, block_ptr, null_ptr, room_for}
use denote.Struct.Struct.{exits_of}
use denote.Struct.Owning.{shape, fields, to}
use Rattle.std_alloc.proofs.SendSync.{quiet}
use Rattle.page_pool.specs.Region.{page_type}
use Rattle.page_pool.specs.Tickets.{tickets_own}
use Rattle.page_pool.specs.contracts.spare.Spare.{the_row, the_type}

ps : IsSend RawPtr
ps = search sendable

ns : IsSend u32
ns = search sendable

room : (p : Ptr) → Keyless (room_for page_type p)
room (block_ptr b o) = tt
room null_ptr = tt

pub send : IsSend the_row
unfolding tickets_own
send = owning_send the_type (ps, (ns, tt)) (λ d. (room d.at, λ few. tt))
    (λ k. quiet (to the_type) (exits_of k (fields the_type)) ((struct_send (shape the_type) (ps, (ns, tt))).leaving k))
