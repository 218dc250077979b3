-- A part names no thread, so it may go to another one.
use denote.Builtin.{u8, u32, RawPtr}
use denote.Param.Send.{IsSend, owning_send, struct_send, array_send, sendable}
use denote.Struct.Struct.{exits_of}
use denote.Struct.Owning.{shape, fields, to}
use Rattle.std_alloc.proofs.SendSync.{quiet, lies}
use Rattle.page_pool.specs.Region.{Page}
use Rattle.page_pool.specs.Tickets.{tickets_own}
use Rattle.page_pool.specs.contracts.part.Part.{the_row, the_type}

ps : IsSend RawPtr
ps = search sendable

ns : IsSend u32
ns = search sendable

bs : IsSend u8
bs = search sendable

pub send : IsSend the_row
unfolding tickets_own
send = owning_send the_type (ps, (ns, tt)) (λ d. (lies Page (array_send u8 512 bs) d.at d.bytes, λ few. tt))
    (λ k. quiet (to the_type) (exits_of k (fields the_type)) ((struct_send (shape the_type) (ps, (ns, tt))).leaving k))
