-- The names of the memory management services. Source: Kenah and Bate, "VAX/VMS Internals and Data
-- Structures"; their form in a trace is this project's own.
use Rattle.std.specs.Prelude.{ℕ, List, Option, Some, None, codes, if◌then◌else◌}
use Rattle.trace_words.specs.declared.services.ServiceName.{ServiceName}
use Rattle.trace_words.specs.declared.services.ServiceName.TheVariants.{Create, Delete, Protect, Lock, Unlock, Purge, Pin, Unpin, Adjust}
use Rattle.trace_words.specs.Words.{is}

abbrev pub service_name : List ℕ → Option ServiceName
service_name word =
    if is word (codes "CRETVA") then Some Create
    else if is word (codes "DELTVA") then Some Delete
    else if is word (codes "SETPRT") then Some Protect
    else if is word (codes "LKWSET") then Some Lock
    else if is word (codes "ULWSET") then Some Unlock
    else if is word (codes "PURGWS") then Some Purge
    else if is word (codes "LCKPAG") then Some Pin
    else if is word (codes "ULKPAG") then Some Unpin
    else if is word (codes "ADJWSL") then Some Adjust
    else None
