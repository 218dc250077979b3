-- Turns after which a call goes on, and those with which it ends. This project's own.
use Rattle.std.specs.Prelude.{◌≡◌, Bool, true, false, Result, Ok, Err}
use Rattle.vm_types.specs.declared.faults.NoMemory.{NoMemory}
use Rattle.seat_turns.specs.declared.turned.Spoken.{Spoken}
use Rattle.seat_turns.specs.declared.turned.Turned.{Turned}
use Rattle.seat_turns.specs.declared.turned.Turned.TheVariants.{Made, Reads, Rests, Short, Spoke}

-- transfers may have been begun in it
abbrev pub may_carry : Turned → Bool
may_carry Reads = true
may_carry Made = true
may_carry other = false

-- so a request's call ends with it: answered, or for want of memory
abbrev pub IsEnd : Turned → Result Spoken NoMemory → Type 0
IsEnd (Spoke shown) (Ok given) = given ≡ shown
IsEnd Short (Err e) = Unit {0}
IsEnd turned end = ⊥

-- so the writer's or swapper's call ends with it: there is nothing to do, or want of memory
abbrev pub IsIdleEnd : Bool → Turned → Result Bool NoMemory → Type 0
IsIdleEnd made Rests (Ok given) = given ≡ made
IsIdleEnd made Short (Err e) = Unit {0}
IsIdleEnd made turned end = ⊥
