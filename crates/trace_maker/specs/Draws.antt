-- The draws of the generator, and a reference of six of them. Source: this project's own.
use Rattle.std.specs.Prelude.{ℕ, ◌+◌, ◌*◌, ◌/◌, ◌%◌, ◌^◌, ◌==◌, nat_lt, if◌then◌else◌}
use Rattle.vm_types.specs.declared.limits.TheConstants.{PAGE_BYTES}
use Rattle.vm_types.specs.declared.config.Task.{Task}
use Rattle.vm_types.specs.declared.reference.Mode.TheVariants.{U}
use Rattle.vm_types.specs.declared.reference.Width.TheVariants.{Four}
use Rattle.vm_types.specs.declared.reference.Op.{Op}
use Rattle.vm_types.specs.declared.reference.Op.TheVariants.{Read, Write, Add}
use Rattle.vm_types.specs.declared.service.Request.TheVariants.{Reference}
use Rattle.trace_maker.specs.declared.draws.Region.{Region}

-- a linear congruential generator of 64 bits
abbrev pub next_state : ℕ → ℕ
next_state x = (x * 6364136223846793005 + 1442695040888963407) % 2 ^ 64

-- what a state gives: its upper half
abbrev pub draw_of : ℕ → ℕ
draw_of x = x / 2 ^ 32

-- the state after six draws
abbrev pub after_six : ℕ → ℕ
after_six x = next_state (next_state (next_state (next_state (next_state (next_state x)))))

-- zero pages, LIB, IMG, and the zero pages at the end of P1
abbrev pub region_of : ℕ → Region
region_of n =
    if nat_lt n 8 then record { first = 0; pages = 256 }
    else if nat_lt n 12 then record { first = 0x40000; pages = 256 }
    else if nat_lt n 14 then record { first = 0x80000; pages = 64 }
    else record { first = 0x7fffc000; pages = 32 }

-- a read half of the time, a write, an interlocked add
abbrev pub op_of : ℕ → ℕ → Op
op_of kind value = if nat_lt kind 2 then Read Four else if nat_lt kind 3 then Write Four value else Add value

-- of three references in four only a quarter of the region's pages
abbrev pub near_pages : Region → ℕ → ℕ
near_pages region d = if d % 4 == 0 then region.pages else region.pages / 4

abbrev pub address_from : Region → ℕ → ℕ → ℕ
address_from region d3 d4 = region.first + PAGE_BYTES * ((d3 / 256) % near_pages region d3) + 4 * (d4 % 128)

-- a reference in user mode
abbrev pub task_at : ℕ → ℕ → Op → Task
task_at p at op = record {
  proc = record { 0 = p };
  request = Reference (record { mode = U; addr = record { 0 = at }; op = op });
}

-- the reference of these six draws
abbrev pub task_of : ℕ → ℕ → ℕ → ℕ → ℕ → ℕ → ℕ → Task
task_of procs d1 d2 d3 d4 d5 d6 = task_at (d1 % procs) (address_from (region_of (d2 % 16)) d3 d4) (op_of (d5 % 4) d6)

-- the reference of the six draws after this state
abbrev pub task_from : ℕ → ℕ → Task
task_from x procs =
    let a = next_state x in
    let b = next_state a in
    let c = next_state b in
    let d = next_state c in
    let e = next_state d in
    let f = next_state e in
    task_of procs (draw_of a) (draw_of b) (draw_of c) (draw_of d) (draw_of e) (draw_of f)
