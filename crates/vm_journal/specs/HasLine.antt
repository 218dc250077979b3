-- Which entries have a line: each number that is printed is bounded, so that two entries with lines
-- have different lines. Source: this project's own.
use Rattle.std.specs.Prelude.{ℕ, ◌+◌, ◌^◌, ◌<◌, ◌≤◌, List}
use Rattle.vm_types.specs.WellFormed.{IsWellFormedReference, IsWellFormedService}
use Rattle.vm_types.specs.declared.config.Section.{Section}
use Rattle.vm_text.specs.Named.{IsPageStart, IsPlace, IsNamedPage, IsNamedBlock}
use Rattle.vm_text.specs.References.{IsReplyTo}
use Rattle.vm_text.specs.Services.{HasAnswerWords}
use Rattle.vm_journal.specs.declared.entry.Entry.{Entry}
use Rattle.vm_journal.specs.declared.entry.Role.{Role}
use Rattle.vm_journal.specs.declared.entry.Role.TheVariants.{Fault, Near, Come}
use Rattle.vm_journal.specs.declared.entry.What.{What}
use Rattle.vm_journal.specs.declared.entry.What.TheVariants as what

-- the number of an entry, and a count of a block's failed calls, has 64 bits
abbrev pub IsEntryNumber : ℕ → Type 0
IsEntryNumber number = number < 2 ^ 64

abbrev pub IsFrameNumber : ℕ → Type 0
IsFrameNumber frame = frame < 2 ^ 32

abbrev pub RoleHasWords : ℕ → List Section → Role → Type 0
RoleHasWords procs names (Fault p a) = IsPlace procs p.0 a.0
RoleHasWords procs names (Near page) = IsNamedPage procs names page
RoleHasWords procs names (Come p a) = IsPlace procs p.0 a.0

-- what each kind asks of its parts: a request is well formed and its reply fits it, an address outside
-- a request is the first of its page, processes and sections are there
abbrev pub WhatHasLine : ℕ → List Section → What → Type 0
WhatHasLine procs names (what.Done r reply) = IsWellFormedReference r × IsReplyTo r.op reply
WhatHasLine procs names (what.Denied r why) = IsWellFormedReference r
WhatHasLine procs names (what.Served s answer) = IsWellFormedService s × HasAnswerWords answer
WhatHasLine procs names (what.Reuse f page) = IsFrameNumber f.0 × IsNamedPage procs names page
WhatHasLine procs names (what.Zero a f) = IsPageStart a.0 × IsFrameNumber f.0
WhatHasLine procs names (what.Back p a f from) = IsPlace procs p.0 a.0 × IsFrameNumber f.0
WhatHasLine procs names (what.Collide a f k) = IsPageStart a.0 × IsFrameNumber f.0 × IsEntryNumber k
WhatHasLine procs names (what.In f block role) =
    IsFrameNumber f.0 × IsNamedBlock procs names block × RoleHasWords procs names role
WhatHasLine procs names (what.InOk f k) = IsFrameNumber f.0 × IsEntryNumber k
WhatHasLine procs names (what.InFail f k c d) =
    IsFrameNumber f.0 × IsEntryNumber k × (c < 2 ^ 64) × (d < 2 ^ 64)
WhatHasLine procs names (what.Out f block) = IsFrameNumber f.0 × IsNamedBlock procs names block
WhatHasLine procs names (what.OutOk f k) = IsFrameNumber f.0 × IsEntryNumber k
WhatHasLine procs names (what.OutFail f k c d) =
    IsFrameNumber f.0 × IsEntryNumber k × (c < 2 ^ 64) × (d < 2 ^ 64)
WhatHasLine procs names (what.Evict p a f why to) = IsPlace procs p.0 a.0 × IsFrameNumber f.0
WhatHasLine procs names (what.Limit n faults) = (n < 2 ^ 32) × (faults < 2 ^ 64)
WhatHasLine procs names (what.Turn p status) = p.0 < procs

-- with so many processes and these sections the entry has a line: its seat is a process's, the writer's
-- or the swapper's, and its parts can be printed
pub record HasLine (procs : ℕ) (names : List Section) (e : Entry) : Type 0 where
  pub seat : (e.seat).0 ≤ procs + 1
  pub what : WhatHasLine procs names e.what
