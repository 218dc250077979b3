-- Changes of one kind that have a line. Source: this project's own.
use Rattle.std.specs.Prelude.{◌≡◌, ℕ, List}
use Rattle.vm_types.specs.declared.config.Section.{Section}
use Rattle.vm_journal.specs.declared.entry.Kind.{Kind}
use Rattle.vm_journal.specs.declared.entry.What.{What}
use Rattle.vm_journal.specs.HasLine.{WhatHasLine}
use Rattle.vm_journal.specs.Line.{kind_of}

abbrev pub IsOfKind : ℕ → List Section → Kind → What → Type 0
IsOfKind procs names kind w = (kind_of w ≡ kind) × WhatHasLine procs names w
