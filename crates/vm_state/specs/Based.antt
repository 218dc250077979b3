-- What a state stands on, and the entries that it keeps. This project's own.
use Rattle.std.specs.Prelude.{List, [], reverse, if◌then◌else◌}
use Rattle.vm_journal.specs.declared.entry.Entry.{Entry}
use Rattle.vm_state.specs.History.{History}
use Rattle.vm_state.specs.declared.base.StateBase.{StateBase}

abbrev pub base_of : History → StateBase
base_of s = record { config = s.config; pool = s.pool; keeps = s.keeps }

-- oldest first; none if they are only counted
abbrev pub kept_entries : History → List Entry
kept_entries s = if s.keeps then reverse s.past else []
