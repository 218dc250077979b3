-- What one read of a cluster makes. This project's own.
use Rattle.std.specs.Prelude.{List, [], ◌∷◌}
use Rattle.vm_types.specs.declared.names.BlockId.{BlockId}
use Rattle.vm_journal.specs.declared.entry.Role.{Role}
use Rattle.vm_journal.specs.declared.entry.What.{What}
use Rattle.pager_policy.specs.Given.{reads_made}
use Rattle.vm_state.specs.History.{History, pager}

-- the entries of one read, of a block into the free list's head, which gives up the page that it holds
abbrev pub one_read : History → BlockId → Role → List What
one_read s block role = reads_made (pager s).page (pager s).free (record { block = block; role = role } ∷ [])
