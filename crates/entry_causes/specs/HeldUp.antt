-- An eviction that is held up: it has its cause, and waits for room on the modified list. Source: Kenah and Bate,
-- "VAX/VMS Internals and Data Structures", the modified page writer: the SYSGEN parameter MPW_WAITLIMIT.
use Rattle.std.specs.Prelude.{ℕ, ◌+◌, ◌≤◌, List, length}
use Rattle.vm_types.specs.declared.names.FrameState.TheVariants as state
use Rattle.vm_types.specs.declared.config.Config.{Config}
use Rattle.vm_journal.specs.declared.entry.Entry.{Entry}
use Rattle.vm_journal.specs.declared.entry.EvictWhy.{EvictWhy}
use Rattle.pager_model.specs.Evict.{IsEvict}
use Rattle.pager_model.specs.Pager.{Pager}
use Rattle.entry_causes.specs.EvictCause.{IsEvictCause}

-- the same configuration with another wait limit
abbrev pub with_wait_limit : Config → ℕ → Config
with_wait_limit config n = record config { params = record (config.params) { waitlimit = n } }

-- of page number address / 512 of process p, by this seat: with a wait limit above the modified list's length its row
-- of legality would hold, whosever turn it is, and the list is at the wait limit
pub record IsHeldUp (config : Config) (past : List Entry) (a : Pager) : Type 0 where
  pub seat : ℕ
  pub p : ℕ
  pub address : ℕ
  pub f : ℕ
  pub why : EvictWhy
  pub caused : IsEvictCause why config past a p address
  pub legal : IsEvict why (with_wait_limit config (length a.modified + 1)) past a seat p address f state.Modified
  pub at_limit : config.params.waitlimit ≤ length a.modified
