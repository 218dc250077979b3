-- Configurations that differ in their bodies alone, and the rundown's entries. This project's own.
use Rattle.std.specs.Prelude.{Bool, true, false, ◌<◌, List, [], ◌∷◌, ◌++◌, length}
use Rattle.std.specs.List.{list_any}
use Rattle.vm_types.specs.Configuration.{IsTask}
use Rattle.vm_types.specs.Versions.{most_requests}
use Rattle.vm_types.specs.declared.config.Config.{Config}
use Rattle.vm_types.specs.declared.config.Task.{Task}
use Rattle.vm_journal.specs.declared.entry.Entry.{Entry}
use Rattle.vm_journal.specs.declared.entry.EvictWhy.{EvictWhy}
use Rattle.vm_journal.specs.declared.entry.EvictWhy.TheVariants as evict
use Rattle.vm_journal.specs.declared.entry.What.{What}
use Rattle.vm_journal.specs.declared.entry.What.TheVariants as what

-- the configuration with these requests in place of its own
abbrev pub with_body : Config → List Task → Config
with_body config body = record config { body = body }

-- the configuration with one more request, behind its own
abbrev pub with_task : Config → Task → Config
with_task config task = with_body config (config.body ++ task ∷ [])

-- the request may be added: it is of one of the configuration's processes and of its version, well formed, and there
-- is room for it
pub record MayBeAdded (config : Config) (task : Task) : Type 0 where
  pub formed : IsTask config.version (length config.procs) task
  pub room : length config.body < most_requests config.version

-- an eviction of the rundown
abbrev pub is_rundown_why : EvictWhy → Bool
is_rundown_why evict.Rundown = true
is_rundown_why other = false

abbrev pub is_rundown_eviction : What → Bool
is_rundown_eviction (what.Evict p address f why to) = is_rundown_why why
is_rundown_eviction other = false

-- whether the rundown has evicted a page in this past
abbrev pub has_rundown : List Entry → Bool
has_rundown past = list_any (λ (e : Entry). is_rundown_eviction e.what) past
