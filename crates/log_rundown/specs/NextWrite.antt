-- The write of a frame of the modified list, if its block adjoins the last one. This project's own.
use Rattle.std.specs.Prelude.{ℕ, Option, Some, None}
use Rattle.std.specs.Option.{option_map}
use Rattle.vm_types.specs.declared.config.Config.{Config}
use Rattle.vm_types.specs.declared.names.BlockId.{BlockId}
use Rattle.vm_journal.specs.declared.entry.What.{What}
use Rattle.vm_journal.specs.declared.entry.What.TheVariants as what
use Rattle.pager_model.specs.Maps.{pfn}
use Rattle.pager_model.specs.Pager.{Pager}
use Rattle.pager_policy.specs.WriteCluster.{block_out}

abbrev pub write_to : ℕ → BlockId → What
write_to f b = what.Out (pfn f) b

-- behind the last block of a cluster
abbrev pub write_at : Config → Pager → Option BlockId → Option ℕ → Option What
write_at config a last None = None
write_at config a last (Some f) = option_map (write_to f) (block_out config a last (a.page f))
