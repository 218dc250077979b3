-- The next write of a cluster. This project's own.
use Rattle.std.specs.Prelude.{ℕ, List, [], ◌∷◌, Option, None}
use Rattle.std.specs.Option.{option_map}
use Rattle.vm_types.specs.declared.config.Config.{Config}
use Rattle.vm_types.specs.declared.names.BlockId.{BlockId}
use Rattle.vm_types.specs.declared.names.Pfn.{Pfn}
use Rattle.pager_model.specs.Maps.{pfn}
use Rattle.pager_model.specs.Pager.{Pager}
use Rattle.pager_policy.specs.WriteCluster.{block_out}

abbrev pub write_to : ℕ → BlockId → Pfn × BlockId
write_to f b = (pfn f, b)

-- the first frame of a list, and the block to which its page is written behind the last one
abbrev pub next_write : Config → Pager → Option BlockId → List ℕ → Option (Pfn × BlockId)
next_write config a last [] = None
next_write config a last (f ∷ frames) = option_map (write_to f) (block_out config a last (a.page f))
