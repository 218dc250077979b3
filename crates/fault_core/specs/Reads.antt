-- The window of a read cluster, and what one read of it makes. This project's own.
use Rattle.std.specs.Prelude.{◌≡◌, ℕ, ◌-◌, ◌≤◌, List, ◌∷◌, Option, Some, length, if◌then◌else◌, map}
use Rattle.std.specs.List.{range_with_len}
use Rattle.vm_types.specs.declared.config.Config.{Config}
use Rattle.vm_types.specs.declared.names.BlockId.{BlockId}
use Rattle.vm_types.specs.declared.names.BlockId.TheVariants as block
use Rattle.vm_types.specs.declared.names.Page.{Page}
use Rattle.vm_types.specs.declared.names.Page.TheVariants.{Private, Shared}
use Rattle.pager_policy.specs.Advance.{following}
use Rattle.pager_model.specs.Charging.{is_uncharged}
use Rattle.pager_model.specs.Pager.{Pager}

-- the place of a block in its section, in the page file, or among the swap blocks of its process
abbrev pub block_place : BlockId → ℕ
block_place (block.Section s i) = i
block_place (block.PageFile n) = n
block_place (block.Swap p n) = n

-- and of a page of a section in that section
abbrev pub page_place : Page → ℕ
page_place (Private p v) = 0
page_place (Shared s i) = i

-- how many places the rule looks at: the first read of a copy on reference page is made by itself
abbrev pub reach_of : Config → Pager → Page → ℕ
reach_of config a g = if is_uncharged config a g then 1 else config.params.pfc

-- the faulting page, and the pages that may follow it: some of the places that the rule looks at, from the first one
-- on; the rule looks at 8 places at most
pub record IsWindow (config : Config) (a : Pager) (g : Page) (b : BlockId) (pages : List (Option Page)) : Type 0 where
  pub each : pages ≡ Some g ∷ map (following config a g b) (range_with_len 1 (length pages - 1))
  pub within : length pages ≤ reach_of config a g
  pub few : reach_of config a g ≤ 8
