-- Buffers and blocks at the opening. This project's own.
use Rattle.std.specs.Prelude.{◌≡◌, ◌<◌, ℕ, Bool, true, List, Option, Some, length}
use Rattle.std.specs.Option.{is_some}
use Rattle.vm_types.specs.declared.limits.TheConstants.{PAGE_BYTES}
use Rattle.vm_types.specs.BlockView.{BlockView}
use Rattle.vm_types.specs.Configuration.{IsBlock}
use Rattle.vm_types.specs.declared.names.SecId.{SecId}
use Rattle.vm_types.specs.declared.names.BlockId.{BlockId}
use Rattle.vm_types.specs.declared.names.BlockId.TheVariants as block
use Rattle.vm_types.specs.declared.config.Config.{Config}
use Rattle.pager_model.specs.Maps.{section_bytes}
use Rattle.pager_model.specs.CountedBlock.{told_plan}

-- each frame's buffer is home and has a page's length
pub record HasNewBuffers (config : Config) (buffer : ℕ → Option (List ℕ)) : Type 0 where
  pub sizes : (f : ℕ) (bytes : List ℕ) → buffer f ≡ Some bytes → length bytes ≡ PAGE_BYTES
  pub home : (f : ℕ) → f < config.frames → is_some (buffer f) ≡ true

-- a block that was never called, with the plan that the configuration gives it
pub record IsNewBlock (tells_plan : Bool) (config : Config) (b : BlockId) (x : BlockView) : Type 0 where
  pub reads : x.reads ≡ 0
  pub writes : x.writes ≡ 0
  pub faults : x.faults ≡ 0
  pub plan : x.plan ≡ told_plan config tells_plan b

-- each block of the configuration is home and new, and those of sections have the sections' bytes
pub record HasNewHomes (tells tells_plan : Bool) (config : Config) (home : BlockId → Option BlockView) : Type 0 where
  pub blocks : (b : BlockId) → IsBlock config b → is_some (home b) ≡ true
  pub only : (b : BlockId) (x : BlockView) → home b ≡ Some x → IsBlock config b
  pub fresh : (b : BlockId) (x : BlockView) → home b ≡ Some x → IsNewBlock tells_plan config b x
  pub first : tells ≡ true → (s : SecId) (i : ℕ) (x : BlockView) → home (block.Section s i) ≡ Some x → x.content ≡ Some (section_bytes config s.0 i)
