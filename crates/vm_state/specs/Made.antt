-- A block as it is made. This project's own.
use Rattle.std.specs.Prelude.{◌≡◌, ℕ, true, Some}
use Rattle.vm_types.specs.BlockView.{BlockView, Tells}
use Rattle.vm_types.specs.declared.config.Config.{Config}
use Rattle.vm_types.specs.declared.names.BlockId.{BlockId}
use Rattle.vm_types.specs.declared.names.BlockId.TheVariants as block
use Rattle.vm_types.specs.declared.names.SecId.{SecId}
use Rattle.pager_model.specs.Maps.{section_bytes}
use Rattle.content_laws.specs.Opening.{IsNewBlock}

-- never called, with the configuration's plan; and where the bytes of blocks are known, that of a section's page has
-- the section's bytes
pub record IsMade (tells : Tells) (config : Config) (b : BlockId) (x : BlockView) : Type 0 where
  pub fresh : IsNewBlock tells.plan config b x
  pub first : tells.content ≡ true → (s : SecId) (i : ℕ) → b ≡ block.Section s i → x.content ≡ Some (section_bytes config s.0 i)
