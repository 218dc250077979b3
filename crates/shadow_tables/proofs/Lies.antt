-- Where pages lie at first.
use Rattle.std.proofs.Common.{◌≡◌, Bool, Option, Some, None, cond, refl, ap, ◌∙◌, map}
use Rattle.std.specs.Option.{option_map}
use Rattle.std.specs.Prelude.{slice_get}
use Rattle.std.proofs.lemmas.Option.{slice_get-map}
use Rattle.vm_types.specs.Kinds.{paged_of}
use Rattle.vm_types.specs.declared.config.Config.{Config}
use Rattle.vm_types.specs.declared.config.Section.{Section}
use Rattle.vm_types.specs.declared.names.Page.{Page}
use Rattle.vm_types.specs.declared.names.BlockId.TheVariants as block
use Rattle.vm_types.specs.declared.names.Page.TheVariants.{Private, Shared}
use Rattle.pager_model.specs.Opening.{first_block}
use Rattle.shadow_tables.specs.Lying.{first_by, is_paged_one}

-- the kinds of the configuration's sections say where a page lies at first
pub first_same : (config : Config) (g : Page) → first_by (map (λ (x : Section). x.kind) config.sections) g ≡ first_block config g
first_same config (Private p v) = refl
first_same config (Shared s i) = ap (λ (b : Bool). cond b None (Some (block.Section s i))) (ap is_paged_one (slice_get-map (λ (x : Section). x.kind) config.sections s.0) ∙ go (slice_get config.sections s.0))
  where
    go : (o : Option Section) → is_paged_one (option_map (λ (x : Section). x.kind) o) ≡ paged_of o
    go None = refl
    go (Some x) = refl
