-- Pages of the configuration's sections.
use Rattle.vm_types.specs.declared.config.Config.{Config}
use Rattle.vm_types.specs.declared.config.Origin.{Origin}
use Rattle.vm_types.specs.declared.config.Origin.TheVariants as origin
use Rattle.flat_model.specs.Usable.{IsOrigin}
use Rattle.pager_model.specs.OfConfig.{IsOrigin as IsOriginOf}

pub origin_in : (config : Config) (o : Origin) → IsOriginOf config o → IsOrigin config.sections o
origin_in config origin.Zero is = is
origin_in config (origin.Section s i) is = is
