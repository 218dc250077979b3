-- What is seen in a slot of a working set. This project's own.
use Rattle.std.specs.Prelude.{◌<◌, ◌^◌}
use Rattle.vm_types.specs.declared.config.Config.{Config}
use Rattle.vm_types.specs.declared.names.Page.{Page}
use Rattle.vm_types.specs.declared.names.Page.TheVariants.{Private, Shared}
use Rattle.pager_policy.specs.Given.{Seen as Shown}
use Rattle.vm_swapper.specs.declared.seen.Seen.{Seen}

-- the same with plain numbers
abbrev pub seen_as : Seen → Shown
seen_as x = record { vpn = x.vpn; frame = (x.frame).0; page = x.page; pinned = x.pinned }

-- its frame is one of the configuration, and its page number is small
pub record IsPlaced (config : Config) (x : Seen) : Type 0 where
  pub within : (x.frame).0 < config.frames
  pub small : x.vpn < 2 ^ 23

-- the number of a private page is small
abbrev pub HasSmallNumber : Page → Type 0
HasSmallNumber (Private p v) = v < 2 ^ 23
HasSmallNumber (Shared s i) = Unit {0}
