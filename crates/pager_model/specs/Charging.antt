-- Which page isn't charged in the page file yet, and from which block such a page is read. This project's own.
use Rattle.std.specs.Prelude.{Bool, ◌&&◌, Option, None, nat_eq}
use Rattle.vm_types.specs.declared.names.Page.{Page}
use Rattle.vm_types.specs.declared.names.Page.TheVariants.{Private, Shared}
use Rattle.vm_types.specs.declared.names.BlockId.{BlockId}
use Rattle.vm_types.specs.declared.config.Config.{Config}
use Rattle.pager_model.specs.Lookups.{count_page, section_at}
use Rattle.pager_model.specs.Maps.{Mapped, is_paged}
use Rattle.pager_model.specs.Pager.{Pager}

-- a page that has a block of the page file, and isn't charged
abbrev pub is_uncharged : Config → Pager → Page → Bool
is_uncharged config a g = is_paged config g && nat_eq (count_page a.charged g) 0

-- a private page is read from its section first; a shared one is made of zeros
abbrev pub first_source : Page → Option Mapped → Option BlockId
first_source (Private p v) m = section_at m
first_source (Shared s i) m = None
